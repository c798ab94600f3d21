-- What the invariants say of a heap after a trace, clause by clause.
use Rattle.std.proofs.Common.{◌≡◌, ◌≢◌, ℕ, ◌+◌, ◌-◌, ◌/◌, ◌%◌, ◌<◌, ◌≤◌, ◌⊎◌, inl, inr, false, true≢false, if◌then◌else◌, ◌&&◌, not, IsTrue, nat_eq, nat_lt, List, slice_index, refl, sym, ap, ◌∙◌, subst, arith, Option, Some, None, count_by}
use Rattle.std.specs.Prelude.{is_some}
use Rattle.std.specs.Int.{bit_at}
use Rattle.std.proofs.lemmas.Bool.{cases_eq, cases_lt, cases_Bool, cond-true, cond-false, and_parts, eqb-true, ltb-true, ne_eqb, eq-eqb, not-true, and_right, true_from_ne_false}
use Rattle.heap_layout.specs.Zones.{StopWord, BudgetWord, InZone, PinBits, row_words, heap_of, first, IsAddress}
use Rattle.heap_layout.specs.declared.block.Kind.{Kind}
use Rattle.heap_layout.specs.declared.block.Kind.TheVariants as kinds
use Rattle.heap_layout.specs.Blocks.{kind_code, kind_of_code}
use Rattle.heap_layout.proofs.BlockLemmas.{kind_of_code-kind_code, kind_code_most}
use Rattle.object_model.specs.Objects.{word_at, block_word, HasKind, IsHeld, IsInExtent, IsInExtentOf, ref_at, is_reference, is_unlogged, is_pinned}
use Rattle.object_model.proofs.Marks as marks
use Rattle.trace_core.specs.Setups.{Setup, blocks, held, size, refs, stays_old, was_logged, keeps_its_words, may_be_moved}
use Rattle.trace_core.specs.Machine.{Stage, Unclaimed, Copying, Scanning, target, Machine, Event, claimed_word, copied_word, step_of_offset, forward, IsSettled, taken_word, address_or_nil, first_stage, first_machine}
use Rattle.trace_core.specs.Traces.{HasCopyRoom, IsTracing, machine_after, heap_after, stage_of, target_of, fields_scanned, is_claim_of, is_scan_of}
use Rattle.trace_core.proofs.Steps.{copied-plain}
use Rattle.trace_core.proofs.Objects.{IsPlaced, CopyingObject, ScanningObject, ObjectIs, Some-injective, None-not-Some}
use Rattle.trace_core.proofs.Places as places
use Rattle.trace_core.proofs.FirstInvariant.{remembered, first-old, first-young, kept-words}
use Rattle.trace_core.proofs.Once.{one_if, targets-in, claims, scans}
use Rattle.object_model.proofs.Marks.{mark-same}
use Rattle.trace_core.proofs.Sides.{StartsAt, UnlogsAt}
use Rattle.trace_core.proofs.Law.{Sound, sound}

module _ (p : Setup) (es : List Event) (trace : IsTracing p es) where
  abbrev m : Machine
  m = machine_after p es

  s : Sound p (machine_after p es)
  s = sound p es trace

  abbrev pub Placed : ℕ → ℕ → Type 0
  Placed x t = IsPlaced p (slice_index m.words) m.stage m.owner m.taken x t

  pub held-of : (x t : ℕ) → target_of p es x ≡ Some t → IsTrue (held p x)
  held-of x t is = places.held-of p trace.ready m.words m.stage m.owner m.taken s.objects x t is

  pub placed : (x t : ℕ) → target_of p es x ≡ Some t → Placed x t
  placed x t is = places.placed p trace.ready m.words m.stage m.owner m.taken s.objects x t is

  target-apart : (x t o : ℕ) → target_of p es x ≡ Some t → o < size p x → (y j : ℕ) → IsTrue (held p y) → y ≢ x → j < size p y → y + j ≢ t + o
  target-apart x t o is l = places.target-apart p trace.ready m.words m.stage m.owner m.taken s.objects x t o (held-of x t is) (placed x t is) l

  -- a word that has an owner is one of its target, where it moved
  pub owned-word : (a x : ℕ) → m.owner a ≡ Some x → (t : ℕ) × (target_of p es x ≡ Some t) × (t ≢ x) × IsInExtentOf t (size p x) a
  owned-word a x own = let d = s.objects.owned a x own in (d.at, d.same, d.moved, record { from = d.from; below = d.below })

  -- two targets have no word in common
  pub targets-apart : (x y t u i : ℕ) → x ≢ y → target_of p es x ≡ Some t → target_of p es y ≡ Some u → IsInExtentOf t (size p x) i → IsInExtentOf u (size p y) i → ⊥
  targets-apart x y t u i differ is js inside within =
      let a : t ≤ i = inside.from in let b : i < t + size p x = inside.below in let c : u ≤ i = within.from in let d : i < u + size p y = within.below in
      elim (placed y u js) as (λ _. ⊥) [
        | inl same ↦ target-apart x t (i - t) is (omega arith) y (i - u) (held-of y u js) (λ e. differ (sym e)) (omega arith) (omega arith)
        | inr room ↦ places.target-unowned p trace.ready m.words m.stage m.owner m.taken s.objects x t (i - t) (held-of x t is) (placed x t is) (omega arith) y (u + (i - u)) (λ e. differ (sym e))
            (room.1 (i - u) (omega arith)) (omega arith)
      ]

  pub one-to-one : (x y t : ℕ) → target_of p es x ≡ Some t → target_of p es y ≡ Some t → x ≡ y
  one-to-one x y t is js = elim (cases_eq x y) as (λ _. x ≡ y) [
    | inl e ↦ e
    | inr differ ↦ absurd (targets-apart x y t t t differ is js (record { from = omega arith; below = omega arith }) (record { from = omega arith; below = omega arith }))
  ]

  -- a target has a word of a held object only in place
  pub extents-apart : (x y t i : ℕ) → target_of p es x ≡ Some t → IsHeld p.before y → IsInExtentOf t (size p x) i → IsInExtent p.before y i → (x ≡ y) × (t ≡ x)
  extents-apart x y t i is there inside within =
      let a : t ≤ i = inside.from in let b : i < t + size p x = inside.below in let c : y ≤ i = within.from in let d : i < y + size p y = within.below in
      elim (cases_eq y x) as (λ _. (x ≡ y) × (t ≡ x)) [
        | inl e ↦ (
          sym e,
          elim (placed x t is) as (λ _. t ≡ x) [
            | inl same ↦ same
            | inr room ↦ absurd (places.room-clear p trace.ready m.words m.stage m.owner m.taken s.objects x t (i - t) y (i - y) room.0 (omega arith) there.start (omega arith) (omega arith))
          ],
        )
        | inr differ ↦ absurd (target-apart x t (i - t) is (omega arith) y (i - y) there.start differ (omega arith) (omega arith))
      ]

  pub targets-inside : (x t i : ℕ) → target_of p es x ≡ Some t → IsInExtentOf t (size p x) i → IsAddress (blocks p) i
  targets-inside x t i is inside =
      let a : t ≤ i = inside.from in let b : i < t + size p x = inside.below in
      let from : heap_of (blocks p) ≤ t = places.target-from p trace.ready m.words m.stage m.owner m.taken s.objects x t (held-of x t is) (placed x t is) in
      let below : t + (i - t) < row_words (blocks p) = places.target-below p trace.ready m.words m.stage m.owner m.taken s.objects x t (i - t) (held-of x t is) (placed x t is) (omega arith) in
      record { from = omega arith; below = omega arith }

  pub has-room : (x t : ℕ) → target_of p es x ≡ Some t → t ≢ x → HasCopyRoom p m.taken x t
  has-room x t is moved = places.room-of p trace.ready m.words m.stage m.owner m.taken s.objects x t (placed x t is) moved

  -- the words of an object at its old place
  abbrev Waits : ℕ → ℕ → Stage → Type 0
  Waits x o st = (word_at (heap_after p es) (x + o) ≡ word_at p.before (x + o)) ⊎ ((k : ℕ) × (st ≡ Scanning x k) × (3 ≤ o) × (o < 3 + k))

  waits-by : (x o : ℕ) → o < size p x → o ≢ 2 → (st : Stage) → ObjectIs p (slice_index m.words) m.stage m.owner m.taken x st → Waits x o st
  waits-by x o l ne Unclaimed is = inl (is.intact o l ne)
  waits-by x o l ne (Copying t k) is = inl (is.intact o l ne)
  waits-by x o l ne (Scanning t k) is = elim is.source as (λ _. Waits x o (Scanning t k)) [
    | inl same ↦ elim (cases_lt o 3) as (λ _. Waits x o (Scanning t k)) [
      | inl early ↦ inl (is.header o (omega arith))
      | inr late ↦ elim (cases_lt o (3 + k)) as (λ _. Waits x o (Scanning t k)) [
        | inl scanned ↦ inr (k, ap (λ z. Scanning z k) same, omega arith, scanned)
        | inr rest ↦ inl (ap (λ z. slice_index m.words (z + o)) (sym same) ∙ is.rest o l (inr (omega arith)) ∙ copied-plain p x t o ne)
      ]
    ]
    | inr intact ↦ inl (intact o l ne)
  ]

  pub waits : (x o : ℕ) → IsHeld p.before x → o < size p x → o ≢ 2 → Waits x o (stage_of p es x)
  waits x o there l ne = waits-by x o l ne (m.stage x) (s.objects.objects x there.start)

  -- the collector word of an object
  collector-by : (x : ℕ) (st : Stage) → ObjectIs p (slice_index m.words) m.stage m.owner m.taken x st → (t : ℕ) → target st ≡ Some t → word_at (heap_after p es) (x + 2) ≡ claimed_word p x t
  collector-by x Unclaimed is t e = absurd (None-not-Some t e)
  collector-by x (Copying u k) is t e = is.collector ∙ ap (claimed_word p x) (Some-injective u t e)
  collector-by x (Scanning u k) is t e = is.collector ∙ ap (claimed_word p x) (Some-injective u t e)

  pub collector : (x t : ℕ) → target_of p es x ≡ Some t → word_at (heap_after p es) (x + 2) ≡ claimed_word p x t
  collector x t is = collector-by x (m.stage x) (s.objects.objects x (held-of x t is)) t is

  unclaimed-by : (x : ℕ) (st : Stage) → ObjectIs p (slice_index m.words) m.stage m.owner m.taken x st → target st ≡ None → word_at (heap_after p es) (x + 2) ≡ word_at p.before (x + 2)
  unclaimed-by x Unclaimed is e = is.collector
  unclaimed-by x (Copying u k) is e = absurd (None-not-Some u (sym e))
  unclaimed-by x (Scanning u k) is e = absurd (None-not-Some u (sym e))

  pub unclaimed : (x : ℕ) → IsHeld p.before x → target_of p es x ≡ None → word_at (heap_after p es) (x + 2) ≡ word_at p.before (x + 2)
  unclaimed x there is = unclaimed-by x (m.stage x) (s.objects.objects x there.start) is

  -- the words of a target
  pub copying : (x t k : ℕ) → stage_of p es x ≡ Copying t k → CopyingObject p (slice_index m.words) m.stage m.owner m.taken x t k
  copying x t k is = subst (ObjectIs p (slice_index m.words) m.stage m.owner m.taken x) is (s.objects.objects x (held-of x t (ap target is)))

  scanning : (x t k : ℕ) → stage_of p es x ≡ Scanning t k → ScanningObject p (slice_index m.words) m.stage m.owner m.taken x t k
  scanning x t k is = subst (ObjectIs p (slice_index m.words) m.stage m.owner m.taken x) is (s.objects.objects x (held-of x t (ap target is)))

  pub copied : (x t k o : ℕ) → stage_of p es x ≡ Copying t k → o < size p x → step_of_offset (size p x) o < k → word_at (heap_after p es) (t + o) ≡ copied_word p x t o
  copied x t k o is = (copying x t k is).copied o

  pub whole : (x t k o : ℕ) → stage_of p es x ≡ Scanning t k → o < size p x → (o < 3) ⊎ (3 + k ≤ o) → word_at (heap_after p es) (t + o) ≡ copied_word p x t o
  whole x t k o is = (scanning x t k is).rest o

  pub scanned-few : (x t k : ℕ) → stage_of p es x ≡ Scanning t k → k ≤ refs p x
  scanned-few x t k is = (scanning x t k is).fields

  pub settled : (x t k i : ℕ) → stage_of p es x ≡ Scanning t k → i < k → IsSettled (stage_of p es) (ref_at p.before x i)
  settled x t k i is = (scanning x t k is).settled i

  pub forwarded : (x t k i : ℕ) → stage_of p es x ≡ Scanning t k → i < k → ref_at (heap_after p es) t i ≡ forward (stage_of p es) (ref_at p.before x i)
  forwarded x t k i is = (scanning x t k is).scanned i

  -- bits
  by-scanning : (x a : ℕ) (st : Stage) → m.stage x ≡ st → StartsAt p x st a → (k : ℕ) × (m.stage x ≡ Scanning a k)
  by-scanning x a Unclaimed is now = absurd now
  by-scanning x a (Copying t k) is now = absurd now
  by-scanning x a (Scanning t k) is now = (k, is ∙ ap (λ z. Scanning z k) now)

  pub starts-from : (a : ℕ) → IsHeld (heap_after p es) a → IsHeld p.before a ⊎ ((x k : ℕ) × (stage_of p es x ≡ Scanning a k))
  starts-from a now = elim (s.sides.starts.from a now.start) as (λ _. IsHeld p.before a ⊎ ((x k : ℕ) × (stage_of p es x ≡ Scanning a k))) [
    | inl was ↦ inl (marks.held p.before a was)
    | inr by ↦ (let d = by-scanning by.0 a (m.stage by.0) refl by.1 in inr (by.0, d.0, d.1))
  ]

  pub starts-kept : (a : ℕ) → IsHeld p.before a → IsHeld (heap_after p es) a
  starts-kept a was = marks.held (heap_after p es) a (s.sides.starts.kept a was.start)

  pub starts-done : (x t k : ℕ) → stage_of p es x ≡ Scanning t k → IsHeld (heap_after p es) t
  starts-done x t k is = marks.held (heap_after p es) t (s.sides.starts.done t (x, subst (λ st. StartsAt p x st t) (sym is) refl))

  pub unlogs-kept : (a : ℕ) → IsTrue (is_unlogged p.before a) → IsTrue (is_unlogged (heap_after p es) a)
  unlogs-kept a was = s.sides.unlogs.kept a was

  pub unlogs-done : (x t k : ℕ) → stays_old p x ≡ false → stage_of p es x ≡ Scanning t k → IsTrue (is_unlogged (heap_after p es) t)
  unlogs-done x t k young is = s.sides.unlogs.done t (x, subst (λ st. UnlogsAt p x st t) (sym is) (refl, young))

  abbrev Unlogged : ℕ → Type 0
  Unlogged a = (x k : ℕ) × (stays_old p x ≡ false) × ((stage_of p es x ≡ Scanning a k) ⊎ ((stage_of p es x ≡ Copying a k) × (size p x < k)))

  unlog-stage : (x a : ℕ) (st : Stage) → m.stage x ≡ st → UnlogsAt p x st a → Unlogged a
  unlog-stage x a Unclaimed is now = absurd now
  unlog-stage x a (Copying t k) is now = (x, k, (copying x t k is).young, inr (is ∙ ap (λ z. Copying z k) now.0, now.1))
  unlog-stage x a (Scanning t k) is now = (x, k, now.1, inl (is ∙ ap (λ z. Scanning z k) now.0))

  pub unlogs-from : (a : ℕ) → IsTrue (is_unlogged (heap_after p es) a) → IsTrue (is_unlogged p.before a) ⊎ Unlogged a
  unlogs-from a now = elim (s.sides.unlogs.from a now) as (λ _. IsTrue (is_unlogged p.before a) ⊎ Unlogged a) [
    | inl was ↦ inl was
    | inr by ↦ inr (unlog-stage by.0 a (m.stage by.0) refl by.1)
  ]

  pub pins : (a : ℕ) → is_pinned (heap_after p es) a ≡ is_pinned p.before a
  pins a = mark-same (blocks p) PinBits p.before.words m.words a (λ there.
      let from : heap_of (blocks p) ≤ a = there.from in let below : a < row_words (blocks p) = there.below in
      ap (λ w. nat_eq (bit_at w ((a - heap_of (blocks p)) % 64)) 1) (s.sides.rest.pins (first (blocks p) PinBits + (a - heap_of (blocks p)) / 64) (record { from = omega arith; below = omega arith })))

  -- blocks
  pub none-is-free : (x : ℕ) → target_of p es x ≡ Some x → stays_old p x ≡ false → IsTrue (may_be_moved p x) → (b : ℕ) → HasKind (heap_after p es) b kinds.Free → ⊥
  none-is-free x is young moves b free =
      let both = and_parts (nat_lt b (blocks p)) _ free in
      let there : b < blocks p = ltb-true b (blocks p) both.0 in
      let code : block_word (heap_after p es) b % 256 ≡ 0 = eqb-true (block_word (heap_after p es) b % 256) 0 both.1 in
      let word = s.sides.blocks.word b there in
      elim (cases_eq (m.taken b) 0) as (λ _. ⊥) [
        | inl none ↦ (let same : block_word (heap_after p es) b ≡ block_word p.before b = word ∙ cond-true (nat_eq (m.taken b) 0) (block_word p.before b) (taken_word p (m.taken b)) (eq-eqb (m.taken b) 0 none) in
            let was : HasKind p.before b kinds.Free = subst (λ w. IsTrue (nat_lt b (blocks p) && nat_eq (w % 256) 0)) same free in
            let some : 0 < m.taken b = s.reasons.stays x is young moves b was in omega arith)
        | inr some ↦ (let at : m.taken b ≢ 0 = some in
            let same : block_word (heap_after p es) b ≡ taken_word p (m.taken b) = word ∙ cond-false (nat_eq (m.taken b) 0) (block_word p.before b) (taken_word p (m.taken b)) (ne_eqb (m.taken b) 0 some) in
            let most : kind_code p.copy ≤ 8 = kind_code_most p.copy in
            let zero : kind_code p.copy ≡ 0 = omega arith in
            s.sides.blocks.copies b (omega arith) (Some-kind (sym (kind_of_code-kind_code p.copy) ∙ ap kind_of_code zero)))
      ]
    where
      Some-kind : Some p.copy ≡ Some kinds.Free → p.copy ≡ kinds.Free
      Some-kind e = ap (λ (o : Option Kind). (elim o as (λ _. Kind) [ None ↦ kinds.Free | Some k ↦ k ])) e

  -- old objects
  pub old-target : (x : ℕ) → IsTrue (stays_old p x) → target_of p es x ≡ Some x
  old-target x aged = ap target (s.objects.old x aged).same

  pub idle-stage : (x : ℕ) → IsTrue (stays_old p x) → was_logged p x ≡ false → stage_of p es x ≡ Scanning x (refs p x)
  idle-stage x aged idle = let d = s.objects.old x aged in d.same ∙ ap (Scanning x) (d.not_logged idle)

  pub idle-fields : (x i : ℕ) → IsTrue (stays_old p x) → was_logged p x ≡ false → i < refs p x → ref_at (heap_after p es) x i ≡ ref_at p.before x i
  idle-fields x i aged idle more =
      let v : ℕ = ref_at p.before x i in
      forwarded x x (refs p x) i (idle-stage x aged idle) more ∙ elim (cases_Bool (is_reference v)) as (λ _. forward (stage_of p es) (ref_at p.before x i) ≡ ref_at p.before x i) [
        | inl reference ↦ cond-true (is_reference v) (address_or_nil (target (stage_of p es v))) v reference ∙ ap address_or_nil (old-target v (remembered p trace.ready x i aged idle more reference))
        | inr plain ↦ cond-false (is_reference v) (address_or_nil (target (stage_of p es v))) v plain
      ]

  logged-of : (x : ℕ) → IsTrue (keeps_its_words p x) → IsTrue (stays_old p x) × (was_logged p x ≡ false)
  logged-of x idle = let both = and_parts (stays_old p x) (not (p.logged x)) idle in
      (both.0, and_right (stays_old p x) (p.logged x) (not-true (p.logged x) both.1))

  pub idle-target : (x : ℕ) → IsTrue (keeps_its_words p x) → stage_of p es x ≡ Scanning x (refs p x)
  idle-target x idle = let d = logged-of x idle in idle-stage x d.0 d.1

  pub idle-refs : (x i : ℕ) → IsTrue (keeps_its_words p x) → i < refs p x → ref_at (heap_after p es) x i ≡ ref_at p.before x i
  idle-refs x i idle = let d = logged-of x idle in idle-fields x i d.0 d.1

  -- block words and the first two words
  pub untaken-word : (b : ℕ) → b < blocks p → m.taken b ≡ 0 → block_word (heap_after p es) b ≡ block_word p.before b
  untaken-word b there none = s.sides.blocks.word b there ∙ cond-true (nat_eq (m.taken b) 0) (block_word p.before b) (taken_word p (m.taken b)) (eq-eqb (m.taken b) 0 none)

  pub taken-block-word : (b : ℕ) → b < blocks p → 0 < m.taken b → block_word (heap_after p es) b ≡ taken_word p (m.taken b)
  taken-block-word b there some = s.sides.blocks.word b there ∙ cond-false (nat_eq (m.taken b) 0) (block_word p.before b) (taken_word p (m.taken b)) (ne_eqb (m.taken b) 0 (λ z. omega arith))

  pub stop-word : (i : ℕ) → InZone (blocks p) StopWord i ⊎ InZone (blocks p) BudgetWord i → word_at (heap_after p es) i ≡ word_at p.before i
  stop-word i there = elim there as (λ _. word_at (heap_after p es) i ≡ word_at p.before i) [ inl a ↦ s.sides.rest.stop i a | inr a ↦ s.sides.rest.budget i a ]

  -- counts
  pub claimed-once : (x : ℕ) → stays_old p x ≡ false → count_by (is_claim_of x) es ≡ (if is_some (target_of p es x) then 1 else 0)
  claimed-once x young = let total : targets-in (m.stage x) ≡ targets-in (first_stage p x) + count_by (is_claim_of x) es = claims p x (first_machine p) es trace.events in
      let none : targets-in (first_stage p x) ≡ 0 = ap targets-in (first-young p trace.ready x young) in omega arith

  pub old-unclaimed : (x : ℕ) → IsTrue (stays_old p x) → count_by (is_claim_of x) es ≡ 0
  old-unclaimed x aged = let total : targets-in (m.stage x) ≡ targets-in (first_stage p x) + count_by (is_claim_of x) es = claims p x (first_machine p) es trace.events in
      let one : targets-in (first_stage p x) ≡ 1 = ap targets-in (first-old p trace.ready x aged) in
      let now : targets-in (m.stage x) ≡ 1 = ap (λ o. one_if (is_some o)) (old-target x aged) in omega arith

  pub scanned-once : (x : ℕ) → keeps_its_words p x ≡ false → count_by (is_scan_of x) es ≡ fields_scanned (stage_of p es x)
  scanned-once x busy = let total : fields_scanned (m.stage x) ≡ fields_scanned (first_stage p x) + count_by (is_scan_of x) es = scans p x (first_machine p) es trace.events in
      let none : fields_scanned (first_stage p x) ≡ 0 = elim (cases_Bool (stays_old p x)) as (λ _. fields_scanned (first_stage p x) ≡ 0) [
        | inl aged ↦ ap fields_scanned (first-old p trace.ready x aged) ∙ cond-true (was_logged p x) 0 (refs p x)
            (true_from_ne_false (was_logged p x) (λ other. true≢false (sym (kept-words p trace.ready x aged other) ∙ busy)))
        | inr young ↦ ap fields_scanned (first-young p trace.ready x young)
      ] in omega arith

  pub idle-unscanned : (x : ℕ) → IsTrue (keeps_its_words p x) → count_by (is_scan_of x) es ≡ 0
  idle-unscanned x idle = let d = logged-of x idle in let total : fields_scanned (m.stage x) ≡ fields_scanned (first_stage p x) + count_by (is_scan_of x) es = scans p x (first_machine p) es trace.events in
      let was : fields_scanned (first_stage p x) ≡ refs p x = ap fields_scanned (first-old p trace.ready x d.0) ∙ cond-false (was_logged p x) 0 (refs p x) d.1 in
      let now : fields_scanned (m.stage x) ≡ refs p x = ap fields_scanned (idle-target x idle) in omega arith
