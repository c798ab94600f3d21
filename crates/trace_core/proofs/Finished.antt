-- A finished trace preserves the graph.
use Rattle.std.proofs.Common.{◌≡◌, ◌≢◌, ℕ, ◌+◌, ◌*◌, ◌/◌, ◌%◌, ◌^◌, ◌<◌, ◌≤◌, ◌⊎◌, ◌↔◌, inl, inr, false, true≢false, ◌&&◌, ◌||◌, not, IsTrue, nat_eq, nat_lt, nat_le, List, map, slice_index, refl, sym, ap, ◌∙◌, subst, arith, Option, Some, None}
use Rattle.std.proofs.lemmas.Bool.{lt-ltb, or_left, or_right, cases_eq, cases_Bool, cond-true, cond-false, and_parts, and_from, eqb-true, leb-true, le-leb, eq-eqb, ne_eqb, not_from_true, not_from_false, false_from_ne_true}
use Rattle.forward_word.specs.CollectorWords.{collector_word, number_in, target_in}
use Rattle.heap_layout.specs.Zones.{row_words, heap_of, block_at}
use Rattle.ideal_heap.specs.Names.{name_of}
use Rattle.object_model.specs.Objects.{HeapState, word_at, global_at, IsHeld, refs_at, ref_at, number_at, target_at, is_reference, is_pinned, is_start}
use Rattle.object_model.specs.Ages as ages
use Rattle.object_model.specs.Ages.{is_survivor, Lives}
use Rattle.object_model.specs.Graphs.{IsReachable, from_root, from_global, from_field}
use Rattle.object_model.specs.Preserving.{PreservesObjects, SameObject, field_after}
use Rattle.object_model.proofs.Marks as marks
use Rattle.trace_core.specs.Setups.{Setup, blocks, collection, held, size, refs, stays_old, may_be_moved}
use Rattle.trace_core.specs.Machine.{target, Event, claimed_word, copied_word, forward, IsSettled, address_or_nil}
use Rattle.trace_core.specs.Traces.{IsTracing, IsFinished, TraceKeeps, FromRoot, FromGlobal, FromOld, ByReference, machine_after, heap_after, stage_of, target_of}
use Rattle.trace_core.specs.Outcomes.{base_after_trace, image, HaveAsked, NoOthersAsked}
use Rattle.trace_core.proofs.Steps.{copied-plain, copied-collector}
use Rattle.trace_core.proofs.FirstInvariant.{held-of-old, age-of, nursery-of}
use Rattle.trace_core.proofs.Objects.{Some-injective, None-not-Some}
use Rattle.trace_core.proofs.Places as places
use Rattle.trace_core.proofs.Law.{sound}
use Rattle.trace_core.proofs.Clauses.{held-of, one-to-one, targets-inside, has-room, collector, unclaimed, whole, forwarded, settled, starts-from, starts-done, pins, old-target}

pub option-cases : (o : Option ℕ) → (o ≡ None) ⊎ ((t : ℕ) × (o ≡ Some t))
option-cases None = inl refl
option-cases (Some t) = inr (t, refl)

some-by : (o : Option ℕ) → 0 < address_or_nil o → o ≡ Some (address_or_nil o)
some-by None some = absurd (omega arith)
some-by (Some t) some = refl

-- the parts of a collector word
pub parts-of : (n t w : ℕ) → t < 2 ^ 24 → w ≡ collector_word n t → (number_in w ≡ n) × (target_in w ≡ t)
parts-of n t w small is = let e : w ≡ n * 16777216 + t = is in (omega arith, omega arith)

module _ (p : Setup) (es : List Event) (trace : IsTracing p es) (finished : IsFinished p (machine_after p es)) where
  abbrev after : HeapState
  after = heap_after p es

  abbrev F : ℕ → ℕ
  F = image (stage_of p es)

  target-from : (a t : ℕ) → target_of p es a ≡ Some t → (heap_of (blocks p) ≤ t) × (t < row_words (blocks p))
  target-from a t is = let at = targets-inside p es trace a t t is (record { from = omega arith; below = omega arith }) in (at.from, at.below)

  pub image-is : (a t : ℕ) → target_of p es a ≡ Some t → F a ≡ t
  image-is a t is = ap address_or_nil is

  pub image-some : (a t : ℕ) → target_of p es a ≡ Some t → 0 < F a
  image-some a t is = let e = image-is a t is in let at = (target-from a t is).0 in omega arith

  pub has-target : (a : ℕ) → 0 < F a → target_of p es a ≡ Some (F a)
  has-target a some = some-by (target_of p es a) some

  none-at-nil : held p 0 ≡ false
  none-at-nil = false_from_ne_true (held p 0) (λ start. (let from : heap_of (blocks p) ≤ 0 = places.object-from p trace.ready 0 start in omega arith))

  nil-stays : F 0 ≡ 0
  nil-stays = ap (λ st. address_or_nil (target st)) ((sound p es trace).objects.outside 0 none-at-nil)

  -- the words of a target that are no fields
  word-of : (a t o : ℕ) → target_of p es a ≡ Some t → o < size p a → (o < 3) ⊎ (3 + refs p a ≤ o) → word_at after (t + o) ≡ copied_word p a t o
  word-of a t o is l which = whole p es trace a t (refs p a) o (finished.objects a t is) l which

  plain-word : (a t o : ℕ) → target_of p es a ≡ Some t → o < size p a → o ≢ 2 → (o < 3) ⊎ (3 + refs p a ≤ o) → word_at after (t + o) ≡ word_at p.before (a + o)
  plain-word a t o is l ne which = word-of a t o is l which ∙ copied-plain p a t o ne

  mark-of : (a t : ℕ) → target_of p es a ≡ Some t → word_at after (t + 2) ≡ claimed_word p a t
  mark-of a t is = word-of a t 2 is (omega arith) (inl (omega arith)) ∙ copied-collector p a t 2 refl

  -- the row is small enough for targets
  small : (t : ℕ) → t < row_words (blocks p) → t < 2 ^ 24
  small t below = let most : p.before.blocks ≤ 1024 = trace.ready.lawful.order.row.most in omega arith

  young-mark : (a t : ℕ) → stays_old p a ≡ false → claimed_word p a t ≡ collector_word (collection p) t
  young-mark a t young = cond-false (stays_old p a) (word_at p.before (a + 2)) (collector_word (collection p) t) young

  old-mark : (a t : ℕ) → IsTrue (stays_old p a) → claimed_word p a t ≡ word_at p.before (a + 2)
  old-mark a t aged = cond-true (stays_old p a) (word_at p.before (a + 2)) (collector_word (collection p) t) aged

  pub base-below : base_after_trace p ≤ collection p
  base-below = elim (cases_Bool p.nursery) as (λ _. base_after_trace p ≤ collection p) [
    | inl nursery ↦ subst (λ n. n ≤ collection p) (sym (cond-true p.nursery p.before.base (collection p) nursery)) (let less : p.before.base ≤ p.before.number = trace.ready.lawful.order.row.base in omega arith)
    | inr full ↦ subst (λ n. n ≤ collection p) (sym (cond-false p.nursery p.before.base (collection p) full)) (omega arith)
  ]

  old-base : (a : ℕ) → IsTrue (stays_old p a) → (base_after_trace p ≤ number_at p.before a) × (0 < number_at p.before a)
  old-base a aged =
      let both = and_parts (nat_lt 0 p.before.base) (nat_le p.before.base (number_at p.before a)) (age-of p trace.ready a aged) in
      let base : base_after_trace p ≡ p.before.base = cond-true p.nursery p.before.base (collection p) (nursery-of p trace.ready a aged) in
      let some : 0 < p.before.base = trace.ready.base (nursery-of p trace.ready a aged) in
      let least : p.before.base ≤ number_at p.before a = leb-true p.before.base (number_at p.before a) both.1 in
      (omega arith, omega arith)

  survivor-from : (x : ℕ) → base_after_trace p ≤ number_at after x → target_at after x ≡ x → IsTrue (is_survivor after (base_after_trace p) x)
  survivor-from x least same = and_from (nat_le (base_after_trace p) (number_at after x)) (nat_eq (target_at after x) x) (le-leb (base_after_trace p) (number_at after x) least) (eq-eqb (target_at after x) x same)

  pub lives : (a t : ℕ) → target_of p es a ≡ Some t → Lives (base_after_trace p) after t
  lives a t is = record {
    held = starts-done p es trace a t (refs p a) (finished.objects a t is);
    survives = elim (cases_Bool (stays_old p a)) as (λ _. IsTrue (is_survivor after (base_after_trace p) t)) [
      | inl aged ↦ (let same : t ≡ a = Some-injective t a (sym is ∙ old-target p es trace a aged) in
          let word : word_at after (t + 2) ≡ word_at p.before (a + 2) = mark-of a t is ∙ old-mark a t aged in
          let old = old-base a aged in
          let header = trace.ready.lawful.order.objects.headers a (marks.held p.before a (held-of-old p trace.ready a aged)) in
          survivor-from t (subst (λ w. base_after_trace p ≤ number_in w) (sym word) old.0) (ap target_in word ∙ header.target old.1 ∙ sym same))
      | inr young ↦ (let parts = parts-of (collection p) t (word_at after (t + 2)) (small t (target-from a t is).1) (mark-of a t is ∙ young-mark a t young) in
          survivor-from t (subst (λ n. base_after_trace p ≤ n) (sym parts.0) base-below) parts.1)
    ];
  }

  -- a claimed object has the number of the collection, an old one the number that it had
  pub claimed-number : (a t : ℕ) → target_of p es a ≡ Some t → stays_old p a ≡ false → number_at after t ≡ collection p
  claimed-number a t is young = (parts-of (collection p) t (word_at after (t + 2)) (small t (target-from a t is).1) (mark-of a t is ∙ young-mark a t young)).0

  pub old-stays : (a : ℕ) → IsTrue (stays_old p a) → (F a ≡ a) × (number_at after a ≡ number_at p.before a)
  old-stays a aged = let goes = old-target p es trace a aged in (image-is a a goes, ap number_in (mark-of a a goes ∙ old-mark a a aged))

  -- its number is that of the collection, or of an earlier one if the object is old
  pub low-number : (a t : ℕ) → target_of p es a ≡ Some t → number_at after t ≤ collection p
  low-number a t is = elim (cases_Bool (stays_old p a)) as (λ _. number_at after t ≤ collection p) [
    | inl aged ↦ (let past : number_at p.before a ≤ p.before.number = (trace.ready.lawful.order.objects.headers a (marks.held p.before a (held-of-old p trace.ready a aged))).number in
        subst (λ w. number_in w ≤ collection p) (sym (mark-of a t is ∙ old-mark a t aged)) (omega arith))
    | inr young ↦ (let parts = parts-of (collection p) t (word_at after (t + 2)) (small t (target-from a t is).1) (mark-of a t is ∙ young-mark a t young) in
        subst (λ n. n ≤ collection p) (sym parts.0) (omega arith))
  ]

  -- an object that was not claimed does not survive
  unclaimed-dies : (x : ℕ) → IsHeld p.before x → target_of p es x ≡ None → IsTrue (is_survivor after (base_after_trace p) x) → ⊥
  unclaimed-dies x there none survives =
      let both = and_parts (nat_le (base_after_trace p) (number_at after x)) (nat_eq (target_at after x) x) survives in
      let least : base_after_trace p ≤ number_at after x = leb-true (base_after_trace p) (number_at after x) both.0 in
      let same : number_at after x ≡ number_at p.before x = ap number_in (unclaimed p es trace x there none) in
      let past : number_at p.before x ≤ p.before.number = (trace.ready.lawful.order.objects.headers x there).number in
      elim (cases_Bool p.nursery) as (λ _. ⊥) [
        | inl nursery ↦ (let base : base_after_trace p ≡ p.before.base = cond-true p.nursery p.before.base (collection p) nursery in
            let young : stays_old p x ≡ false = false_from_ne_true (stays_old p x) (λ aged. None-not-Some x (sym none ∙ old-target p es trace x aged)) in
            let some : 0 < p.before.base = trace.ready.base nursery in
            true≢false (sym (and_from p.nursery (held p x && ages.is_old p.before x) nursery (and_from (held p x) (ages.is_old p.before x) there.start
            (and_from (nat_lt 0 p.before.base) (nat_le p.before.base (number_at p.before x)) (lt-ltb 0 p.before.base some) (le-leb p.before.base (number_at p.before x) (omega arith))))) ∙ young))
        | inr full ↦ (let base : base_after_trace p ≡ collection p = cond-false p.nursery p.before.base (collection p) full in omega arith)
      ]

  -- what lives at the place of an object that was held is that object, in place
  stays-there : (x t : ℕ) → target_of p es x ≡ Some t → IsTrue (is_survivor after (base_after_trace p) x) → t ≡ x
  stays-there x t is survives =
      let both = and_parts (nat_le (base_after_trace p) (number_at after x)) (nat_eq (target_at after x) x) survives in
      let at : target_at after x ≡ x = eqb-true (target_at after x) x both.1 in
      elim (cases_Bool (stays_old p x)) as (λ _. t ≡ x) [
        | inl aged ↦ Some-injective t x (sym is ∙ old-target p es trace x aged)
        | inr young ↦ (let parts = parts-of (collection p) t (word_at after (x + 2)) (small t (target-from x t is).1) (collector p es trace x t is ∙ young-mark x t young) in sym parts.1 ∙ at)
      ]

  pub onto : (x : ℕ) → Lives (base_after_trace p) after x → (a : ℕ) × (0 < F a) × (F a ≡ x)
  onto x live = elim (starts-from p es trace x live.held) as (λ _. (a : ℕ) × (0 < F a) × (F a ≡ x)) [
    | inl there ↦ elim (option-cases (target_of p es x)) as (λ _. (a : ℕ) × (0 < F a) × (F a ≡ x)) [
      | inl none ↦ absurd (unclaimed-dies x there none live.survives)
      | inr some ↦ (x, image-some x some.0 some.1, image-is x some.0 some.1 ∙ stays-there x some.0 some.1 live.survives)
    ]
    | inr by ↦ (by.0, image-some by.0 x (ap target by.2), image-is by.0 x (ap target by.2))
  ]

  not-pinned : (a : ℕ) → IsTrue (may_be_moved p a) → is_pinned p.before a ≡ false
  not-pinned a moves = let left = and_parts (p.from (block_at (blocks p) a) && not (is_pinned p.before a)) _ moves in
      let middle = and_parts (p.from (block_at (blocks p) a)) (not (is_pinned p.before a)) left.0 in
      elim (cases_Bool (is_pinned p.before a)) as (λ _. is_pinned p.before a ≡ false) [
        | inl set ↦ absurd (true≢false (sym middle.1 ∙ ap not set))
        | inr clear ↦ clear
      ]

  pin-of : (a t : ℕ) → target_of p es a ≡ Some t → is_pinned after t ≡ is_pinned p.before a
  pin-of a t is = pins p es trace t ∙ elim (cases_eq t a) as (λ _. is_pinned p.before t ≡ is_pinned p.before a) [
    | inl same ↦ ap (is_pinned p.before) same
    | inr away ↦ (let room = has-room p es trace a t is away in
        let free = (sound p es trace).objects.free (block_at (blocks p) t) room.block in
        false_from_ne_true (is_pinned p.before t) (λ set. (trace.ready.lawful.free (block_at (blocks p) t) free).marks t refl (or_left (is_start p.before t || is_pinned p.before t) _ (or_right (is_start p.before t) (is_pinned p.before t) set)))
        ∙ sym (not-pinned a room.moves))
  ]

  pub same-shape : (a t : ℕ) → target_of p es a ≡ Some t → word_at after (t + 1) ≡ word_at p.before (a + 1)
  same-shape a t is = plain-word a t 1 is (omega arith) (λ e. omega arith) (inl (omega arith))

  pub same-object : (a t : ℕ) → target_of p es a ≡ Some t → SameObject p.before a after t
  same-object a t is =
      let name : word_at after (t + 0) ≡ word_at p.before (a + 0) = plain-word a t 0 is (omega arith) (λ e. omega arith) (inl (omega arith)) in
      let left : t ≡ t + 0 = omega arith in let right : a + 0 ≡ a = omega arith in
      let count : refs_at after t ≡ refs_at p.before a = ap (λ w. w % 65536) (same-shape a t is) in
      record {
        name = ap name_of (ap (word_at after) left ∙ name ∙ ap (word_at p.before) right);
        refs = count;
        nums = ap (λ w. w / 65536) (same-shape a t is);
        numbers = λ j l.
            let at : t + 3 + refs_at after t + j ≡ t + (3 + refs p a + j) = omega arith in
            let was : a + (3 + refs p a + j) ≡ a + 3 + refs_at p.before a + j = omega arith in
            ap (word_at after) at ∙ plain-word a t (3 + refs p a + j) is (omega arith) (λ e. omega arith) (inr (omega arith)) ∙ ap (word_at p.before) was;
        pin = pin-of a t is;
      }

  field-of : (a t i : ℕ) → target_of p es a ≡ Some t → i < refs p a → ref_at after t i ≡ field_after F (ref_at p.before a i)
  field-of a t i is l = forwarded p es trace a t (refs p a) i (finished.objects a t is) l

  settled-some : (v : ℕ) → IsSettled (stage_of p es) v → IsTrue (is_reference v) → 0 < F v
  settled-some v known reference = let d = known reference in image-some v d.0 d.1

  global-of : (g : ℕ) → g < 16 → global_at after g ≡ F (global_at p.before g)
  global-of g few =
      let v : ℕ = global_at p.before g in
      (sound p es trace).sides.globals.value g few
      ∙ cond-true ((machine_after p es).set g) (forward (stage_of p es) (global_at p.before g)) (global_at p.before g) (finished.globals g few)
      ∙ elim (cases_eq (global_at p.before g) 0) as (λ _. forward (stage_of p es) (global_at p.before g) ≡ F (global_at p.before g)) [
        | inl nil ↦ ap (forward (stage_of p es)) nil ∙ sym nil-stays ∙ ap F (sym nil)
        | inr some ↦ cond-true (is_reference v) (address_or_nil (target (stage_of p es v))) v (not_from_false (nat_eq v 0) (ne_eqb v 0 some))
      ]

  -- what is reached has a target
  kept : (a : ℕ) → TraceKeeps p (machine_after p es).asked a → 0 < F a
  kept _ (FromRoot a some) = let d = (sound p es trace).reasons.roots a some in image-some a d.0 d.1
  kept _ (FromGlobal g few reference) = settled-some (global_at p.before g) ((sound p es trace).sides.globals.settled g few (finished.globals g few)) reference
  kept _ (FromOld a aged) = image-some a a (old-target p es trace a aged)
  kept _ (ByReference y i from few reference) =
      let t : ℕ = F y in let is : target_of p es y ≡ Some (F y) = has-target y (kept y from) in
      settled-some (ref_at p.before y i) (settled p es trace y (F y) (refs p y) i (finished.objects y (F y) is) few) reference

  pub kept-exactly : (a : ℕ) → (0 < F a) ↔ TraceKeeps p (machine_after p es).asked a
  kept-exactly a = (λ some. (sound p es trace).reasons.reached a (F a) (has-target a some), kept a)

  reference-from : (v : ℕ) → 0 < v → IsTrue (is_reference v)
  reference-from v some = not_from_false (nat_eq v 0) (ne_eqb v 0 (λ e. omega arith))

  module _ (roots : List ℕ) (asked : HaveAsked roots (machine_after p es).asked) where
    reached : (a : ℕ) → IsReachable p.before roots a → TraceKeeps p (machine_after p es).asked a
    reached a (from_root i is some) = subst (TraceKeeps p (machine_after p es).asked) is (FromRoot (slice_index roots i) (asked i (subst (λ v. 0 < v) (sym is) some)))
    reached a (from_global g few is some) = subst (TraceKeeps p (machine_after p es).asked) is (FromGlobal g few (subst (λ v. IsTrue (is_reference v)) (sym is) (reference-from a some)))
    reached a (from_field y i from few is reference) = subst (TraceKeeps p (machine_after p es).asked) is (ByReference y i (reached y from) few (subst (λ v. IsTrue (is_reference v)) (sym is) reference))

    pub preserved : PreservesObjects (may_be_moved p) p.before roots (Lives (base_after_trace p) (heap_after p es)) (heap_after p es) (map (image (stage_of p es)) roots) (image (stage_of p es))
    preserved = record {
      nil = nil-stays;
      held = λ a some. marks.held p.before a (held-of p es trace a (F a) (has-target a some));
      one_to_one = λ a x some same. one-to-one p es trace a x (F a) (has-target a some) (has-target x (subst (λ v. 0 < v) same some) ∙ ap Some (sym same));
      there = λ a some. lives a (F a) (has-target a some);
      onto = onto;
      same = λ a some. same-object a (F a) (has-target a some);
      fields = λ a i some l. field-of a (F a) i (has-target a some) l;
      closed = λ a i some l reference. settled-some (ref_at p.before a i) (settled p es trace a (F a) (refs p a) i (finished.objects a (F a) (has-target a some)) l) reference;
      globals = global-of;
      registers = refl;
      stays = λ a some fixed. elim (cases_eq (F a) a) as (λ _. F a ≡ a) [
        | inl same ↦ same
        | inr away ↦ absurd (true≢false (sym (has-room p es trace a (F a) (has-target a some) away).moves ∙ fixed))
      ];
      reached = λ a from. kept a (reached a from);
    }

    -- in a full collection, what is kept is what roots and globals reach
    module _ (full : p.nursery ≡ false) (no-others : NoOthersAsked roots (machine_after p es).asked) where
      reachable : (a : ℕ) → TraceKeeps p (machine_after p es).asked a → IsReachable p.before roots a
      reachable _ (FromRoot a some) = let d = no-others a some in from_root d.0 d.1 (let held : 0 < F a = kept a (FromRoot a some) in positive a held)
        where
          positive : (a : ℕ) → 0 < F a → 0 < a
          positive a some = elim (cases_eq a 0) as (λ _. 0 < a) [
            | inl e ↦ absurd (let z : F a ≡ 0 = ap F e ∙ nil-stays in omega arith)
            | inr ne ↦ (let differ : a ≢ 0 = ne in omega arith)
          ]
      reachable _ (FromGlobal g few reference) = from_global g few refl (let v : ℕ = global_at p.before g in above v reference)
        where
          above : (v : ℕ) → IsTrue (is_reference v) → 0 < v
          above v reference = elim (cases_eq v 0) as (λ _. 0 < v) [
            | inl e ↦ absurd (true≢false (sym (sym (not_from_true (nat_eq v 0) (eq-eqb v 0 e)) ∙ reference)))
            | inr ne ↦ (let differ : v ≢ 0 = ne in omega arith)
          ]
      reachable _ (FromOld a aged) = absurd (true≢false (sym (nursery-of p trace.ready a aged) ∙ full))
      reachable _ (ByReference y i from few reference) = from_field y i (reachable y from) few refl reference

      pub kept-reachable : (a : ℕ) → (0 < F a) ↔ IsReachable p.before roots a
      kept-reachable a = (λ some. reachable a ((kept-exactly a).0 some), λ from. kept a (reached a from))
