-- A line bit that is set stays set.
use Rattle.std.proofs.Common.{◌≡◌, ℕ, ◌+◌, ◌*◌, ◌/◌, ◌%◌, ◌<◌, ◌≤◌, ◌⊎◌, inl, inr, IsTrue, Some, nat_eq, nat_lt, List, [], ◌∷◌, ◌++◌, slice_index, slice_set, if◌then◌else◌, bit_or, sym, ap, ◌∙◌, subst, arith, get_or-set_other, get_or-set_same}
use Rattle.std.specs.Int.{bit_at}
use Rattle.std.proofs.lemmas.Bool.{cases_eq, cases_lt, cond-true, cond-false, lt-ltb, le-ltb, eq-eqb, ne_eqb, eqb-true, ltb-true, and_parts}
use Rattle.std.proofs.lemmas.List.{set-get_or}
use Rattle.std.proofs.lemmas.Nat.Bits.{bit_at_or, bit_at-lt}
use Rattle.heap_layout.specs.Zones.{BlockWords, Globals, LineWords, StartBits, UnlogBits, HeapWords, first, row_words, heap_of, InZone, bit_of}
use Rattle.object_model.specs.BitWords.{bit_word}
use Rattle.object_model.specs.Lines.{TouchesLine}
use Rattle.trace_core.specs.Setups.{Setup, TraceMayBegin, blocks, held, size, refs}
use Rattle.trace_core.specs.Machine.{Copying, Scanning, target, Machine, Event, Claim, Ask, Copy, Scan, SetGlobal, MarkLines, TakeBlock, copy_place, copy_value, offset_of_step, scan_place, next, first_machine, stored}
use Rattle.trace_core.specs.Traces.{May, after, AreNext, IsTracing, heap_after, target_of}
use Rattle.trace_core.proofs.Steps.{step-inside}
use Rattle.trace_core.proofs.Objects.{CopyingObject, ScanningObject, ObjectIs}
use Rattle.trace_core.proofs.Places.{object-from, object-below, held-of, target-from, target-below}
use Rattle.trace_core.proofs.ObjectEvents.{Keeps}
use Rattle.trace_core.proofs.Sides.{SameZone, other-zone}
use Rattle.trace_core.proofs.Law.{Sound, sound, sound-event, first-sound}

module _ (p : Setup) (ready : TraceMayBegin p) (m : Machine) (h : Keeps p m) where
  abbrev Stays : List ℕ → Type 0
  Stays words = (n : ℕ) → n < 256 * blocks p → IsTrue (bit_of (blocks p) LineWords m.words n) → IsTrue (bit_of (blocks p) LineWords words n)

  -- the words of line bits are the same
  by-zone : (words : List ℕ) → SameZone p LineWords m.words words → Stays words
  by-zone words same n l set = ap (λ w. nat_eq (bit_at w (n % 64)) 1) (same (first (blocks p) LineWords + n / 64) (record { from = omega arith; below = omega arith })) ∙ set

  heap-stays : (i v : ℕ) → heap_of (blocks p) ≤ i → i < row_words (blocks p) → Stays (slice_set m.words i v)
  heap-stays i v from below =
      let there : InZone (blocks p) HeapWords i = record { from = from; below = omega arith } in
      by-zone (slice_set m.words i v) (other-zone p m.words i v HeapWords LineWords there (omega arith))

  copy-stays : (x t k v : ℕ) → m.stage x ≡ Copying t k → Stays (slice_set m.words (copy_place p x (Copying t k)) v)
  copy-stays x t k v now =
      elim (cases_lt k (size p x)) as (λ _. Stays (slice_set m.words (copy_place p x (Copying t k)) v)) [
        | inl more ↦ subst (λ i. Stays (slice_set m.words i v)) (sym (cond-true (nat_lt k (size p x)) (t + offset_of_step (size p x) k) _ (lt-ltb k (size p x) more)))
            (heap-stays (t + offset_of_step (size p x) k) v (let from = target-from p ready m.words m.stage m.owner m.taken h x t here was.placed in omega arith)
            (target-below p ready m.words m.stage m.owner m.taken h x t (offset_of_step (size p x) k) here was.placed (step-inside (size p x) (omega arith) k more)))
        | inr full ↦ subst (λ i. Stays (slice_set m.words i v)) (sym (cond-false (nat_lt k (size p x)) (t + offset_of_step (size p x) k) _ (le-ltb k (size p x) full)))
            (elim (cases_eq k (size p x)) as (λ _. Stays (slice_set m.words (if nat_eq k (size p x) then bit_word (blocks p) UnlogBits t else bit_word (blocks p) StartBits t) v)) [
              | inl e ↦ subst (λ i. Stays (slice_set m.words i v)) (sym (cond-true (nat_eq k (size p x)) (bit_word (blocks p) UnlogBits t) (bit_word (blocks p) StartBits t) (eq-eqb k (size p x) e))) unlog-stays
              | inr ne ↦ subst (λ i. Stays (slice_set m.words i v)) (sym (cond-false (nat_eq k (size p x)) (bit_word (blocks p) UnlogBits t) (bit_word (blocks p) StartBits t) (ne_eqb k (size p x) ne))) start-stays
            ])
      ]
    where
      here : IsTrue (held p x)
      here = held-of p ready m.words m.stage m.owner m.taken h x t (ap target now)

      was : CopyingObject p (slice_index m.words) m.stage m.owner m.taken x t k
      was = subst (ObjectIs p (slice_index m.words) m.stage m.owner m.taken x) now (h.objects x here)

      from : heap_of (blocks p) ≤ t
      from = target-from p ready m.words m.stage m.owner m.taken h x t here was.placed

      below : t + 0 < row_words (blocks p)
      below = target-below p ready m.words m.stage m.owner m.taken h x t 0 here was.placed (omega arith)

      unlog-stays : Stays (slice_set m.words (bit_word (blocks p) UnlogBits t) v)
      unlog-stays =
          let a : heap_of (blocks p) ≤ t = from in let b : t + 0 < row_words (blocks p) = below in
          let there : InZone (blocks p) UnlogBits (bit_word (blocks p) UnlogBits t) = record { from = omega arith; below = omega arith } in
          by-zone (slice_set m.words (bit_word (blocks p) UnlogBits t) v) (other-zone p m.words (bit_word (blocks p) UnlogBits t) v UnlogBits LineWords there (omega arith))

      start-stays : Stays (slice_set m.words (bit_word (blocks p) StartBits t) v)
      start-stays =
          let a : heap_of (blocks p) ≤ t = from in let b : t + 0 < row_words (blocks p) = below in
          let there : InZone (blocks p) StartBits (bit_word (blocks p) StartBits t) = record { from = omega arith; below = omega arith } in
          by-zone (slice_set m.words (bit_word (blocks p) StartBits t) v) (other-zone p m.words (bit_word (blocks p) StartBits t) v StartBits LineWords there (omega arith))

  scan-stays : (x t k v : ℕ) → m.stage x ≡ Scanning t k → k < refs p x → Stays (slice_set m.words (t + 3 + k) v)
  scan-stays x t k v now more =
      let here : IsTrue (held p x) = held-of p ready m.words m.stage m.owner m.taken h x t (ap target now) in
      let was : ScanningObject p (slice_index m.words) m.stage m.owner m.taken x t k = subst (ObjectIs p (slice_index m.words) m.stage m.owner m.taken x) now (h.objects x here) in
      heap-stays (t + 3 + k) v
      (let from = target-from p ready m.words m.stage m.owner m.taken h x t here was.placed in omega arith)
      (let below : t + (3 + k) < row_words (blocks p) = target-below p ready m.words m.stage m.owner m.taken h x t (3 + k) here was.placed (omega arith) in omega arith)

  mark-stays : (word mask : ℕ) → InZone (blocks p) LineWords word → Stays (slice_set m.words word (bit_or (slice_index m.words word) mask))
  mark-stays word mask there n l set =
      let v : ℕ = bit_or (slice_index m.words word) mask in
      let from : first (blocks p) LineWords ≤ word = there.from in
      let below : word < first (blocks p) LineWords + 4 * blocks p = there.below in
      let long = h.long in
      let now : slice_index (slice_set m.words word v) word ≡ v = get_or-set_same m.words word v 0 (omega arith) in
      elim (cases_eq (first (blocks p) LineWords + n / 64) word) as (λ _. IsTrue (bit_of (blocks p) LineWords (slice_set m.words word v) n)) [
        | inl e ↦ (let was : bit_at (slice_index m.words word) (n % 64) ≡ 1 = eqb-true (bit_at (slice_index m.words word) (n % 64)) 1 (sym (ap (λ i. nat_eq (bit_at (slice_index m.words i) (n % 64)) 1) e) ∙ set) in
            let bit : bit_at v (n % 64) ≡ 1 = omega (arith, bit_at_or (slice_index m.words word) mask (n % 64), bit_at-lt mask (n % 64), bit_at-lt (slice_index m.words word) (n % 64)) in
            ap (λ w. nat_eq (bit_at w (n % 64)) 1) (ap (slice_index (slice_set m.words word v)) e ∙ now) ∙ eq-eqb (bit_at v (n % 64)) 1 bit)
        | inr ne ↦ ap (λ w. nat_eq (bit_at w (n % 64)) 1) (get_or-set_other m.words word (first (blocks p) LineWords + n / 64) v 0 ne) ∙ set
      ]

  stays : (e : Event) → May p m e → Stays (next p m e).words
  stays (Claim x t cause) may =
      heap-stays (x + 2) (stored p m (Claim x t cause) (slice_index m.words (x + 2)))
      (let from = object-from p ready x may.0 in omega arith) (object-below p ready x 2 may.0 (omega arith))
  stays (Ask x) may = subst Stays (sym (set-get_or m.words (x + 2) 0)) (λ n l set. set)
  stays (Copy x) may = let t : ℕ = may.0 in let k : ℕ = may.1 in
      subst (λ st. Stays (slice_set m.words (copy_place p x st) (copy_value p x st (slice_index m.words (copy_place p x st))))) (sym may.2)
      (copy-stays x t k (copy_value p x (Copying t k) (slice_index m.words (copy_place p x (Copying t k)))) may.2)
  stays (Scan x) may = let t : ℕ = may.0 in let k : ℕ = may.1 in
      subst (λ i. Stays (slice_set m.words i (stored p m (Scan x) (slice_index m.words (scan_place (m.stage x)))))) (ap scan_place (sym may.2))
      (scan-stays x t k (stored p m (Scan x) (slice_index m.words (scan_place (m.stage x)))) may.2 may.3)
  stays (SetGlobal g) may =
      let few : g < 16 = may.0 in
      let there : InZone (blocks p) Globals (first (blocks p) Globals + g) = record { from = omega arith; below = omega arith } in
      let i : ℕ = first (blocks p) Globals + g in
      let v : ℕ = stored p m (SetGlobal g) (slice_index m.words i) in
      by-zone (slice_set m.words i v) (other-zone p m.words i v Globals LineWords there (omega arith))
  stays (MarkLines x word mask) may = mark-stays word mask may.0
  stays (TakeBlock b w) may =
      let few : b < blocks p = ltb-true b (blocks p) (and_parts (nat_lt b (blocks p)) _ may.0).0 in
      let there : InZone (blocks p) BlockWords (first (blocks p) BlockWords + b) = record { from = omega arith; below = omega arith } in
      let i : ℕ = first (blocks p) BlockWords + b in
      let v : ℕ = stored p m (TakeBlock b w) (slice_index m.words i) in
      by-zone (slice_set m.words i v) (other-zone p m.words i v BlockWords LineWords there (omega arith))

module _ (p : Setup) (ready : TraceMayBegin p) (n : ℕ) (l : n < 256 * blocks p) where
  abbrev IsSet : Machine → Type 0
  IsSet m = IsTrue (bit_of (blocks p) LineWords m.words n)

  onward : (m : Machine) (ds : List Event) → Sound p m → AreNext p m ds → IsSet m → IsSet (after p m ds)
  onward m [] sound are set = set
  onward m (e ∷ ds) sound are set = onward (next p m e) ds (sound-event p ready m sound e are.0) are.1 (stays p ready m sound.objects e are.0 n l set)

  later : (m : Machine) (es ds : List Event) → Sound p m → AreNext p m (es ++ ds) → IsSet (after p m es) → IsSet (after p m (es ++ ds))
  later m [] ds sound are set = onward m ds sound are set
  later m (e ∷ es) ds sound are set = later (next p m e) es ds (sound-event p ready m sound e are.0) are.1 set

pub line-stays : (p : Setup) (es ds : List Event) → IsTracing p (es ++ ds) → (n : ℕ) → n < 256 * blocks p
    → IsTrue (bit_of (blocks p) LineWords (heap_after p es).words n) → IsTrue (bit_of (blocks p) LineWords (heap_after p (es ++ ds)).words n)
line-stays p es ds trace n l set = later p trace.ready n l (first_machine p) es ds (first-sound p trace.ready) trace.events set

-- it was set, or a target touches the line
pub line-from : (p : Setup) (es : List Event) → IsTracing p es → (n : ℕ) → n < 256 * blocks p → IsTrue (bit_of (blocks p) LineWords (heap_after p es).words n)
    → IsTrue (bit_of (blocks p) LineWords p.before.words n) ⊎ ((x t : ℕ) × (target_of p es x ≡ Some t) × TouchesLine (blocks p) t (size p x) n)
line-from p es trace = (sound p es trace).sides.lines.from
