-- Each event keeps the invariant for side metadata and globals.
use Rattle.std.proofs.Common.{◌≡◌, ℕ, ◌+◌, ◌*◌, ◌<◌, ◌≤◌, ◌⊎◌, inl, inr, if◌then◌else◌, IsTrue, nat_eq, slice_index, slice_set, refl, sym, ap, ◌∙◌, subst, arith, Some}
use Rattle.std.proofs.lemmas.Bool.{cases_eq, cases_Bool, cond-true, cond-false}
use Rattle.forward_word.specs.CollectorWords.{collector_word}
use Rattle.heap_layout.specs.Zones.{Zone, StopWord, BudgetWord, Globals, BlockWords, LineWords, StartBits, PinBits, UnlogBits, HeapWords, extent, row_words, heap_of, InZone, IsAddress, address_bit}
use Rattle.side_meta.specs.BitWords.{with_bit}
use Rattle.object_model.specs.BitWords.{bit_word, bit_place}
use Rattle.trace_core.specs.Setups.{Setup, TraceMayBegin, blocks, collection, held, size, refs}
use Rattle.trace_core.specs.Machine.{Stage, Unclaimed, Copying, Scanning, target, Machine, ClaimCause, Claim, put, offset_of_step, next}
use Rattle.trace_core.specs.Traces.{May}
use Rattle.trace_core.proofs.Puts.{put_here, put_else}
use Rattle.trace_core.proofs.Steps.{step-inside}
use Rattle.trace_core.proofs.Objects.{CopyingObject, ScanningObject, ObjectIs, Grows, grows_put, None-not-Some}
use Rattle.trace_core.proofs.Places.{object-from, object-below, held-of, target-from, target-below}
use Rattle.trace_core.proofs.ObjectEvents.{Keeps}
use Rattle.trace_core.proofs.Sides.{SameZone, other-zone, StartsAt, UnlogsAt, Somewhere, BitsAre, KeepsSides, bits-stay, lines-stay, blocks-stay, globals-stay, rest-stays, bit-sets, somewhere-to, somewhere-back}

abbrev pub Sides : Setup → Machine → Type 0
Sides p m = KeepsSides p m.words m.stage m.taken m.set

module _ (p : Setup) (ready : TraceMayBegin p) (m : Machine) (h : Keeps p m) (s : Sides p m) where
  -- a step of the object at x that stores in the heap, and sets no bit
  heap-event : (i v x : ℕ) (new : Stage) → heap_of (blocks p) ≤ i → i < row_words (blocks p)
      → ((t : ℕ) → target (m.stage x) ≡ Some t → target new ≡ Some t)
      → ((a : ℕ) → StartsAt p x (m.stage x) a → StartsAt p x new a) → ((a : ℕ) → StartsAt p x new a → StartsAt p x (m.stage x) a)
      → ((a : ℕ) → UnlogsAt p x (m.stage x) a → UnlogsAt p x new a) → ((a : ℕ) → UnlogsAt p x new a → UnlogsAt p x (m.stage x) a)
      → KeepsSides p (slice_set m.words i v) (put m.stage x new) m.taken m.set
  heap-event i v x new from below keep start-to start-back unlog-to unlog-back =
      let there : InZone (blocks p) HeapWords i = record { from = from; below = omega arith } in
      let grows : Grows m.stage (put m.stage x new) = grows_put m.stage x new keep in
      record {
        starts = bits-stay p m.words (slice_set m.words i v) StartBits (Somewhere (StartsAt p) m.stage) (Somewhere (StartsAt p) (put m.stage x new)) refl
            (other-zone p m.words i v HeapWords StartBits there (omega arith)) (somewhere-to (StartsAt p) m.stage x new start-to)
            (λ a. somewhere-back (StartsAt p) m.stage x new a (start-back a)) s.starts;
        unlogs = bits-stay p m.words (slice_set m.words i v) UnlogBits (Somewhere (UnlogsAt p) m.stage) (Somewhere (UnlogsAt p) (put m.stage x new)) refl
            (other-zone p m.words i v HeapWords UnlogBits there (omega arith)) (somewhere-to (UnlogsAt p) m.stage x new unlog-to)
            (λ a. somewhere-back (UnlogsAt p) m.stage x new a (unlog-back a)) s.unlogs;
        lines = lines-stay p m.words (slice_set m.words i v) m.stage (put m.stage x new) (other-zone p m.words i v HeapWords LineWords there (omega arith)) grows s.lines;
        blocks = blocks-stay p m.words (slice_set m.words i v) m.taken (other-zone p m.words i v HeapWords BlockWords there (omega arith)) s.blocks;
        globals = globals-stay p m.words (slice_set m.words i v) m.stage (put m.stage x new) m.set (other-zone p m.words i v HeapWords Globals there (omega arith)) grows s.globals;
        rest = rest-stays p m.words (slice_set m.words i v) (other-zone p m.words i v HeapWords StopWord there (omega arith))
            (other-zone p m.words i v HeapWords BudgetWord there (omega arith)) (other-zone p m.words i v HeapWords PinBits there (omega arith)) s.rest;
      }

  at-stage : {B : Type 0} → (f : Stage → B → Type 0) (x : ℕ) (st : Stage) → m.stage x ≡ st → (a : B) → f (m.stage x) a → f st a
  at-stage f x st is a now = subst (λ z. f z a) is now

  from-stage : {B : Type 0} → (f : Stage → B → Type 0) (x : ℕ) (st : Stage) → m.stage x ≡ st → (a : B) → f st a → f (m.stage x) a
  from-stage f x st is a now = subst (λ z. f z a) (sym is) now

  pub claim-side : (x t : ℕ) (cause : ClaimCause) → May p m (Claim x t cause) → Sides p (next p m (Claim x t cause))
  claim-side x t cause may =
      let k : ℕ = if nat_eq t x then size p x else 0 in
      let few : k ≤ size p x = (elim (cases_Bool (nat_eq t x)) as (λ _. (if nat_eq t x then size p x else 0) ≤ size p x) [
        | inl e ↦ subst (λ n. n ≤ size p x) (sym (cond-true (nat_eq t x) (size p x) 0 e)) (omega arith)
        | inr e ↦ subst (λ n. n ≤ size p x) (sym (cond-false (nat_eq t x) (size p x) 0 e)) (omega arith)
      ]) in
      heap-event (x + 2) (collector_word (collection p) t) x (Copying t k)
      (let from = object-from p ready x may.0 in omega arith) (object-below p ready x 2 may.0 (omega arith))
      (λ u e. absurd (None-not-Some u (sym (ap target may.1) ∙ e)))
      (λ a now. at-stage (StartsAt p x) x Unclaimed may.1 a now)
      (λ a none. absurd none)
      (λ a now. absurd (at-stage (UnlogsAt p x) x Unclaimed may.1 a now))
      (λ a some. absurd (let past : size p x < k = some.1 in omega arith))

  pub scan-side : (x t k : ℕ) → m.stage x ≡ Scanning t k → k < refs p x → (v : ℕ)
      → KeepsSides p (slice_set m.words (t + 3 + k) v) (put m.stage x (Scanning t (k + 1))) m.taken m.set
  scan-side x t k now more v =
      let here : IsTrue (held p x) = held-of p ready m.words m.stage m.owner m.taken h x t (ap target now) in
      let was : ScanningObject p (slice_index m.words) m.stage m.owner m.taken x t k = subst (ObjectIs p (slice_index m.words) m.stage m.owner m.taken x) now (h.objects x here) in
      heap-event (t + 3 + k) v x (Scanning t (k + 1))
      (let from = target-from p ready m.words m.stage m.owner m.taken h x t here was.placed in omega arith)
      (let below : t + (3 + k) < row_words (blocks p) = target-below p ready m.words m.stage m.owner m.taken h x t (3 + k) here was.placed (omega arith) in omega arith)
      (λ u e. sym (ap target now) ∙ e)
      (λ a is. at-stage (StartsAt p x) x (Scanning t k) now a is)
      (λ a is. from-stage (StartsAt p x) x (Scanning t k) now a is)
      (λ a is. at-stage (UnlogsAt p x) x (Scanning t k) now a is)
      (λ a is. from-stage (UnlogsAt p x) x (Scanning t k) now a is)

  pub copy-word-side : (x t k : ℕ) → m.stage x ≡ Copying t k → k < size p x → (v : ℕ)
      → KeepsSides p (slice_set m.words (t + offset_of_step (size p x) k) v) (put m.stage x (Copying t (k + 1))) m.taken m.set
  copy-word-side x t k now more v =
      let here : IsTrue (held p x) = held-of p ready m.words m.stage m.owner m.taken h x t (ap target now) in
      let was : CopyingObject p (slice_index m.words) m.stage m.owner m.taken x t k = subst (ObjectIs p (slice_index m.words) m.stage m.owner m.taken x) now (h.objects x here) in
      let within : offset_of_step (size p x) k < size p x = step-inside (size p x) (omega arith) k more in
      heap-event (t + offset_of_step (size p x) k) v x (Copying t (k + 1))
      (let from = target-from p ready m.words m.stage m.owner m.taken h x t here was.placed in omega arith)
      (target-below p ready m.words m.stage m.owner m.taken h x t (offset_of_step (size p x) k) here was.placed within)
      (λ u e. sym (ap target now) ∙ e)
      (λ a is. absurd (at-stage (StartsAt p x) x (Copying t k) now a is))
      (λ a is. absurd is)
      (λ a is. absurd (let both : (t ≡ a) × (size p x < k) = at-stage (UnlogsAt p x) x (Copying t k) now a is in let past : size p x < k = both.1 in omega arith))
      (λ a is. absurd (let past : size p x < k + 1 = is.1 in omega arith))

  -- the two steps of copying that set a bit
  module _ (x t k : ℕ) (now : m.stage x ≡ Copying t k) where
    pub here : IsTrue (held p x)
    here = held-of p ready m.words m.stage m.owner m.taken h x t (ap target now)

    pub was : CopyingObject p (slice_index m.words) m.stage m.owner m.taken x t k
    was = subst (ObjectIs p (slice_index m.words) m.stage m.owner m.taken x) now (h.objects x here)

    address : IsAddress (blocks p) t
    address = record {
      from = target-from p ready m.words m.stage m.owner m.taken h x t here was.placed;
      below = (let below = target-below p ready m.words m.stage m.owner m.taken h x t 0 here was.placed (omega arith) in omega arith);
    }

    bit-in : (z : Zone) → extent (blocks p) z ≡ 64 * blocks p → InZone (blocks p) z (bit_word (blocks p) z t)
    bit-in z wide = let from : heap_of (blocks p) ≤ t = address.from in let below : t < row_words (blocks p) = address.below in record { from = omega arith; below = omega arith }

    keep : (new : Stage) → target new ≡ Some t → (u : ℕ) → target (m.stage x) ≡ Some u → target new ≡ Some u
    keep new is u e = is ∙ sym (ap target now) ∙ e

    pub unlog-side : k ≡ size p x → (new : Stage) → target new ≡ Some t
        → ((a : ℕ) → StartsAt p x (Copying t k) a → StartsAt p x new a) → ((a : ℕ) → StartsAt p x new a → (t ≡ a) × IsTrue (held p a))
        → UnlogsAt p x new t → ((a : ℕ) → UnlogsAt p x new a → t ≡ a)
        → KeepsSides p (slice_set m.words (bit_word (blocks p) UnlogBits t) (with_bit (slice_index m.words (bit_word (blocks p) UnlogBits t)) (bit_place (blocks p) t))) (put m.stage x new) m.taken m.set
    unlog-side full new is start-to start-back set unlog-at =
        let i : ℕ = bit_word (blocks p) UnlogBits t in
        let v : ℕ = with_bit (slice_index m.words (bit_word (blocks p) UnlogBits t)) (bit_place (blocks p) t) in
        let there : InZone (blocks p) UnlogBits (bit_word (blocks p) UnlogBits t) = bit-in UnlogBits refl in
        let grows : Grows m.stage (put m.stage x new) = grows_put m.stage x new (keep new is) in
        record {
          starts = start-bits i v new there start-to start-back;
          unlogs = bit-sets p m.words UnlogBits (Somewhere (UnlogsAt p) m.stage) (Somewhere (UnlogsAt p) (put m.stage x new)) t h.long address (omega arith)
              (somewhere-to (UnlogsAt p) m.stage x new (λ a old. absurd (let both : (t ≡ a) × (size p x < k) = at-stage (UnlogsAt p x) x (Copying t k) now a old in let past : size p x < k = both.1 in omega arith)))
              (x, subst (λ st. UnlogsAt p x st t) (sym (put_here m.stage x new)) set)
              (λ a ne. somewhere-back (UnlogsAt p) m.stage x new a (λ some. absurd (ne (sym (unlog-at a some))))) s.unlogs;
          lines = lines-stay p m.words (slice_set m.words i v) m.stage (put m.stage x new) (other-zone p m.words i v UnlogBits LineWords there (omega arith)) grows s.lines;
          blocks = blocks-stay p m.words (slice_set m.words i v) m.taken (other-zone p m.words i v UnlogBits BlockWords there (omega arith)) s.blocks;
          globals = globals-stay p m.words (slice_set m.words i v) m.stage (put m.stage x new) m.set (other-zone p m.words i v UnlogBits Globals there (omega arith)) grows s.globals;
          rest = rest-stays p m.words (slice_set m.words i v) (other-zone p m.words i v UnlogBits StopWord there (omega arith))
              (other-zone p m.words i v UnlogBits BudgetWord there (omega arith)) (other-zone p m.words i v UnlogBits PinBits there (omega arith)) s.rest;
        }
      where
        start-bits : (i v : ℕ) (new : Stage) → InZone (blocks p) UnlogBits i → ((a : ℕ) → StartsAt p x (Copying t k) a → StartsAt p x new a) → ((a : ℕ) → StartsAt p x new a → (t ≡ a) × IsTrue (held p a))
            → BitsAre p StartBits (slice_set m.words i v) (Somewhere (StartsAt p) (put m.stage x new))
        start-bits i v new there to back =
            let same : SameZone p StartBits m.words (slice_set m.words i v) = other-zone p m.words i v UnlogBits StartBits there (omega arith) in
            let stay : BitsAre p StartBits (slice_set m.words i v) (Somewhere (StartsAt p) m.stage) = bits-stay p m.words (slice_set m.words i v) StartBits (Somewhere (StartsAt p) m.stage) (Somewhere (StartsAt p) m.stage) refl same (λ a is. is) (λ a is. is) s.starts in
            record {
              from = λ a set. elim (stay.from a set) as (λ _. IsTrue (held p a) ⊎ Somewhere (StartsAt p) (put m.stage x new) a) [
                | inl was ↦ inl was
                | inr now' ↦ inr (somewhere-to (StartsAt p) m.stage x new (λ a' is. to a' (at-stage (StartsAt p x) x (Copying t k) now a' is)) a now')
              ];
              kept = stay.kept;
              done = λ a now'. elim (cases_eq now'.0 x) as (λ _. IsTrue (address_bit (blocks p) StartBits (slice_set m.words i v) a)) [
                | inl e ↦ stay.kept a ((back a (subst (λ st. StartsAt p x st a) (put_here m.stage x new) (subst (λ y. StartsAt p y (put m.stage x new y) a) e now'.1))).1)
                | inr ne ↦ stay.done a (now'.0, subst (λ st. StartsAt p now'.0 st a) (put_else m.stage x new now'.0 ne) now'.1)
              ];
            }

    pub start-side : size p x < k → KeepsSides p (slice_set m.words (bit_word (blocks p) StartBits t) (with_bit (slice_index m.words (bit_word (blocks p) StartBits t)) (bit_place (blocks p) t))) (put m.stage x (Scanning t 0)) m.taken m.set
    start-side past =
        let i : ℕ = bit_word (blocks p) StartBits t in
        let v : ℕ = with_bit (slice_index m.words (bit_word (blocks p) StartBits t)) (bit_place (blocks p) t) in
        let new : Stage = Scanning t 0 in
        let there : InZone (blocks p) StartBits (bit_word (blocks p) StartBits t) = bit-in StartBits refl in
        let grows : Grows m.stage (put m.stage x (Scanning t 0)) = grows_put m.stage x (Scanning t 0) (keep (Scanning t 0) refl) in
        record {
          starts = bit-sets p m.words StartBits (Somewhere (StartsAt p) m.stage) (Somewhere (StartsAt p) (put m.stage x (Scanning t 0))) t h.long address (omega arith)
              (somewhere-to (StartsAt p) m.stage x (Scanning t 0) (λ a old. absurd (at-stage (StartsAt p x) x (Copying t k) now a old)))
              (x, subst (λ st. StartsAt p x st t) (sym (put_here m.stage x (Scanning t 0))) refl)
              (λ a ne. somewhere-back (StartsAt p) m.stage x (Scanning t 0) a (λ some. absurd (ne (sym some)))) s.starts;
          unlogs = bits-stay p m.words (slice_set m.words i v) UnlogBits (Somewhere (UnlogsAt p) m.stage) (Somewhere (UnlogsAt p) (put m.stage x (Scanning t 0))) refl
              (other-zone p m.words i v StartBits UnlogBits there (omega arith))
              (somewhere-to (UnlogsAt p) m.stage x (Scanning t 0) (λ a old. (let both : (t ≡ a) × (size p x < k) = at-stage (UnlogsAt p x) x (Copying t k) now a old in (both.0, was.young))))
              (λ a. somewhere-back (UnlogsAt p) m.stage x (Scanning t 0) a (λ some. from-stage (UnlogsAt p x) x (Copying t k) now a (some.0, past))) s.unlogs;
          lines = lines-stay p m.words (slice_set m.words i v) m.stage (put m.stage x (Scanning t 0)) (other-zone p m.words i v StartBits LineWords there (omega arith)) grows s.lines;
          blocks = blocks-stay p m.words (slice_set m.words i v) m.taken (other-zone p m.words i v StartBits BlockWords there (omega arith)) s.blocks;
          globals = globals-stay p m.words (slice_set m.words i v) m.stage (put m.stage x (Scanning t 0)) m.set (other-zone p m.words i v StartBits Globals there (omega arith)) grows s.globals;
          rest = rest-stays p m.words (slice_set m.words i v) (other-zone p m.words i v StartBits StopWord there (omega arith))
              (other-zone p m.words i v StartBits BudgetWord there (omega arith)) (other-zone p m.words i v StartBits PinBits there (omega arith)) s.rest;
        }
