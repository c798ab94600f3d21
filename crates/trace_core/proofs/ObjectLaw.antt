-- Every event keeps the invariant for objects.
use Rattle.std.proofs.Common.{◌≡◌, ◌≢◌, ℕ, ◌+◌, ◌*◌, ◌<◌, ◌≤◌, inl, inr, Bool, true, false, true≢false, if◌then◌else◌, ◌&&◌, not, IsTrue, nat_eq, nat_lt, List, slice_index, slice_set, sym, ap, ◌∙◌, subst, arith, Some}
use Rattle.std.proofs.lemmas.Bool.{cases_eq, cases_lt, cases_Bool, cond-true, cond-false, lt-ltb, le-ltb, eq-eqb, ne_eqb, and_parts, ltb-true, eqb-true}
use Rattle.std.proofs.lemmas.List.{set-get_or}
use Rattle.forward_word.specs.CollectorWords.{collector_word}
use Rattle.heap_layout.specs.Zones.{Globals, BlockWords, LineWords, StartBits, UnlogBits, first, row_words, heap_of, IsAddress}
use Rattle.heap_layout.specs.declared.block.Kind.TheVariants as kinds
use Rattle.object_model.specs.Objects.{HasKind}
use Rattle.object_model.specs.BitWords.{bit_word}
use Rattle.trace_core.specs.Setups.{Setup, TraceMayBegin, blocks, collection, held, size}
use Rattle.trace_core.specs.Machine.{Stage, Copying, Scanning, target, Machine, Event, ClaimCause, Claim, Ask, Copy, Scan, SetGlobal, MarkLines, TakeBlock, put, put_all, copied_word, offset_of_step, copy_place, copy_value, copy_stage, scan_place, scan_value, scan_stage, next}
use Rattle.trace_core.specs.Traces.{May}
use Rattle.trace_core.proofs.Puts.{put_here, put_else}
use Rattle.trace_core.proofs.Objects.{CopyingObject, ObjectIs, KeepsObjects}
use Rattle.trace_core.proofs.Places.{held-of, target-from, target-below}
use Rattle.trace_core.proofs.ObjectEvents.{Keeps, claimed-in-place, claimed-to-move, copied-word, unlogged, started, scanned-field, aside}

abbrev K : Setup → Machine → List ℕ → (ℕ → Stage) → Type 0
K p m words stage = KeepsObjects p words stage m.owner m.taken

module _ (p : Setup) (ready : TraceMayBegin p) (m : Machine) (h : Keeps p m) where
  -- an object in place, or in room that a worker took
  after-claim : (x t : ℕ) (cause : ClaimCause) → May p m (Claim x t cause) → Keeps p (next p m (Claim x t cause))
  after-claim x t cause may = elim may.3 as (λ _. Keeps p (next p m (Claim x t cause))) [
    | inl stays ↦ in-place (nat_eq t x) (eq-eqb t x stays.same) (claimed-in-place p ready m h x may.0 may.1 t stays.same)
    | inr moves ↦ let d = claimed-to-move p ready m h x may.0 may.1 t moves in away (nat_eq t x) (ne_eqb t x d.0) d.1
  ]
    where
      Claimed : Bool → Type 0
      Claimed b = KeepsObjects p (slice_set m.words (x + 2) (collector_word (collection p) t)) (put m.stage x (Copying t (if b then size p x else 0)))
          (if b then m.owner else put_all m.owner t (size p x) (Some x)) m.taken

      in-place : (b : Bool) → b ≡ true → Claimed true → Claimed b
      in-place b e k = subst Claimed (sym e) k

      away : (b : Bool) → b ≡ false → Claimed false → Claimed b
      away b e k = subst Claimed (sym e) k

  -- the side metadata before the heap
  bit-side : (t : ℕ) → IsAddress (blocks p) t → (bit_word (blocks p) UnlogBits t < heap_of (blocks p)) × (bit_word (blocks p) StartBits t < heap_of (blocks p))
  bit-side t address = let from : heap_of (blocks p) ≤ t = address.from in let below : t < row_words (blocks p) = address.below in (omega arith, omega arith)

  copied-stage : (x t k : ℕ) → m.stage x ≡ Copying t k → (n : ℕ) → Keeps p (record m {
    words = slice_set m.words (copy_place p x (Copying t k)) (copy_value p x (Copying t k) n);
    stage = put m.stage x (copy_stage p x (Copying t k));
  })
  copied-stage x t k now n =
      let here : IsTrue (held p x) = held-of p ready m.words m.stage m.owner m.taken h x t (ap target now) in
      let was : CopyingObject p (slice_index m.words) m.stage m.owner m.taken x t k = subst (ObjectIs p (slice_index m.words) m.stage m.owner m.taken x) now (h.objects x here) in
      let address : IsAddress (blocks p) t = record {
        from = target-from p ready m.words m.stage m.owner m.taken h x t here was.placed;
        below = (let below = target-below p ready m.words m.stage m.owner m.taken h x t 0 here was.placed (omega arith) in omega arith);
      } in
      let sides = bit-side t address in
      elim (cases_lt k (size p x)) as (λ _. K p m (slice_set m.words (copy_place p x (Copying t k)) (copy_value p x (Copying t k) n)) (put m.stage x (copy_stage p x (Copying t k)))) [
        | inl more ↦ (let less : nat_lt k (size p x) ≡ true = lt-ltb k (size p x) more in
            subst (λ i. K p m (slice_set m.words i (copy_value p x (Copying t k) n)) (put m.stage x (copy_stage p x (Copying t k)))) (sym (cond-true (nat_lt k (size p x)) (t + offset_of_step (size p x) k) _ less))
            (subst (λ v. K p m (slice_set m.words (t + offset_of_step (size p x) k) v) (put m.stage x (copy_stage p x (Copying t k)))) (sym (cond-true (nat_lt k (size p x)) (copied_word p x t (offset_of_step (size p x) k)) _ less))
            (subst (λ st. K p m (slice_set m.words (t + offset_of_step (size p x) k) (copied_word p x t (offset_of_step (size p x) k))) (put m.stage x st)) (sym (cond-true (nat_lt k (size p x)) (Copying t (k + 1)) _ less))
            (copied-word p ready m h x here t k now more))))
        | inr full ↦ (let past : nat_lt k (size p x) ≡ false = le-ltb k (size p x) full in
            let place-is : copy_place p x (Copying t k) ≡ (if nat_eq k (size p x) then bit_word (blocks p) UnlogBits t else bit_word (blocks p) StartBits t) = cond-false (nat_lt k (size p x)) (t + offset_of_step (size p x) k) _ past in
            let side : copy_place p x (Copying t k) < heap_of (blocks p) = (elim (cases_Bool (nat_eq k (size p x))) as (λ _. copy_place p x (Copying t k) < heap_of (blocks p)) [
              | inl e ↦ subst (λ i. i < heap_of (blocks p)) (sym (place-is ∙ cond-true (nat_eq k (size p x)) (bit_word (blocks p) UnlogBits t) (bit_word (blocks p) StartBits t) e)) sides.0
              | inr e ↦ subst (λ i. i < heap_of (blocks p)) (sym (place-is ∙ cond-false (nat_eq k (size p x)) (bit_word (blocks p) UnlogBits t) (bit_word (blocks p) StartBits t) e)) sides.1
            ]) in
            let stage-is : copy_stage p x (Copying t k) ≡ (if nat_eq k (size p x) && not (nat_eq t x) then Copying t (k + 1) else Scanning t 0) = cond-false (nat_lt k (size p x)) (Copying t (k + 1)) _ past in
            let i : ℕ = copy_place p x (Copying t k) in
            let v : ℕ = copy_value p x (Copying t k) n in
            elim (cases_Bool (nat_eq k (size p x) && not (nat_eq t x))) as (λ _. K p m (slice_set m.words (copy_place p x (Copying t k)) (copy_value p x (Copying t k) n)) (put m.stage x (copy_stage p x (Copying t k)))) [
              | inl e ↦ (let both = and_parts (nat_eq k (size p x)) (not (nat_eq t x)) e in
                  let away : t ≢ x = λ same. true≢false (sym both.1 ∙ ap not (eq-eqb t x same)) in
                  subst (λ st. K p m (slice_set m.words i v) (put m.stage x st)) (sym (stage-is ∙ cond-true (nat_eq k (size p x) && not (nat_eq t x)) (Copying t (k + 1)) (Scanning t 0) e))
                  (unlogged p ready m h x here t k now i v side (eqb-true k (size p x) both.0) away))
              | inr e ↦ subst (λ st. K p m (slice_set m.words i v) (put m.stage x st)) (sym (stage-is ∙ cond-false (nat_eq k (size p x) && not (nat_eq t x)) (Copying t (k + 1)) (Scanning t 0) e))
                  (started p ready m h x here t k now i v side (omega arith))
            ])
      ]

  after-copy : (x : ℕ) → May p m (Copy x) → Keeps p (next p m (Copy x))
  after-copy x may = let t : ℕ = may.0 in let k : ℕ = may.1 in
      subst (λ st. Keeps p (record m { words = slice_set m.words (copy_place p x st) (copy_value p x st (slice_index m.words (copy_place p x st))); stage = put m.stage x (copy_stage p x st) })) (sym may.2)
      (copied-stage x t k may.2 (slice_index m.words (copy_place p x (Copying t k))))

  after-scan : (x : ℕ) → May p m (Scan x) → Keeps p (next p m (Scan x))
  after-scan x may = let t : ℕ = may.0 in let k : ℕ = may.1 in
      subst (λ st. Keeps p (record m { words = slice_set m.words (scan_place st) (scan_value p m.stage x st (slice_index m.words (scan_place st))); stage = put m.stage x (scan_stage st) })) (sym may.2)
      (scanned-field p ready m h x (held-of p ready m.words m.stage m.owner m.taken h x t (ap target may.2)) t k may.2 may.3 may.4)

  after-take : (b w : ℕ) → May p m (TakeBlock b w) → Keeps p (next p m (TakeBlock b w))
  after-take b w may =
      let there : b < blocks p = ltb-true b (blocks p) (and_parts (nat_lt b (blocks p)) _ may.0).0 in
      aside p ready m h (first (blocks p) BlockWords + b) _ (put m.taken b w) (omega arith)
      (λ c some. elim (cases_eq c b) as (λ _. 0 < put m.taken b w c) [
        | inl e ↦ subst (λ n. 0 < n) (sym (ap (put m.taken b w) e ∙ put_here m.taken b w)) may.2
        | inr ne ↦ subst (λ n. 0 < n) (sym (put_else m.taken b w c ne)) some
      ])
      (λ c some. elim (cases_eq c b) as (λ _. HasKind p.before c kinds.Free) [
        | inl e ↦ subst (λ d. HasKind p.before d kinds.Free) (sym e) may.0
        | inr ne ↦ h.free c (subst (λ n. 0 < n) (put_else m.taken b w c ne) some)
      ])

  pub object-event : (e : Event) → May p m e → Keeps p (next p m e)
  object-event (Claim x t cause) may = after-claim x t cause may
  object-event (Ask x) may = subst (λ ws. K p m ws m.stage) (sym (set-get_or m.words (x + 2) 0)) h
  object-event (Copy x) may = after-copy x may
  object-event (Scan x) may = after-scan x may
  object-event (SetGlobal g) may = let few : g < 16 = may.0 in aside p ready m h (first (blocks p) Globals + g) _ m.taken (omega arith) (λ b some. some) h.free
  object-event (MarkLines x word mask) may = let below : word < first (blocks p) LineWords + 4 * blocks p = may.0.below in aside p ready m h word _ m.taken (omega arith) (λ b some. some) h.free
  object-event (TakeBlock b w) may = after-take b w may
