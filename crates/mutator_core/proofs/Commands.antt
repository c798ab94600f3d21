-- The steps that make the entries of commands, allocations apart.
use Rattle.std.proofs.Common.{◌≡◌, ◌≢◌, refl, sym, ◌∙◌, ap, subst, ℕ, ◌+◌, ◌/◌, ◌%◌, ◌^◌, ◌<◌, ◌≤◌, inl, inr, arith, ◌&&◌, Bool, true, false, IsTrue, List, nat_lt, nat_le, slice_index, slice_set, nat_eq, eq-eqb}
use Rattle.std.specs.Prelude.{if◌then◌else◌}
use Rattle.std.specs.List.{Contains}
use Rattle.std.specs.Int.{bit_at}
use Rattle.std.proofs.lemmas.Bool.{cases_eq, cond-true, cond-false, ne_eqb, true≢false, and_from}
use Rattle.std.proofs.lemmas.List.{get_or-set_other}
use Rattle.heap_layout.specs.Zones.{PinBits, Globals, first, heap_of, row_words}
use Rattle.heap_layout.proofs.MarkLemmas.{address_bit-at_address}
use Rattle.ideal_heap.specs.declared.command.Command.{Command}
use Rattle.ideal_heap.specs.declared.command.Command.TheVariants as c
use Rattle.ideal_heap.specs.declared.reply.Reply.{Reply}
use Rattle.ideal_heap.specs.declared.reply.Reply.TheVariants as r
use Rattle.ideal_heap.specs.Ideal.{IdealHeap}
use Rattle.object_model.specs.Objects.{HeapState, with_words, word_at, IsHeld, IsInExtent, is_pinned, is_unlogged, name_at, refs_at, nums_at, ref_at, num_at, global_at}
use Rattle.object_model.specs.Ages.{is_old}
use Rattle.object_model.specs.Lawful.{IsWellFormed}
use Rattle.object_model.specs.Graphs.{MutatorState, numbers_of, with_register}
use Rattle.object_model.specs.Steps.{IsStep}
use Rattle.object_model.proofs.StepCases as cases
use Rattle.object_model.proofs.Refusals as refusals
use Rattle.object_model.proofs.FieldSteps as fields
use Rattle.object_model.proofs.NumberSteps as numbers
use Rattle.object_model.proofs.PinSteps as pins
use Rattle.object_model.proofs.RegisterSteps as registers
use Rattle.mutator_core.specs.declared.state.Local.{Local}
use Rattle.mutator_core.specs.declared.state.Event.TheVariants as e
use Rattle.mutator_core.specs.declared.state.Answer.TheVariants.{Reference}
use Rattle.mutator_core.specs.Machine.{Epoch, Machine, heap_in, address_in, with_address, mutator_of, mutators_in, next, source, refs_in, nums_in, number_word}
use Rattle.side_meta.specs.BitWords.{with_bit, without_bit}
use Rattle.object_model.specs.BitWords.{bit_word, bit_place}
use Rattle.mutator_core.specs.Guards.{MayStoreReference, HasLoadedShape, HasField, HasNumber, LacksField, LacksNumber, IsMiss}
use Rattle.mutator_core.specs.Histories.{reply_in}
use Rattle.mutator_core.specs.Epochs.{EpochMayBegin, KnowsItsState}
use Rattle.mutator_core.proofs.Kept as kept
use Rattle.mutator_core.proofs.Kept.{Untouched, KeepsFields, Grows, grown}
use Rattle.object_model.proofs.BitWords as bits
use Rattle.side_meta.proofs.BitWords as single
use Rattle.mutator_core.proofs.Moments.{Holds, Replies, machine_with, same-words, finish, one-of}

module _ (p : Epoch) (ready : EpochMayBegin p) (h : Machine) (i : IdealHeap) (set : ℕ → Type 0) (now : Holds p h i set) (m : ℕ) (known : Contains (numbers_of p.mutators) m) where
  abbrev s : HeapState
  s = heap_in p h

  abbrev l : Local
  l = h.locals m

  abbrev ms : List MutatorState
  ms = mutators_in p h

  order : IsWellFormed s
  order = now.models.order

  -- the object of a register is held
  register-held : (d : ℕ) → d < 16 → address_in l d ≢ 0 → IsHeld s (address_in l d)
  register-held d few some = cases.register-held s ms i set now.models (mutator_of l) (one-of p h i set now m known) d few some

  -- a step that stores the word that it found
  still : (k : ℕ) (l' : Local) (command : Command) (reply : Reply) → IsStep (heap_in p h) (mutator_of (h.locals m)) command reply (heap_in p h) (mutator_of l')
      → l'.number ≡ (h.locals m).number → (KnowsItsState p (heap_in p h) (h.locals m) → KnowsItsState p (heap_in p h) l')
      → Grows (h.locals m) l' → Replies p h i set m command reply (machine_with h (slice_set h.words k (slice_index h.words k)) m l')
  still k l' command reply is own knows grows = subst (λ (w : List ℕ). Replies p h i set m command reply (machine_with h w m l')) (sym (same-words h.words k))
      (finish p h i set now m known h.words l' command reply is own knows grows (λ young a j holds less aged unlogged. refl) (λ q j some less. refl))

  -- the register gets a word
  sets : (k d v : ℕ) (command : Command) (reply : Reply) → IsStep (heap_in p h) (mutator_of (h.locals m)) command reply (heap_in p h) (with_register (mutator_of (h.locals m)) d v)
      → Replies p h i set m command reply (machine_with h (slice_set h.words k (slice_index h.words k)) m (with_address (h.locals m) d v))
  sets k d v command reply is = still k (with_address l d v) command reply is refl (λ x. x) (grown (h.locals m))

  -- nothing changes
  stays : (k : ℕ) (command : Command) (reply : Reply) → IsStep (heap_in p h) (mutator_of (h.locals m)) command reply (heap_in p h) (mutator_of (h.locals m))
      → Replies p h i set m command reply (machine_with h (slice_set h.words k (slice_index h.words k)) m (h.locals m))
  stays k command reply is = still k l command reply is refl (λ x. x) (grown (h.locals m))

  -- a word changes, and so does the mutator's state in fields that no invariant constrains
  stores : (k v : ℕ) (l' : Local) (command : Command) (reply : Reply) → IsStep (heap_in p h) (mutator_of (h.locals m)) command reply (with_words (heap_in p h) (slice_set h.words k v)) (mutator_of l')
      → l'.number ≡ (h.locals m).number → (KnowsItsState p (with_words (heap_in p h) (slice_set h.words k v)) (h.locals m) → KnowsItsState p (with_words (heap_in p h) (slice_set h.words k v)) l')
      → Grows (h.locals m) l' → KeepsFields p (heap_in p h) (slice_set h.words k v) → Untouched (heap_in p h) h.locals (slice_set h.words k v)
      → Replies p h i set m command reply (machine_with h (slice_set h.words k v) m l')
  stores k v l' command reply is own knows grows fields untouched = finish p h i set now m known (slice_set h.words k v) l' command reply is own knows grows fields untouched

  pub move : (d q : ℕ) → d < 16 → q < 16 → Replies p h i set m (c.Move d q) r.Done (next p h m (e.Perform (c.Move d q)))
  move d q low small = sets 0 d (address_in l q) (c.Move d q) r.Done (registers.move-register s (mutator_of l) d q low small)

  pub drop : (q : ℕ) → q < 16 → Replies p h i set m (c.DropReg q) r.Done (next p h m (e.Perform (c.DropReg q)))
  drop q small = sets 0 q 0 (c.DropReg q) r.Done (registers.drop-register s (mutator_of l) q small)

  -- a register gets the reference that was found, whose reply is its name
  reads : (k d v : ℕ) (command : Command) → slice_index h.words k ≡ v
      → (v ≡ 0 → IsStep (heap_in p h) (mutator_of (h.locals m)) command r.Nil (heap_in p h) (with_register (mutator_of (h.locals m)) d 0))
      → (v ≢ 0 → IsStep (heap_in p h) (mutator_of (h.locals m)) command (r.Ref (name_at (heap_in p h) v)) (heap_in p h) (with_register (mutator_of (h.locals m)) d v))
      → Replies p h i set m command (reply_in (heap_in p h) (Reference v)) (machine_with h (slice_set h.words k (slice_index h.words k)) m (with_address (h.locals m) d v))
  reads k d v command is nil some = elim (cases_eq v 0) as (λ _. Replies p h i set m command (reply_in s (Reference v)) (machine_with h (slice_set h.words k (slice_index h.words k)) m (with_address l d v))) [
    | inl e ↦ subst (λ (x : ℕ). Replies p h i set m command (reply_in s (Reference x)) (machine_with h (slice_set h.words k (slice_index h.words k)) m (with_address l d x))) (sym e) (sets k d 0 command r.Nil (nil e))
    | inr other ↦ subst (λ (x : Reply). Replies p h i set m command x (machine_with h (slice_set h.words k (slice_index h.words k)) m (with_address l d v)))
        (sym (cond-false (nat_eq v 0) r.Nil (r.Ref (name_at s v)) (ne_eqb v 0 other))) (sets k d v command (r.Ref (name_at s v)) (some other))
  ]

  pub load : (d g : ℕ) → d < 16 → g < 16 → Replies p h i set m (c.Load d g) (reply_in (heap_in p h) (Reference (global_at (heap_in p h) g))) (next p h m (e.Perform (c.Load d g)))
  load d g low few = reads (first p.before.blocks Globals + g) d (global_at s g) (c.Load d g) refl
      (registers.load-nil s (mutator_of l) d g low few) (registers.load-ref s (mutator_of l) d g low few)

  -- the object in a register, whose shape was loaded
  known-object : (q : ℕ) → HasLoadedShape (h.locals m) q → IsHeld (heap_in p h) (address_in (h.locals m) q) × (word_at (heap_in p h) (address_in (h.locals m) q + 1) ≡ (h.locals m).shape.word)
  known-object q has =
      let is = (now.epoch.knows m).header (subst (λ (x : ℕ). 0 < x) (sym has.2) has.1) in
      (subst (IsHeld s) has.2 is.0, subst (λ (x : ℕ). word_at s (x + 1) ≡ l.shape.word) has.2 is.1)

  known-refs : (q : ℕ) → HasLoadedShape (h.locals m) q → refs_at (heap_in p h) (address_in (h.locals m) q) ≡ refs_in (h.locals m).shape.word
  known-refs q has = ap refs_in (known-object q has).1

  known-nums : (q : ℕ) → HasLoadedShape (h.locals m) q → nums_at (heap_in p h) (address_in (h.locals m) q) ≡ nums_in (h.locals m).shape.word
  known-nums q has = ap nums_in (known-object q has).1

  some-address : (q : ℕ) → HasLoadedShape (h.locals m) q → address_in (h.locals m) q ≢ 0
  some-address q has e = let some : 0 < address_in l q = has.1 in omega arith

  pub get : (d q k : ℕ) → d < 16 → HasField (h.locals m) q k → Replies p h i set m (c.Get d q k) (reply_in (heap_in p h) (Reference (ref_at (heap_in p h) (address_in (h.locals m) q) k))) (next p h m (e.Perform (c.Get d q k)))
  get d q k low has =
      let less : k < refs_at s (address_in l q) = subst (λ (n : ℕ). k < n) (sym (known-refs q has.0)) has.1 in
      reads (address_in l q + 3 + k) d (ref_at s (address_in l q) k) (c.Get d q k) refl
      (cases.get-nil s (mutator_of l) d q k low has.0.0 (some-address q has.0) less) (cases.get-ref s (mutator_of l) d q k low has.0.0 (some-address q has.0) less)

  -- a store after the barrier leaves the fields of old objects whose unlog bits are set
  put-fields : (q k v : ℕ) → HasField (h.locals m) q k → MayStoreReference p (h.locals m) q → KeepsFields p (heap_in p h) (slice_set h.words (address_in (h.locals m) q + 3 + k) v)
  put-fields q k v has barred young x j holds less aged unlogged = elim (cases_eq (x + 3 + j) (address_in l q + 3 + k)) as (λ _. ref_at (with_words s (slice_set h.words (address_in l q + 3 + k) v)) x j ≡ ref_at s x j) [
    | inr other ↦ get_or-set_other h.words (address_in l q + 3 + k) (x + 3 + j) v 0 other
    | inl e ↦ absurd (elim (cases_eq x (address_in l q)) as (λ _. ⊥) [
      | inl same ↦ not-both (subst (λ (y : ℕ). IsTrue (is_old s y)) same aged) (subst (λ (y : ℕ). IsTrue (is_unlogged s y)) same unlogged)
      | inr other ↦ other (order.objects.apart x (address_in l q) (x + 3 + j) holds (known-object q has.0).0 (record { from = omega arith; below = omega arith })
          (subst (IsInExtent s (address_in l q)) (sym e) (let few : k < refs_at s (address_in l q) = subst (λ (n : ℕ). k < n) (sym (known-refs q has.0)) has.1 in record { from = omega arith; below = omega arith })))
    ])
  ]
    where
      not-both : IsTrue (is_old s (address_in l q)) → IsTrue (is_unlogged s (address_in l q)) → ⊥
      not-both old set = elim barred as (λ _. ⊥) [
        | inl none ↦ true≢false (sym young ∙ none)
        | inr other ↦ elim other as (λ _. ⊥) [
          | inl recent ↦
              (let is = (now.epoch.knows m).age (subst (λ (y : ℕ). 0 < y) (sym recent.0) has.0.1) in
              let word : word_at s (address_in l q + 2) ≡ l.collector.word = subst (λ (y : ℕ). word_at s (y + 2) ≡ l.collector.word) recent.0 is.1 in
              true≢false (sym (and_from p.rules.young (is_old s (address_in l q)) young old) ∙ ap (λ y. p.rules.young && (nat_lt 0 s.base && nat_le s.base (y / 2 ^ 24))) word ∙ recent.1))
          | inr logged ↦ (now.epoch.knows m).cleared (subst (λ (y : ℕ). 0 < y) (sym logged) has.0.1) (subst (λ (y : ℕ). IsTrue (is_unlogged s y)) (sym logged) set)
        ]
      ]

  pub put : (q k v : ℕ) → v < 16 → HasField (h.locals m) q k → MayStoreReference p (h.locals m) q → Replies p h i set m (c.Put q k v) r.Done (next p h m (e.Perform (c.Put q k v)))
  put q k v low has barred =
      let a : ℕ = address_in l q in
      let less : k < refs_at s a = subst (λ (n : ℕ). k < n) (sym (known-refs q has.0)) has.1 in
      stores (a + 3 + k) (address_in l v) (record l { pending = 0 }) (c.Put q k v) r.Done
      (fields.put-field s (mutator_of l) q k v order (known-object q has.0).0 has.0.0 low (some-address q has.0) less) refl (λ x. x) (grown (h.locals m))
      (put-fields q k (address_in l v) has barred)
      (kept.object-word p ready h now.epoch (a + 3 + k) (address_in l v) a (known-object q has.0).0 (record { from = omega arith; below = omega arith }))

  pub share : (g q : ℕ) → g < 16 → q < 16 → Replies p h i set m (c.Share g q) r.Done (next p h m (e.Perform (c.Share g q)))
  share g q few small = stores (first p.before.blocks Globals + g) (address_in l q) l (c.Share g q) r.Done (registers.share-global s (mutator_of l) g q few small) refl (λ x. x) (grown (h.locals m))
      (kept.side-field p ready h now.epoch (first p.before.blocks Globals + g) (address_in l q) (omega arith)) (kept.side-word p ready h now.epoch (first p.before.blocks Globals + g) (address_in l q) (omega arith))

  -- the word of a number is one of its object
  number-untouched : (q j v : ℕ) → HasNumber (h.locals m) q j → Untouched (heap_in p h) h.locals (slice_set h.words (number_word (h.locals m) q j) v)
  number-untouched q j v has =
      let a : ℕ = address_in l q in
      let refs : refs_at s a ≡ refs_in l.shape.word = known-refs q has.0 in
      let less : j < nums_at s a = subst (λ (n : ℕ). j < n) (sym (known-nums q has.0)) has.1 in
      kept.object-word p ready h now.epoch (number_word l q j) v a (known-object q has.0).0 (record { from = omega arith; below = omega arith })

  -- the word of a number is no reference field
  number-fields : (q j v : ℕ) → HasNumber (h.locals m) q j → KeepsFields p (heap_in p h) (slice_set h.words (number_word (h.locals m) q j) v)
  number-fields q j v has = kept.fields-at p ready h now.epoch (number_word l q j) v (λ x k holds few e.
      let a : ℕ = address_in l q in
      let refs : refs_at s a ≡ refs_in l.shape.word = known-refs q has.0 in
      let less : j < nums_at s a = subst (λ (n : ℕ). j < n) (sym (known-nums q has.0)) has.1 in
      elim (cases_eq x a) as (λ _. ⊥) [
        | inl same ↦ (let within : k < refs_at s a = subst (λ (y : ℕ). k < refs_at s y) same few in omega arith)
        | inr other ↦ other (order.objects.apart x a (x + 3 + k) holds (known-object q has.0).0 (record { from = omega arith; below = omega arith })
            (subst (IsInExtent s a) (sym e) (record { from = omega arith; below = omega arith })))
      ])

  -- a step on a number, by the number of references that was loaded
  by-refs : (q : ℕ) (P : ℕ → Type 1) → HasLoadedShape (h.locals m) q → P (refs_at (heap_in p h) (address_in (h.locals m) q)) → P (refs_in (h.locals m).shape.word)
  by-refs q P has = subst P (known-refs q has)

  pub read : (q j : ℕ) → HasNumber (h.locals m) q j → Replies p h i set m (c.Read q j) (r.Num (word_at (heap_in p h) (number_word (h.locals m) q j))) (next p h m (e.Perform (c.Read q j)))
  read q j has =
      let a : ℕ = address_in l q in
      let less : j < nums_at s a = subst (λ (n : ℕ). j < n) (sym (known-nums q has.0)) has.1 in
      stays (number_word l q j) (c.Read q j) (r.Num (word_at s (number_word l q j)))
      (by-refs q (λ n. IsStep s (mutator_of l) (c.Read q j) (r.Num (word_at s (a + 3 + n + j))) s (mutator_of l)) has.0 (cases.read-number s (mutator_of l) q j has.0.0 (some-address q has.0) less))

  pub write : (q j v : ℕ) → HasNumber (h.locals m) q j → v < 2 ^ 64 → Replies p h i set m (c.Write q j v) r.Done (next p h m (e.Perform (c.Write q j v)))
  write q j v has fits =
      let a : ℕ = address_in l q in
      let less : j < nums_at s a = subst (λ (n : ℕ). j < n) (sym (known-nums q has.0)) has.1 in
      stores (number_word l q j) v l (c.Write q j v) r.Done
      (by-refs q (λ n. IsStep s (mutator_of l) (c.Write q j v) r.Done (with_words s (slice_set h.words (a + 3 + n + j) v)) (mutator_of l)) has.0
      (numbers.write-number s (mutator_of l) q j v order (known-object q has.0).0 has.0.0 (some-address q has.0) less fits)) refl (λ x. x) (grown (h.locals m)) (number-fields q j v has) (number-untouched q j v has)

  pub add : (q j v : ℕ) → HasNumber (h.locals m) q j → Replies p h i set m (c.Add q j v) (r.Num (word_at (heap_in p h) (number_word (h.locals m) q j))) (next p h m (e.Perform (c.Add q j v)))
  add q j v has =
      let a : ℕ = address_in l q in
      let less : j < nums_at s a = subst (λ (n : ℕ). j < n) (sym (known-nums q has.0)) has.1 in
      stores (number_word l q j) ((word_at s (number_word l q j) + v) % 2 ^ 64) l (c.Add q j v) (r.Num (word_at s (number_word l q j)))
      (by-refs q (λ n. IsStep s (mutator_of l) (c.Add q j v) (r.Num (word_at s (a + 3 + n + j))) (with_words s (slice_set h.words (a + 3 + n + j) ((word_at s (a + 3 + n + j) + v) % 2 ^ 64))) (mutator_of l)) has.0
      (numbers.add-number s (mutator_of l) q j v order (known-object q has.0).0 has.0.0 (some-address q has.0) less)) refl (λ x. x) (grown (h.locals m))
      (number-fields q j ((word_at s (number_word l q j) + v) % 2 ^ 64) has) (number-untouched q j ((word_at s (number_word l q j) + v) % 2 ^ 64) has)

  abbrev swapped : ℕ → ℕ → ℕ → ℕ
  swapped n was v = if nat_eq n was then v else n

  abbrev swap_reply : ℕ → ℕ → Reply
  swap_reply n was = if nat_eq n was then r.Yes else r.No

  pub swap : (q j was v : ℕ) → HasNumber (h.locals m) q j → v < 2 ^ 64
      → Replies p h i set m (c.Swap q j was v) (if nat_eq (word_at (heap_in p h) (number_word (h.locals m) q j)) was then r.Yes else r.No) (next p h m (e.Perform (c.Swap q j was v)))
  swap q j was v has fits =
      let a : ℕ = address_in l q in
      let less : j < nums_at s a = subst (λ (n : ℕ). j < n) (sym (known-nums q has.0)) has.1 in
      stores (number_word l q j) (swapped (word_at s (number_word l q j)) was v) l (c.Swap q j was v) (swap_reply (word_at s (number_word l q j)) was)
      (by-refs q (λ n. IsStep s (mutator_of l) (c.Swap q j was v) (swap_reply (word_at s (a + 3 + n + j)) was) (with_words s (slice_set h.words (a + 3 + n + j) (swapped (word_at s (a + 3 + n + j)) was v))) (mutator_of l)) has.0
      (elim (cases_eq (num_at s a j) was) as (λ _. IsStep s (mutator_of l) (c.Swap q j was v) (swap_reply (num_at s a j) was) (with_words s (slice_set h.words (a + 3 + refs_at s a + j) (swapped (num_at s a j) was v))) (mutator_of l)) [
        | inl same ↦ subst (λ (b : Bool). IsStep s (mutator_of l) (c.Swap q j was v) (if b then r.Yes else r.No) (with_words s (slice_set h.words (a + 3 + refs_at s a + j) (if b then v else num_at s a j))) (mutator_of l))
            (sym (eq-eqb (num_at s a j) was same)) (numbers.swap-yes s (mutator_of l) q j was v order (known-object q has.0).0 has.0.0 (some-address q has.0) less same fits)
        | inr other ↦ subst (λ (b : Bool). IsStep s (mutator_of l) (c.Swap q j was v) (if b then r.Yes else r.No) (with_words s (slice_set h.words (a + 3 + refs_at s a + j) (if b then v else num_at s a j))) (mutator_of l))
            (sym (ne_eqb (num_at s a j) was other))
            (subst (λ (w : List ℕ). IsStep s (mutator_of l) (c.Swap q j was v) r.No (with_words s w) (mutator_of l)) (sym (same-words h.words (a + 3 + refs_at s a + j)))
            (numbers.swap-no s (mutator_of l) q j was v has.0.0 (some-address q has.0) less other))
      ])) refl (λ x. x) (grown (h.locals m)) (number-fields q j (swapped (word_at s (number_word l q j)) was v) has) (number-untouched q j (swapped (word_at s (number_word l q j)) was v) has)

  -- the pin bit of the object in a register, from its word
  pin-bit : (q : ℕ) → IsHeld (heap_in p h) (address_in (h.locals m) q)
      → is_pinned (heap_in p h) (address_in (h.locals m) q) ≡ nat_eq (bit_at (word_at (heap_in p h) (bit_word p.before.blocks PinBits (address_in (h.locals m) q))) (bit_place p.before.blocks (address_in (h.locals m) q))) 1
  pin-bit q held = address_bit-at_address p.before.blocks PinBits h.words (address_in l q) held.address

  pin-untouched : (q v : ℕ) → IsHeld (heap_in p h) (address_in (h.locals m) q) → Untouched (heap_in p h) h.locals (slice_set h.words (bit_word p.before.blocks PinBits (address_in (h.locals m) q)) v)
  pin-untouched q v held = kept.side-word p ready h now.epoch (bit_word p.before.blocks PinBits (address_in l q)) v
      (let from : heap_of p.before.blocks ≤ address_in l q = held.address.from in let below : address_in l q < row_words p.before.blocks = held.address.below in omega arith)

  pin-fields : (q v : ℕ) → IsHeld (heap_in p h) (address_in (h.locals m) q) → KeepsFields p (heap_in p h) (slice_set h.words (bit_word p.before.blocks PinBits (address_in (h.locals m) q)) v)
  pin-fields q v held = kept.side-field p ready h now.epoch (bit_word p.before.blocks PinBits (address_in l q)) v
      (let from : heap_of p.before.blocks ≤ address_in l q = held.address.from in let below : address_in l q < row_words p.before.blocks = held.address.below in omega arith)

  pub pin : (q : ℕ) → q < 16 → 0 < address_in (h.locals m) q
      → Replies p h i set m (c.Pin q) (if nat_eq (bit_at (word_at (heap_in p h) (bit_word p.before.blocks PinBits (address_in (h.locals m) q))) (bit_place p.before.blocks (address_in (h.locals m) q))) 1 then r.No else r.Yes)
      (next p h m (e.Perform (c.Pin q)))
  pin q small some =
      let a : ℕ = address_in l q in
      let k : ℕ = bit_place p.before.blocks a in
      let n : ℕ = word_at s (bit_word p.before.blocks PinBits a) in
      let held : IsHeld s a = register-held q small (λ e. omega arith) in
      stores (bit_word p.before.blocks PinBits a) (with_bit n k) l (c.Pin q) (if nat_eq (bit_at n k) 1 then r.No else r.Yes)
      (subst (λ (b : Bool). IsStep s (mutator_of l) (c.Pin q) (if b then r.No else r.Yes) (with_words s (slice_set h.words (bit_word p.before.blocks PinBits a) (with_bit n k))) (mutator_of l)) (pin-bit q held)
      (pins.pin-object s (with_words s (slice_set h.words (bit_word p.before.blocks PinBits a) (with_bit n k))) (mutator_of l) q small (λ e. omega arith)
      (bits.sets-pin s order a (with_bit n k) true held.address (single.with-fits n k (order.row.words (bit_word p.before.blocks PinBits a)) (omega arith)) (ap (λ x. nat_eq x 1) (single.with-same n k))
      (λ x less other. single.with-other n k x other))))
      refl (λ x. x) (grown (h.locals m)) (pin-fields q (with_bit n k) held) (pin-untouched q (with_bit n k) held)

  pub unpin : (q : ℕ) → q < 16 → 0 < address_in (h.locals m) q
      → Replies p h i set m (c.Unpin q) (if nat_eq (bit_at (word_at (heap_in p h) (bit_word p.before.blocks PinBits (address_in (h.locals m) q))) (bit_place p.before.blocks (address_in (h.locals m) q))) 1 then r.Yes else r.No)
      (next p h m (e.Perform (c.Unpin q)))
  unpin q small some =
      let a : ℕ = address_in l q in
      let k : ℕ = bit_place p.before.blocks a in
      let n : ℕ = word_at s (bit_word p.before.blocks PinBits a) in
      let low : k < 64 = omega arith in
      let held : IsHeld s a = register-held q small (λ e. omega arith) in
      stores (bit_word p.before.blocks PinBits a) (without_bit n k) l (c.Unpin q) (if nat_eq (bit_at n k) 1 then r.Yes else r.No)
      (subst (λ (b : Bool). IsStep s (mutator_of l) (c.Unpin q) (if b then r.Yes else r.No) (with_words s (slice_set h.words (bit_word p.before.blocks PinBits a) (without_bit n k))) (mutator_of l)) (pin-bit q held)
      (pins.unpin-object s (with_words s (slice_set h.words (bit_word p.before.blocks PinBits a) (without_bit n k))) (mutator_of l) q small (λ e. omega arith)
      (bits.sets-pin s order a (without_bit n k) false held.address (single.without-fits n k (order.row.words (bit_word p.before.blocks PinBits a))) (ap (λ x. nat_eq x 1) (single.without-same n k low))
      (λ x less other. single.without-other n k x low less other))))
      refl (λ x. x) (grown (h.locals m)) (pin-fields q (without_bit n k) held) (pin-untouched q (without_bit n k) held)

  -- `null` or `range`, by the register
  abbrev miss_reply : ℕ → Reply
  miss_reply a = if nat_eq a 0 then r.Null else r.Range

  missed : (q : ℕ) (command : Command) → ((address_in (h.locals m) q ≡ 0 → IsStep (heap_in p h) (mutator_of (h.locals m)) command r.Null (heap_in p h) (mutator_of (h.locals m)))
      × (address_in (h.locals m) q ≢ 0 → IsStep (heap_in p h) (mutator_of (h.locals m)) command r.Range (heap_in p h) (mutator_of (h.locals m))))
      → Replies p h i set m command (if nat_eq (address_in (h.locals m) q) 0 then r.Null else r.Range) (next p h m (e.Miss command))
  missed q command steps = stays 0 command (miss_reply (address_in l q))
      (elim (cases_eq (address_in l q) 0) as (λ _. IsStep s (mutator_of l) command (miss_reply (address_in l q)) s (mutator_of l)) [
        | inl nil ↦ subst (λ (x : Reply). IsStep s (mutator_of l) command x s (mutator_of l)) (sym (cond-true (nat_eq (address_in l q) 0) r.Null r.Range (eq-eqb (address_in l q) 0 nil))) (steps.0 nil)
        | inr some ↦ subst (λ (x : Reply). IsStep s (mutator_of l) command x s (mutator_of l)) (sym (cond-false (nat_eq (address_in l q) 0) r.Null r.Range (ne_eqb (address_in l q) 0 some))) (steps.1 some)
      ])

  -- if there is an object, its shape has too few fields or numbers
  few-refs : (q k : ℕ) → LacksField (h.locals m) q k → address_in (h.locals m) q ≢ 0 → refs_at (heap_in p h) (address_in (h.locals m) q) ≤ k
  few-refs q k (small, inl nil) some = absurd (some nil)
  few-refs q k (small, inr few) some = subst (λ (n : ℕ). n ≤ k) (sym (known-refs q few.0)) few.1

  few-nums : (q k : ℕ) → LacksNumber (h.locals m) q k → address_in (h.locals m) q ≢ 0 → nums_at (heap_in p h) (address_in (h.locals m) q) ≤ k
  few-nums q k (small, inl nil) some = absurd (some nil)
  few-nums q k (small, inr few) some = subst (λ (n : ℕ). n ≤ k) (sym (known-nums q few.0)) few.1

  pub miss : (command : Command) → IsMiss (h.locals m) command → Replies p h i set m command (if nat_eq (address_in (h.locals m) (source command)) 0 then r.Null else r.Range) (next p h m (e.Miss command))
  miss (c.Get d q k) is = missed q (c.Get d q k) (cases.get-null s (mutator_of l) d q k is.0, λ some. cases.get-range s (mutator_of l) d q k is.0 some (few-refs q k is some))
  miss (c.Put q k v) is = missed q (c.Put q k v) (refusals.put-null s (mutator_of l) q k v is.0, λ some. refusals.put-range s (mutator_of l) q k v is.0 some (few-refs q k is some))
  miss (c.Read q j) is = missed q (c.Read q j) (cases.read-null s (mutator_of l) q j is.0, λ some. cases.read-range s (mutator_of l) q j is.0 some (few-nums q j is some))
  miss (c.Write q j v) is = missed q (c.Write q j v) (cases.write-null s (mutator_of l) q j v is.0, λ some. cases.write-range s (mutator_of l) q j v is.0 some (few-nums q j is some))
  miss (c.Add q j v) is = missed q (c.Add q j v) (refusals.add-null s (mutator_of l) q j v is.0, λ some. refusals.add-range s (mutator_of l) q j v is.0 some (few-nums q j is some))
  miss (c.Swap q j was v) is = missed q (c.Swap q j was v) (refusals.swap-null s (mutator_of l) q j was v is.0, λ some. refusals.swap-range s (mutator_of l) q j was v is.0 some (few-nums q j is some))
  miss (c.Pin q) is = missed q (c.Pin q) (refusals.pin-null s (mutator_of l) q is.0, λ some. absurd (some is.1))
  miss (c.Unpin q) is = missed q (c.Unpin q) (refusals.unpin-null s (mutator_of l) q is.0, λ some. absurd (some is.1))
  miss (c.New d refs nums) is = absurd is
  miss (c.Move d q) is = absurd is
  miss (c.DropReg q) is = absurd is
  miss (c.Load d g) is = absurd is
  miss (c.Share g q) is = absurd is
  miss c.Gc is = absurd is
  miss c.Meet is = absurd is
