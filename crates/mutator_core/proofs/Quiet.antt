-- The steps without an entry that change no object: loads, the stop word, tickets, unlog bits, words of unpublished objects.
use Rattle.std.proofs.Common.{◌≡◌, refl, sym, ◌∙◌, ap, subst, ℕ, ◌+◌, ◌*◌, ◌-◌, ◌/◌, ◌%◌, ◌^◌, ◌<◌, ◌≤◌, inl, inr, arith, Bool, true, false, IsTrue, List, length, slice_index, slice_set, nat_eq}
use Rattle.std.specs.Prelude.{if◌then◌else◌, Some}
use Rattle.std.specs.List.{Contains}
use Rattle.std.specs.Int.{bit_at}
use Rattle.std.proofs.lemmas.Bool.{cases_eq, cases_lt, true≢false}
use Rattle.std.proofs.lemmas.List.{get_or-set_same, get_or-set_other, get_or_past, length-set}
use Rattle.heap_layout.specs.Zones.{Zone, Globals, BlockWords, LineWords, StartBits, PinBits, UnlogBits, row_words, heap_of, first, address_bit}
use Rattle.heap_layout.proofs.MarkLemmas.{address_bit-at_address}
use Rattle.ideal_heap.specs.Ideal.{IdealHeap}
use Rattle.object_model.specs.Objects.{HeapState, with_words, word_at, is_unlogged, IsHeld}
use Rattle.object_model.specs.Lawful.{IsWellFormed}
use Rattle.object_model.specs.Graphs.{MutatorState, IsMutatorState, numbers_of}
use Rattle.object_model.specs.Agreement.{RepresentsOn}
use Rattle.object_model.specs.Changes.{ObjectsStay, ClearsUnlog}
use Rattle.object_model.proofs.Among.{all-at}
use Rattle.object_model.proofs.Frames as frames
use Rattle.object_model.proofs.Marks.{mark-same}
use Rattle.object_model.proofs.StepCases as cases
use Rattle.object_model.proofs.LawfulStores as unlogs
use Rattle.object_model.proofs.QuietStores.{quiet-models}
use Rattle.mutator_core.specs.declared.state.Local.{Local}
use Rattle.mutator_core.specs.declared.state.Event.TheVariants as e
use Rattle.mutator_core.specs.Machine.{Epoch, Machine, heap_in, mutators_in, mutator_of, address_in, next}
use Rattle.side_meta.specs.BitWords.{without_bit}
use Rattle.object_model.specs.BitWords.{bit_word, bit_place}
use Rattle.mutator_core.specs.Guards.{HasObjectIn}
use Rattle.mutator_core.specs.Epochs.{EpochMayBegin, IsInEpoch, KnowsItsState}
use Rattle.mutator_core.proofs.Lists.{mutators-same}
use Rattle.mutator_core.proofs.Kept as kept
use Rattle.mutator_core.proofs.Kept.{Untouched, KeepsFields, Grows, grown, leaves-kept, free-kept, epoch-left, epoch-with}
use Rattle.object_model.proofs.BitWords as bits
use Rattle.mutator_core.proofs.Moments.{Holds, Moved, machine_with, same-words, one-of}

module _ (p : Epoch) (ready : EpochMayBegin p) (h : Machine) (i : IdealHeap) (set : ℕ → Type 0) (now : Holds p h i set) (m : ℕ) (known : Contains (numbers_of p.mutators) m) where
  abbrev s : HeapState
  s = heap_in p h

  abbrev l : Local
  l = h.locals m

  order : IsWellFormed s
  order = now.models.order

  -- a row that keeps the objects, and a state with the same number, births and registers
  pub quietly : (w : List ℕ) (l' : Local) → ObjectsStay (heap_in p h) (with_words (heap_in p h) w) → RepresentsOn (with_words (heap_in p h) w) (mutators_in p h) i set
      → mutator_of l' ≡ mutator_of (h.locals m) → (KnowsItsState p (with_words (heap_in p h) w) (h.locals m) → KnowsItsState p (with_words (heap_in p h) w) l')
      → Grows (h.locals m) l' → KeepsFields p (heap_in p h) w → Untouched (heap_in p h) h.locals w → Moved p h (machine_with h w m l') i set
  quietly w l' keeps model same knows grows fields untouched =
      let after : IsInEpoch p (with_words s w) h.locals = epoch-left p h w now.epoch (leaves-kept s w keeps) (frames.held-before s w keeps) (free-kept s w keeps model.order now.epoch.free) keeps.block_words fields untouched in
      record {
        moment = record {
          models = subst (λ (ms : List MutatorState). RepresentsOn (with_words s w) ms i set) (sym (mutators-same h.locals m l' (numbers_of p.mutators) same)) model;
          epoch = epoch-with p (with_words s w) h.locals m l' after known (ap (λ x. x.number) same ∙ now.epoch.numbers m) (knows (after.knows m)) grows;
        };
        leaves = leaves-kept s w keeps;
      }

  -- a load
  pub loads : (k : ℕ) (l' : Local) → mutator_of l' ≡ mutator_of (h.locals m) → (KnowsItsState p (heap_in p h) (h.locals m) → KnowsItsState p (heap_in p h) l')
      → Grows (h.locals m) l' → Moved p h (machine_with h (slice_set h.words k (slice_index h.words k)) m l') i set
  loads k l' same knows grows = subst (λ (w : List ℕ). Moved p h (machine_with h w m l') i set) (sym (same-words h.words k))
      (quietly h.words l' (cases.keeps-self s) now.models same knows grows (λ young a j holds less aged unlogged. refl) (λ q j some less. refl))

  -- the object in a register
  pub in-register : (q : ℕ) → HasObjectIn (h.locals m) q → IsHeld (heap_in p h) (address_in (h.locals m) q)
  in-register q (small, some) = cases.register-held s (mutators_in p h) i set now.models (mutator_of l) (one-of p h i set now m known) q small (λ e. omega arith)

  pub load-shape : (q : ℕ) → HasObjectIn (h.locals m) q → Moved p h (next p h m (e.LoadShape q)) i set
  load-shape q has = loads (address_in l q + 1) (record l { shape = record { at = address_in l q; word = word_at s (address_in l q + 1) } }) refl
      (λ knows. record { owned = knows.owned; objects = knows.objects; regions = knows.regions; unpublished = knows.unpublished; header = λ some. (in-register q has, refl); age = knows.age; cleared = knows.cleared }) (grown (h.locals m))

  -- a word before the globals
  low-keeps : (k v : ℕ) → k < 2 → ObjectsStay (heap_in p h) (with_words (heap_in p h) (slice_set h.words k v))
  low-keeps k v low = record {
    blocks = refl;
    number = refl;
    base = refl;
    extent = length-set h.words k v;
    starts = λ x. marks StartBits x (omega arith);
    unlogs = λ x is. sym (marks UnlogBits x (omega arith)) ∙ is;
    lines = λ q line there few. ap (λ word. nat_eq (bit_at word ((256 * q + line) % 64)) 1) (other (first s.blocks LineWords + (256 * q + line) / 64) (omega arith));
    block_words = λ q there. other (first s.blocks BlockWords + q) (omega arith);
    headers = λ x q holds few. other (x + q) (let from : heap_of s.blocks ≤ x = holds.address.from in omega arith);
  }
    where
      other : (q : ℕ) → 2 ≤ q → word_at (with_words s (slice_set h.words k v)) q ≡ word_at s q
      other q beyond = get_or-set_other h.words k q v 0 (λ e. omega arith)

      marks : (z : Zone) (x : ℕ) → 18 ≤ first s.blocks z → address_bit s.blocks z (slice_set h.words k v) x ≡ address_bit s.blocks z s.words x
      marks z x beyond = mark-same s.blocks z s.words (slice_set h.words k v) x (λ there.
          ap (λ word. nat_eq (bit_at word ((x - heap_of s.blocks) % 64)) 1) (other (first s.blocks z + (x - heap_of s.blocks) / 64) (omega arith)))

  low-other : (k v q : ℕ) → k < 2 → 2 ≤ q → word_at (with_words (heap_in p h) (slice_set h.words k v)) q ≡ word_at (heap_in p h) q
  low-other k v q low beyond = get_or-set_other h.words k q v 0 (λ e. omega arith)

  low-fits : (k v : ℕ) → v < 2 ^ 64 → (q : ℕ) → word_at (with_words (heap_in p h) (slice_set h.words k v)) q < 2 ^ 64
  low-fits k v fits q = elim (cases_eq q k) as (λ _. word_at (with_words s (slice_set h.words k v)) q < 2 ^ 64) [
    | inr other ↦ subst (λ (x : ℕ). x < 2 ^ 64) (sym (get_or-set_other h.words k q v 0 other)) (order.row.words q)
    | inl same ↦ elim (cases_lt q (length h.words)) as (λ _. word_at (with_words s (slice_set h.words k v)) q < 2 ^ 64) [
      | inl inside ↦ subst (λ (x : ℕ). x < 2 ^ 64) (sym (ap (word_at (with_words s (slice_set h.words k v))) same ∙ get_or-set_same h.words k v 0 (subst (λ (x : ℕ). x < length h.words) same inside))) fits
      | inr past ↦ subst (λ (x : ℕ). x < 2 ^ 64) (sym (get_or_past (slice_set h.words k v) q 0 (let e : length (slice_set h.words k v) ≡ length h.words = length-set h.words k v in omega arith))) (omega arith)
    ]
  ]

  -- the stop word and the budget word
  low-step : (k v : ℕ) (l' : Local) → k < 2 → v < 2 ^ 64 → mutator_of l' ≡ mutator_of (h.locals m)
      → (KnowsItsState p (with_words (heap_in p h) (slice_set h.words k v)) (h.locals m) → KnowsItsState p (with_words (heap_in p h) (slice_set h.words k v)) l')
      → Grows (h.locals m) l' → Moved p h (machine_with h (slice_set h.words k v) m l') i set
  low-step k v l' low fits same knows grows =
      quietly (slice_set h.words k v) l' (low-keeps k v low)
      (quiet-models s (slice_set h.words k v) (low-keeps k v low) order (low-fits k v fits)
      (λ x. mark-same s.blocks PinBits s.words (slice_set h.words k v) x (λ there.
      ap (λ word. nat_eq (bit_at word ((x - heap_of s.blocks) % 64)) 1) (low-other k v (first s.blocks PinBits + (x - heap_of s.blocks) / 64) low (omega arith))))
      (λ g small. low-other k v (first s.blocks Globals + g) low (omega arith))
      (λ x q holds less. low-other k v (x + q) low (let from : heap_of s.blocks ≤ x = holds.address.from in omega arith))
      (mutators_in p h) i set now.models) same knows grows (kept.side-field p ready h now.epoch k v (omega arith)) (kept.side-word p ready h now.epoch k v (omega arith))

  pub raise : Moved p h (next p h m e.Raise) i set
  raise = low-step 0 (if nat_eq (slice_index h.words 0) 0 then l.number else slice_index h.words 0) (record l { raised = true }) (omega arith) fits refl (λ x. x) (grown (h.locals m))
    where
      few : l.number ≤ 16
      few = (all-at IsMutatorState (mutators_in p h) (mutator_of l) now.models.mutators.each (one-of p h i set now m known)).most

      fits : (if nat_eq (slice_index h.words 0) 0 then l.number else slice_index h.words 0) < 2 ^ 64
      fits = elim (nat_eq (slice_index h.words 0) 0) as (λ b. (if b then l.number else slice_index h.words 0) < 2 ^ 64) [
        | true ↦ (let most : l.number ≤ 16 = few in omega arith)
        | false ↦ order.row.words 0
      ]

  pub draw : Moved p h (next p h m e.DrawTicket) i set
  draw = low-step 1 ((slice_index h.words 1 + 1) % 2 ^ 64) (record l { ticket = Some (slice_index h.words 1) }) (omega arith) (omega arith) refl (λ x. x) (grown (h.locals m))

  -- the unlog bit of the object in a register
  pub clear-unlog : (q : ℕ) → HasObjectIn (h.locals m) q → Moved p h (next p h m (e.ClearUnlog q)) i set
  clear-unlog q has =
      let a : ℕ = address_in l q in
      let k : ℕ = bit_word p.before.blocks UnlogBits a in
      let v : ℕ = without_bit (slice_index h.words k) (bit_place p.before.blocks a) in
      let w : List ℕ = slice_set h.words (bit_word p.before.blocks UnlogBits a) (without_bit (slice_index h.words (bit_word p.before.blocks UnlogBits a)) (bit_place p.before.blocks a)) in
      let held : IsHeld s a = in-register q has in
      let clears : ClearsUnlog s (with_words s w) a = bits.clears-unlog s order a held.address in
      let before : k < heap_of p.before.blocks = (let from : heap_of p.before.blocks ≤ a = held.address.from in let below : a < row_words p.before.blocks = held.address.below in omega arith) in
      quietly w (record l { logged = a; pending = a }) (unlogs.keeps s w a clears)
      (quiet-models s w (unlogs.keeps s w a clears) order clears.words
      (λ x. unlogs.mark-kept s w a clears PinBits x (omega arith))
      (λ g small. clears.rest (first s.blocks Globals + g) (inl (omega arith)))
      (λ x j holds less. clears.rest (x + j) (inr (let from : heap_of s.blocks ≤ x = holds.address.from in omega arith)))
      (mutators_in p h) i set now.models) refl
      (λ knows. record {
        owned = knows.owned;
        objects = knows.objects;
        regions = knows.regions;
        unpublished = knows.unpublished;
        header = knows.header;
        age = knows.age;
        cleared = λ some is. true≢false (sym is ∙ clears.clear);
      }) (grown l) (kept.side-field p ready h now.epoch k v before) (kept.side-word p ready h now.epoch k v before)

  pub load-collector : (q : ℕ) → HasObjectIn (h.locals m) q → Moved p h (next p h m (e.LoadCollector q)) i set
  load-collector q has = loads (address_in l q + 2) (record l { collector = record { at = address_in l q; word = word_at s (address_in l q + 2) } }) refl
      (λ knows. record { owned = knows.owned; objects = knows.objects; regions = knows.regions; unpublished = knows.unpublished; header = knows.header; age = λ some. (in-register q has, refl); cleared = knows.cleared }) (grown l)

  -- the unlog bit of an object, from its word
  pub load-unlog : (q : ℕ) → HasObjectIn (h.locals m) q → Moved p h (next p h m (e.LoadUnlog q)) i set
  load-unlog q has =
      let a : ℕ = address_in l q in
      let n : ℕ = slice_index h.words (bit_word p.before.blocks UnlogBits a) in
      let bit : Bool = nat_eq (bit_at n (bit_place p.before.blocks a)) 1 in
      let held : IsHeld s a = in-register q has in
      loads (bit_word p.before.blocks UnlogBits a) (record l { logged = if nat_eq (bit_at n (bit_place p.before.blocks a)) 1 then l.logged else a }) refl
      (λ knows. record {
        owned = knows.owned;
        objects = knows.objects;
        regions = knows.regions;
        unpublished = knows.unpublished;
        header = knows.header;
        age = knows.age;
        cleared = by-bit a bit (sym (address_bit-at_address p.before.blocks UnlogBits h.words a held.address)) knows.cleared;
      }) (grown l)
    where
      by-bit : (a : ℕ) (b : Bool) → b ≡ is_unlogged s a → (0 < l.logged → IsTrue (is_unlogged s l.logged) → ⊥) → 0 < (if b then l.logged else a) → IsTrue (is_unlogged s (if b then l.logged else a)) → ⊥
      by-bit a true e old = old
      by-bit a false e old = λ some set. let wrong : false ≡ true = e ∙ set in cc
