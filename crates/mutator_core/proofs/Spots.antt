-- Which words a step changes: unlog bits, the budget word and the stop word are each changed by one kind of step alone.
use Rattle.std.proofs.Common.{◌≡◌, ◌≢◌, refl, sym, ap, subst, ℕ, ◌+◌, ◌*◌, ◌-◌, ◌/◌, ◌%◌, ◌<◌, ◌≤◌, ◌⊎◌, inl, inr, arith, Bool, true, false, List, slice_index, slice_set, nat_eq}
use Rattle.std.specs.List.{Contains}
use Rattle.std.specs.Int.{bit_at}
use Rattle.std.proofs.lemmas.List.{get_or-set_other}
use Rattle.heap_layout.specs.Zones.{StartBits, PinBits, UnlogBits, Globals, BlockWords, first, row_words, heap_of}
use Rattle.ideal_heap.specs.declared.command.Command.{Command}
use Rattle.ideal_heap.specs.declared.command.Command.TheVariants as c
use Rattle.ideal_heap.specs.Ideal.{IdealHeap}
use Rattle.object_model.specs.Objects.{HeapState, block_word, is_unlogged}
use Rattle.object_model.specs.Graphs.{numbers_of}
use Rattle.object_model.proofs.Marks.{mark-same}
use Rattle.mutator_core.specs.declared.state.Local.{Local}
use Rattle.mutator_core.specs.declared.state.Event.{Event}
use Rattle.mutator_core.specs.declared.state.Event.TheVariants as e
use Rattle.mutator_core.specs.Machine.{Epoch, Machine, heap_in, address_in, next, number_word}
use Rattle.object_model.specs.BitWords.{bit_word}
use Rattle.mutator_core.specs.Guards.{MayStep, MayPerform, HasObjectIn}
use Rattle.mutator_core.specs.Epochs.{EpochMayBegin}
use Rattle.mutator_core.proofs.Moments.{Holds, same-words}
use Rattle.mutator_core.proofs.Quiet.{in-register}
use Rattle.mutator_core.proofs.Published as published
use Rattle.mutator_core.proofs.BirthWords as writing
use Rattle.mutator_core.proofs.Law.{is_publication}

abbrev pub clears_unlog : Event → Bool
clears_unlog (e.ClearUnlog s) = true
clears_unlog _ = false

abbrev pub draws_ticket : Event → Bool
draws_ticket e.DrawTicket = true
draws_ticket _ = false

abbrev pub raises_stop : Event → Bool
raises_stop e.Raise = true
raises_stop _ = false

abbrev pub takes_block : Event → Bool
takes_block (e.TakeBlock k class free) = true
takes_block _ = false

pub record Spot (s : HeapState) (w : List ℕ) (x : Event) : Type 0 where
  pub unlogs : clears_unlog x ≡ false → (a : ℕ) → is_unlogged (record s { words = w }) a ≡ is_unlogged s a
  pub tickets : draws_ticket x ≡ false → slice_index w 1 ≡ slice_index s.words 1
  pub stop : raises_stop x ≡ false → slice_index w 0 ≡ slice_index s.words 0
  pub blocks : takes_block x ≡ false → (k : ℕ) → k < s.blocks → block_word (record s { words = w }) k ≡ block_word s k
  pub sides : (k : ℕ) → 18 + s.blocks ≤ k → k < 18 + 69 * s.blocks → (is_publication x ≡ false) ⊎ (k < 18 + 5 * s.blocks) → slice_index w k ≡ slice_index s.words k

module _ (p : Epoch) (ready : EpochMayBegin p) (h : Machine) (i : IdealHeap) (set : ℕ → Type 0) (now : Holds p h i set) (m : ℕ) (known : Contains (numbers_of p.mutators) m) where
  abbrev s : HeapState
  s = heap_in p h

  abbrev l : Local
  l = h.locals m

  -- the word that was found is stored
  same : (x : Event) (k : ℕ) → Spot s (slice_set h.words k (slice_index h.words k)) x
  same x k = subst (λ (w : List ℕ). Spot s w x) (sym (same-words h.words k)) (record { unlogs = λ other a. refl; tickets = λ other. refl; stop = λ other. refl; blocks = λ other q there. refl; sides = λ q from below other. refl })

  -- a word that is none of these
  elsewhere : (x : Event) (k v : ℕ) → 2 ≤ k → (k < first p.before.blocks UnlogBits) ⊎ (heap_of p.before.blocks ≤ k) → (takes_block x ≡ false → (k < 18) ⊎ (18 + p.before.blocks ≤ k))
      → ((j : ℕ) → 18 + p.before.blocks ≤ j → j < 18 + 69 * p.before.blocks → (is_publication x ≡ false) ⊎ (j < 18 + 5 * p.before.blocks) → j ≢ k) → Spot s (slice_set h.words k v) x
  elsewhere x k v least outside away beside = record {
    sides = λ j from below other. get_or-set_other h.words k j v 0 (beside j from below other);
    blocks = λ other q there. get_or-set_other h.words k (first p.before.blocks BlockWords + q) v 0 (λ e. elim (away other) as (λ _. ⊥) [ inl before ↦ omega arith | inr beyond ↦ omega arith ]);
    unlogs = λ other. unlog-other k v outside;
    tickets = λ other. get_or-set_other h.words k 1 v 0 (λ e. omega arith);
    stop = λ other. get_or-set_other h.words k 0 v 0 (λ e. omega arith);
  }
    where
      unlog-other : (k v : ℕ) → (k < first p.before.blocks UnlogBits) ⊎ (heap_of p.before.blocks ≤ k) → (a : ℕ) → is_unlogged (record s { words = slice_set h.words k v }) a ≡ is_unlogged s a
      unlog-other k v outside a = mark-same s.blocks UnlogBits s.words (slice_set h.words k v) a (λ there.
          let from : heap_of s.blocks ≤ a = there.from in let below : a < row_words s.blocks = there.below in
          ap (λ word. nat_eq (bit_at word ((a - heap_of s.blocks) % 64)) 1) (get_or-set_other h.words k (first s.blocks UnlogBits + (a - heap_of s.blocks) / 64) v 0
          (λ e. elim outside as (λ _. ⊥) [ inl before ↦ omega arith | inr beyond ↦ omega arith ])))

  of-object : (x : Event) (q k v : ℕ) → HasObjectIn l q → address_in l q ≤ k → Spot s (slice_set h.words k v) x
  of-object x q k v has least =
      let from : heap_of p.before.blocks ≤ address_in l q = (in-register p ready h i set now m known q has).address.from in
      elsewhere x k v (omega arith) (inr (omega arith)) (λ other. inr (omega arith)) (λ j from' below' other e. omega arith)

  bit-spot : (x : Event) (q v : ℕ) → HasObjectIn l q → Spot s (slice_set h.words (bit_word p.before.blocks PinBits (address_in l q)) v) x
  bit-spot x q v has =
      let address = (in-register p ready h i set now m known q has).address in
      let from : heap_of p.before.blocks ≤ address_in l q = address.from in
      let below : address_in l q < row_words p.before.blocks = address.below in
      elsewhere x (bit_word p.before.blocks PinBits (address_in l q)) v (omega arith) (inl (omega arith)) (λ other. inr (omega arith)) (λ j from' below' other e. omega arith)

  perform-spot : (command : Command) → MayPerform p l command → Spot s (next p h m (e.Perform command)).words (e.Perform command)
  perform-spot (c.New d refs nums) may = let zone = published.starts-in-zone p ready h i set now m known d refs nums may.0 may.1 may.2 in
      let from = zone.0 in let below = zone.1 in elsewhere (e.Perform (c.New d refs nums)) (bit_word p.before.blocks StartBits l.unpublished.address) _ (omega arith) (inl (omega arith)) (λ other. inr (omega arith))
      (λ j least less other e. elim other as (λ _. ⊥) [ inl wrong ↦ (let no : true ≡ false = wrong in cc) | inr line ↦ omega arith ])
  perform-spot (c.Get d q k) may = same (e.Perform (c.Get d q k)) _
  perform-spot (c.Put q k v) may = of-object (e.Perform (c.Put q k v)) q (address_in l q + 3 + k) _ (may.1.0.0, may.1.0.1) (omega arith)
  perform-spot (c.Read q j) may = same (e.Perform (c.Read q j)) _
  perform-spot (c.Write q j v) may = of-object (e.Perform (c.Write q j v)) q (number_word l q j) _ (may.0.0.0, may.0.0.1) (omega arith)
  perform-spot (c.Add q j v) may = of-object (e.Perform (c.Add q j v)) q (number_word l q j) _ (may.0.0.0, may.0.0.1) (omega arith)
  perform-spot (c.Swap q j was v) may = of-object (e.Perform (c.Swap q j was v)) q (number_word l q j) _ (may.0.0.0, may.0.0.1) (omega arith)
  perform-spot (c.Move d q) may = same (e.Perform (c.Move d q)) _
  perform-spot (c.DropReg q) may = same (e.Perform (c.DropReg q)) _
  perform-spot (c.Load d g) may = same (e.Perform (c.Load d g)) _
  perform-spot (c.Share g q) may = let few : g < 16 = may.0 in elsewhere (e.Perform (c.Share g q)) (first p.before.blocks Globals + g) _ (omega arith) (inl (omega arith)) (λ other. inl (omega arith)) (λ j from' below' other e. omega arith)
  perform-spot (c.Pin q) may = bit-spot (e.Perform (c.Pin q)) q _ may
  perform-spot (c.Unpin q) may = bit-spot (e.Perform (c.Unpin q)) q _ may
  perform-spot c.Gc may = absurd may
  perform-spot c.Meet may = absurd may

  pub spot : (x : Event) → MayStep p l x → Spot s (next p h m x).words x
  spot (e.Perform command) may = perform-spot command may
  spot (e.Miss command) may = same (e.Miss command) _
  spot e.Poll may = same e.Poll _
  spot (e.LoadName q) may = same (e.LoadName q) _
  spot (e.LoadShape q) may = same (e.LoadShape q) _
  spot (e.LoadCollector q) may = same (e.LoadCollector q) _
  spot (e.LoadShapeAt a) may = same (e.LoadShapeAt a) _
  spot (e.LoadBlock k) may = same (e.LoadBlock k) _
  spot (e.LoadSide k) may = same (e.LoadSide k) _
  spot (e.LoadUnlog q) may = same (e.LoadUnlog q) _
  spot e.Raise may = record {
    unlogs = λ other a. mark-same s.blocks UnlogBits s.words (next p h m e.Raise).words a (λ there.
        ap (λ word. nat_eq (bit_at word ((a - heap_of s.blocks) % 64)) 1) (get_or-set_other h.words 0 (first s.blocks UnlogBits + (a - heap_of s.blocks) / 64) _ 0 (λ e. omega arith)));
    tickets = λ other. get_or-set_other h.words 0 1 _ 0 (λ e. omega arith);
    stop = λ wrong. absurd (let no : true ≡ false = wrong in cc);
    blocks = λ other q there. get_or-set_other h.words 0 (first p.before.blocks BlockWords + q) _ 0 (λ e. omega arith);
    sides = λ j from below other. get_or-set_other h.words 0 j _ 0 (λ e. omega arith);
  }
  spot (e.ClearUnlog q) may =
      let address = (in-register p ready h i set now m known q may.0).address in
      let from : heap_of p.before.blocks ≤ address_in l q = address.from in
      record {
        unlogs = λ wrong. absurd (let no : true ≡ false = wrong in cc);
        tickets = λ other. get_or-set_other h.words (bit_word p.before.blocks UnlogBits (address_in l q)) 1 _ 0 (λ e. omega arith);
        stop = λ other. get_or-set_other h.words (bit_word p.before.blocks UnlogBits (address_in l q)) 0 _ 0 (λ e. omega arith);
        blocks = λ other k there. get_or-set_other h.words (bit_word p.before.blocks UnlogBits (address_in l q)) (first p.before.blocks BlockWords + k) _ 0 (λ e. omega arith);
        sides = λ j least less other. get_or-set_other h.words (bit_word p.before.blocks UnlogBits (address_in l q)) j _ 0 (λ e. omega arith);
      }
  spot (e.Initialize a refs nums offset) may = let from = writing.in-heap p ready h i set now m known a refs nums offset may in elsewhere (e.Initialize a refs nums offset) (a + offset) _ (omega arith) (inr (omega arith)) (λ other. inr (omega arith)) (λ j from' below' other e. omega arith)
  spot e.DrawTicket may = record {
    unlogs = λ other a. mark-same s.blocks UnlogBits s.words (next p h m e.DrawTicket).words a (λ there.
        ap (λ word. nat_eq (bit_at word ((a - heap_of s.blocks) % 64)) 1) (get_or-set_other h.words 1 (first s.blocks UnlogBits + (a - heap_of s.blocks) / 64) _ 0 (λ e. omega arith)));
    tickets = λ wrong. absurd (let no : true ≡ false = wrong in cc);
    stop = λ other. get_or-set_other h.words 1 0 _ 0 (λ e. omega arith);
    blocks = λ other q there. get_or-set_other h.words 1 (first p.before.blocks BlockWords + q) _ 0 (λ e. omega arith);
    sides = λ j from below other. get_or-set_other h.words 1 j _ 0 (λ e. omega arith);
  }
  spot (e.TakeBlock k class free) may = let there : k < p.before.blocks = may.0 in elsewhere (e.TakeBlock k class free) (first p.before.blocks BlockWords + k) _ (omega arith) (inl (omega arith)) (λ wrong. absurd (let no : true ≡ false = wrong in cc)) (λ j from' below' other e. omega arith)
