-- One step of the machine in a world that follows it.
use Rattle.std.proofs.Common.{◌≡◌, ◌≢◌, refl, sym, ◌∙◌, ap, subst, ℕ, ◌+◌, ◌-◌, ◌/◌, ◌%◌, ◌<◌, ◌≤◌, inl, arith, Bool, false, nat_eq, List, [], ◌∷◌, ◌++◌, map}
use Rattle.std.specs.Prelude.{Some, slice_get}
use Rattle.std.specs.List.{Contains}
use Rattle.std.specs.Int.{bit_at}
use Rattle.std.proofs.lemmas.Bool.{cond-false, cond-true, ne_eqb, eq-eqb}
use Rattle.forward_word.specs.CollectorWords.{is_old_word}
use Rattle.heap_layout.specs.Zones.{StartBits, first, heap_of, row_words}
use Rattle.ideal_heap.specs.Ideal.{IdealHeap}
use Rattle.object_model.specs.Objects.{HeapState, state_of, with_words, is_start, IsHeld, size_of, class_at}
use Rattle.object_model.specs.Graphs.{numbers_of}
use Rattle.object_model.proofs.Marks as marks
use Rattle.mutator_core.specs.declared.state.Local.{Local}
use Rattle.mutator_core.specs.declared.state.LogEntry.{LogEntry}
use Rattle.mutator_core.specs.declared.state.Event.{Event}
use Rattle.mutator_core.specs.Machine.{Epoch, Machine, first_machine, heap_in, next, answer_at, found, local_after}
use Rattle.mutator_core.specs.Guards.{MayStep}
use Rattle.mutator_core.specs.Logs.{IsEpochLog, machine_after, local_after_log}
use Rattle.mutator_core.proofs.Regions.{after-append}
use Rattle.mutator_core.proofs.Law as law
use Rattle.mutator_core.proofs.Law.{is_publication}
use Rattle.mutator_core.proofs.Spots as spots
use Rattle.mutator_core.proofs.Spots.{Spot, takes_block, clears_unlog}
use Rattle.mutator_core.proofs.Kept.{Leaves}
use Rattle.mutator_calls.specs.declared.need.Mutator.{Mutator}
use Rattle.plain_row.specs.declared.plain_row.PlainRow.{PlainRow}
use Rattle.local_allocators.specs.declared.local_seat.LocalSeat.{LocalSeat}
use Rattle.plain_row.specs.Rows.{IsTurn, mutator_number, number_at_turn, mutator_at_turn, seat_at_turn}
use Rattle.local_allocators.specs.Seats.{blocks_of, over_of}
use Rattle.block_regions.specs.Elements.{ChangesAt}
use Rattle.std.proofs.lemmas.Option.{get_or_from_slice_get}
use Rattle.std.proofs.lemmas.List.{length-map}
use Rattle.block_regions.specs.Notes.{FlagsCover, HasNotes, IsRegionOf}
use Rattle.block_regions.proofs.BlockFlags.{covers-kept}
use Rattle.plain_row.specs.Worlds.{IsAt, HasState}
use Rattle.block_regions.proofs.Lists.{get-some, get-below, get-map}
use Rattle.plain_row.proofs.OwnedLists.{lists-kept}
use Rattle.block_regions.proofs.NoteLemmas as notes
use Rattle.block_regions.proofs.NoteLemmas.{KeepsBlocks}
use Rattle.plain_row.proofs.EpochFacts as facts
use Rattle.plain_row.proofs.LogSteps.{log-longer, at-follows}

-- the world `b` has another mutator and another seat for the one whose turn it is, with the machine's state l'
pub record Updates (a b : PlainRow) (l' : Local) : Type 0 where
  pub notes : b.notes ≡ a.notes
  pub fill : b.fill ≡ a.fill
  pub young : b.young ≡ a.young
  pub allowed : b.allowance ≡ a.allowance
  pub owned : b.owned ≡ a.owned
  pub counts : b.counts ≡ a.counts
  pub flags : b.flags ≡ a.flags
  pub mutator : Mutator
  pub seat : LocalSeat
  pub mutators : ChangesAt a.mutators.items b.mutators.items a.turn mutator
  pub seats : ChangesAt a.seats.items b.seats.items a.turn seat
  pub number : mutator.number ≡ number_at_turn a
  pub blocks : seat.blocks ≡ blocks_of (seat_at_turn a)
  pub over : seat.over ≡ over_of (seat_at_turn a)
  pub state : HasState mutator seat l'

module _ (p : Epoch) (i : IdealHeap) (log : List LogEntry) (a : PlainRow) (at : IsAt p i log a) (turn : IsTurn a) where
  abbrev m : ℕ
  m = number_at_turn a

  abbrev h : Machine
  h = machine_after p log

  abbrev l : Local
  l = h.locals m

  abbrev s : HeapState
  s = heap_in p h

  pub mutator : (x : Mutator) × (mutator_at_turn a ≡ Some x)
  mutator = get-some a.mutators.items a.turn turn.turn

  pub seat : (x : LocalSeat) × (seat_at_turn a ≡ Some x)
  seat = get-some a.seats.items a.turn (subst (λ n. a.turn < n) (sym turn.seats) turn.turn)

  pub number-is : m ≡ mutator.0.number
  number-is = ap mutator_number mutator.1

  pub state : HasState mutator.0 seat.0 l
  state = subst (λ n. HasState mutator.0 seat.0 (local_after_log p log n)) (sym number-is) (at.each a.turn mutator.0 seat.0 mutator.1 seat.1)

  pub known : Contains (numbers_of p.mutators) m
  known = subst (λ ns. Contains ns m) at.numbers (contains-at a.mutators.items a.turn mutator.0 number-is mutator.1)
    where
      contains-at : (xs : List Mutator) (k : ℕ) (x : Mutator) → m ≡ x.number → slice_get xs k ≡ Some x → Contains (map (λ q. q.number) xs) m
      contains-at xs k x same is = (k, subst (λ n. k < n) (sym (length-map xs (λ q. q.number))) (get-below xs k x is), get_or_from_slice_get (map (λ q. q.number) xs) k x.number m (get-map (λ q. q.number) xs k x is) ∙ sym same)

  -- the machine after one more step
  abbrev pub entry-for : Event → LogEntry
  entry-for x = record { mutator = m; event = x; answer = answer_at p h m x }

  pub machine-pushed : (x : Event) → machine_after p (log ++ entry-for x ∷ []) ≡ next p h m x
  machine-pushed x = after-append p (first_machine p) log (entry-for x ∷ [])

  pub log-pushed : (x : Event) → MayStep p l x → IsEpochLog p i (log ++ entry-for x ∷ [])
  log-pushed x may = record {
    ready = at.epoch.ready;
    represents = at.epoch.represents;
    steps = log-longer p (first_machine p) log (entry-for x ∷ []) at.epoch.steps (known, may, refl, tt);
  }

  pub own-pushed : (x : Event) → local_after_log p (log ++ entry-for x ∷ []) m ≡ local_after p l x (found p h m x)
  own-pushed x = ap (λ k. k.locals m) (machine-pushed x) ∙ cond-true (nat_eq m m) _ _ (eq-eqb m m refl)

  pub other-pushed : (x : Event) (n : ℕ) → n ≢ m → local_after_log p (log ++ entry-for x ∷ []) n ≡ local_after_log p log n
  other-pushed x n other = ap (λ k. k.locals n) (machine-pushed x) ∙ cond-false (nat_eq n m) _ _ (ne_eqb n m other)

  module _ (x : Event) (may : MayStep p l x) where
    pub spot : Spot s (next p h m x).words x
    spot = spots.spot p at.epoch.ready h _ (facts.end p i log a at).set (facts.moment p i log a at) m known x may

    pub leaves : Leaves s (next p h m x).words
    leaves = (law.goes p at.epoch.ready h _ (facts.end p i log a at).set (facts.moment p i log a at) m known x may).leaves

    -- a step that publishes no object
    module _ (quiet : is_publication x ≡ false) where
      start-same : (q : ℕ) → is_start (with_words s (next p h m x).words) q ≡ is_start s q
      start-same q = marks.mark-same s.blocks StartBits s.words (next p h m x).words q (λ there.
          let from : heap_of s.blocks ≤ q = there.from in let below : q < row_words s.blocks = there.below in
          ap (λ word. nat_eq (bit_at word ((q - heap_of s.blocks) % 64)) 1) (spot.sides (first s.blocks StartBits + (q - heap_of s.blocks) / 64) (omega arith) (omega arith) (inl quiet)))

      -- and clears no unlog bit
      pub covers-next : clears_unlog x ≡ false → (flags : List Bool) → FlagsCover p.rules s flags → FlagsCover p.rules (with_words s (next p h m x).words) flags
      covers-next unlogged flags = covers-kept p.rules s (with_words s (next p h m x).words) flags refl (λ q is.
          let was : IsHeld s q = record { address = is.held.address; start = sym (start-same q) ∙ is.held.start } in
          record {
            held = was;
            old = ap (is_old_word s.base) (sym (leaves.headers q 2 was (omega arith))) ∙ is.old;
            clear = sym (spot.unlogs unlogged q) ∙ is.clear;
          })

    -- nor takes a block
    module _ (quiet : is_publication x ≡ false) (untaken : takes_block x ≡ false) where
      pub keeps : KeepsBlocks s (next p h m x).words
      keeps = record {
        words = spot.blocks untaken;
        after = leaves.held;
        before = λ q holds. record { address = holds.address; start = sym (start-same quiet q) ∙ holds.start };
        sizes = λ q holds. ap (λ v. size_of (v % 65536) (v / 65536)) (leaves.headers q 1 holds (omega arith));
        lines = λ j line there few. leaves.lines j line there few;
      }

      pub at-next : clears_unlog x ≡ false → (b : PlainRow) → state_of b.row ≡ with_words s (next p h m x).words → Updates a b (local_after p l x (found p h m x))
          → IsAt p i (log ++ entry-for x ∷ []) b
      at-next unlogged b words up = at-follows p i log a at turn (entry-for x ∷ []) (known, may, refl, tt) b (record {
        words = words;
        notes = subst (λ f. HasNotes f (state_of b.row) b.notes.items) (sym up.fill)
            (subst (λ t. HasNotes a.fill t b.notes.items) (sym words)
            (subst (λ v. HasNotes a.fill (with_words s (next p h m x).words) v.items) (sym up.notes)
            (notes.notes-after s (next p h m x).words keeps a.fill at.fills a.notes.items (subst (λ t. HasNotes a.fill t a.notes.items) at.heap at.notes))));
        regions = λ n c. subst (λ v. IsRegionOf v.items n c) (sym up.notes);
        classes = λ c there. ap (λ (t : HeapState). class_at t c) words ∙ ap (λ v. v / 256 % 256) (keeps.words c there);
        fill = up.fill;
        young = up.young;
        allowed = up.allowed;
        flags = subst (λ v. FlagsCover p.rules (state_of b.row) v.items) (sym up.flags) (subst (λ t. FlagsCover p.rules t a.flags.items) (sym words)
            (covers-next quiet unlogged a.flags.items (subst (λ t. FlagsCover p.rules t a.flags.items) at.heap at.flags)));
        lists = λ lists. lists-kept p a b lists up.notes up.owned up.counts (ap (λ (t : HeapState). t.blocks) words ∙ ap (λ (t : HeapState). t.blocks) (sym at.heap));
        mutator = up.mutator;
        seat = up.seat;
        mutators = up.mutators;
        seats = up.seats;
        number = up.number;
        blocks = up.blocks;
        over = up.over;
        state = subst (HasState up.mutator up.seat) (sym (cond-true (nat_eq m m) _ _ (eq-eqb m m refl))) up.state;
        others = λ n other. cond-false (nat_eq n m) _ _ (ne_eqb n m other);
      })
