-- The world as an epoch begins.
use Rattle.ideal_heap.specs.declared.command.TheConstants.{MAX_MUTATORS}
use Rattle.std.proofs.Common.{◌≡◌, refl, sym, ◌∙◌, ap, subst, ℕ, zero, suc, ◌+◌, ◌<◌, ◌≤◌, arith, Bool, true, false, ◌==◌, List, [], ◌∷◌, length, map, replicate, bit_and}
use Rattle.std.specs.Prelude.{Some, None, slice_get, if◌then◌else◌, vec_capacity}
use Rattle.std.specs.List.{Contains}
use Rattle.std.proofs.lemmas.List.{length-map, length-replicate}
use Rattle.ideal_heap.specs.Ideal.{IdealHeap}
use Rattle.object_model.specs.Objects.{HeapState, state_of}
use Rattle.object_model.specs.Lawful.{IsLawful}
use Rattle.object_model.specs.Graphs.{MutatorState, Represents, numbers_of}
use Rattle.sessions.specs.Plans.{Rules}
use Rattle.sessions.specs.Collecting.{Remembers}
use Rattle.sessions.specs.Fitting.{allowance_of}
use Rattle.plan_api.specs.Counting.{session_counts}
use Rattle.plan_api.specs.Flags.{flags_of, has_cells}
use Rattle.mutator_core.specs.Machine.{Epoch, first_local, first_local_of}
use Rattle.mutator_core.specs.Epochs.{EpochMayBegin}
use Rattle.mutator_calls.specs.declared.need.Mutator.{Mutator}
use Rattle.plain_row.specs.declared.plain_row.PlainRow.{PlainRow}
use Rattle.local_allocators.specs.declared.local_seat.LocalSeat.{LocalSeat}
use Rattle.heap_layout.specs.declared.block.TheConstants.{CLASSES}
use Rattle.block_regions.specs.declared.block_notes.BlockNotes.{BlockNotes}
use Rattle.heap_users.specs.Users.{mutator_state}
use Rattle.local_allocators.specs.Seats.{ticket_of}
use Rattle.block_regions.specs.Notes.{FillsHoles, FlagsCover, HasNotes, ListsOwned, AreUnowned, AreNotes}
use Rattle.heap_users.specs.Beginnings.{MayUse, without_stop, epoch_of}
use Rattle.plain_row.specs.Worlds.{HasState, HasCursors, HasLists, IsAt, IsAfter, RowIsBetweenCalls}
use Rattle.block_regions.proofs.Lists.{get-map, get-copy}
use Rattle.block_regions.proofs.NoteLemmas.{notes-after}
use Rattle.local_allocators.proofs.OwnedLists.{lists-none}
use Rattle.plain_world.proofs.CallLemmas.{numbers-mapped}
use Rattle.plain_world.specs.EmptySeats.{empty_seat}
use Rattle.heap_users.proofs.Cleared as cleared
use Rattle.mutator_core.proofs.SomeIdeal.{own-local, some-ideal}

-- the flag of a generational plan
young-of : (moves young lines cells : Bool) → (bit_and ((if moves then 1 else 0) + (if young then 2 else 0) + (if lines then 4 else 0) + (if cells then 8 else 0)) 2 == 2) ≡ young
young-of true true true true = refl
young-of true true true false = refl
young-of true true false true = refl
young-of true true false false = refl
young-of true false true true = refl
young-of true false true false = refl
young-of true false false true = refl
young-of true false false false = refl
young-of false true true true = refl
young-of false true true false = refl
young-of false true false true = refl
young-of false true false false = refl
young-of false false true true = refl
young-of false false true false = refl
young-of false false false true = refl
young-of false false false false = refl

pub young-flag : (r : Rules) → (bit_and (flags_of r) 2 == 2) ≡ r.young
young-flag r = young-of r.moves r.young r.lines (has_cells r.fill)

-- and none of its copies has a ticket
pub no-ticket : (n k : ℕ) → ticket_of (slice_get (replicate n empty_seat) k) ≡ None
no-ticket zero k = refl
no-ticket (suc n) zero = refl
no-ticket (suc n) (suc k) = no-ticket n k

-- an element that a list has is among its elements
get-among : {A : Type 0} (xs : List A) (k : ℕ) (x : A) → slice_get xs k ≡ Some x → Contains xs x
get-among [] k x is = let wrong : None ≡ Some x = is in cc
get-among (y ∷ ys) zero x is = (0, omega arith, (let e : Some y ≡ Some x = is in cc))
get-among (y ∷ ys) (suc k) x is = let rest = get-among ys k x is in (suc rest.0, (let less : rest.0 < length ys = rest.1 in omega arith), rest.2)

pub same-blocks : {s t : HeapState} → s ≡ t → s.blocks ≡ t.blocks
same-blocks same = ap (λ (x : HeapState). x.blocks) same

-- the parts of a world as an epoch begins
pub record IsBegun (r : Rules) (s : HeapState) (ms : List MutatorState) (w : PlainRow) : Type 0 where
  pub heap : state_of w.row ≡ without_stop s
  pub mutators : map mutator_state w.mutators.items ≡ ms
  pub seats : w.seats.items ≡ replicate (length w.mutators.items) empty_seat
  pub known : BlockNotes
  pub are : AreNotes r.fill s known
  pub cover : FlagsCover r s known.flags.items
  pub notes : w.notes ≡ known.notes
  pub owned : w.owned ≡ known.owned
  pub counts : w.counts ≡ known.counts
  pub flags : w.flags ≡ known.flags
  pub fill : w.fill ≡ r.fill
  pub young : w.young ≡ r.young
  pub allowance : w.allowance ≡ allowance_of r.reserve s

module _ (r : Rules) (s : HeapState) (ms : List MutatorState) (w : PlainRow) (begun : IsBegun r s ms w)
    (lawful : IsLawful s) (may : MayUse s ms) (fills : FillsHoles r.fill) (remembers : Remembers r s) (few : length w.mutators.items ≤ MAX_MUTATORS) where
  abbrev p : Epoch
  p = epoch_of r s ms

  ready : EpochMayBegin p
  ready = record {
    lawful = cleared.lawful-cleared s lawful;
    remembers = cleared.remembers-cleared s lawful r remembers;
    fills = fills;
    stop = cleared.stop s lawful;
    tickets = cleared.tickets s lawful;
    few = subst (λ n. n ≤ MAX_MUTATORS) (sym (length-map w.mutators.items mutator_state) ∙ ap length begun.mutators) few;
  }

  notes-begun : HasNotes r.fill (without_stop s) w.notes.items
  notes-begun = notes-after s (without_stop s).words (cleared.keeps-blocks s lawful) r.fill fills w.notes.items
      (subst (λ v. HasNotes r.fill s v.items) (sym begun.notes) begun.are.notes)

  lists-begun : HasLists p w
  lists-begun = record {
    owned = subst (ListsOwned w.notes.items) (sym (ap (λ v. v.items) begun.owned ∙ begun.are.owned))
        (lists-none w.notes.items (subst (λ v. AreUnowned v.items) (sym begun.notes) begun.are.unowned));
    room = subst (λ n. n ≤ vec_capacity w.owned) (sym (same-blocks begun.heap)) (subst (λ v. s.blocks ≤ vec_capacity v) (sym begun.owned) begun.are.room);
    counts = ap (λ c. session_counts c) begun.counts ∙ begun.are.counts ∙ sym (cleared.counts-cleared s lawful);
  }

  no-seat : (k : ℕ) (x : LocalSeat) → slice_get w.seats.items k ≡ Some x → x ≡ empty_seat
  no-seat k x some = get-copy (length w.mutators.items) empty_seat x k (ap (λ xs. slice_get xs k) (sym begun.seats) ∙ some)

  -- no mutator allocates in a block
  no-cursors : (number : ℕ) → HasCursors w.fill w.notes.items (state_of w.row) number empty_seat
  no-cursors number = record {
    classes = refl;
    each = λ class block is. absurd (let wrong : Some block ≡ None = get-copy CLASSES None (Some block) class is in cc);
    lined = λ block is. absurd (let wrong : None ≡ Some block = is in cc);
    over = λ lines block is. absurd (let wrong : None ≡ Some block = is in cc);
    apart = λ lines block is. absurd (let wrong : None ≡ Some block = is in cc);
  }

  state-begun : (k : ℕ) (m : Mutator) (x : LocalSeat) → slice_get w.mutators.items k ≡ Some m → slice_get w.seats.items k ≡ Some x
      → HasState m x (first_local_of ms m.number)
  state-begun k m x some seat =
      let known : Contains ms (mutator_state m) = get-among ms k (mutator_state m) (ap (λ xs. slice_get xs k) (sym begun.mutators) ∙ get-map mutator_state w.mutators.items k m some) in
      subst (λ l. HasState m x l) (sym (own-local ms (mutator_state m) may.mutators.differ known))
      (subst (λ y. HasState m y (first_local (mutator_state m))) (sym (no-seat k x seat)) (record { births = refl; registers = refl; ticket = refl; none = refl; stored = refl }))

  pub at-begun : (i : IdealHeap) → Represents s ms i → IsAt p i [] w
  at-begun i stands = record {
    epoch = record { ready = ready; represents = cleared.represents-cleared s lawful ms i stands; steps = tt };
    heap = begun.heap;
    numbers = sym (numbers-mapped w.mutators.items) ∙ ap numbers_of begun.mutators;
    seats = ap length begun.seats ∙ length-replicate (length w.mutators.items) empty_seat;
    each = state-begun;
    cursors = λ k m x some seat. subst (HasCursors w.fill w.notes.items (state_of w.row) m.number) (sym (no-seat k x seat)) (no-cursors m.number);
    notes = subst (λ f. HasNotes f (state_of w.row) w.notes.items) (sym begun.fill) (subst (λ t. HasNotes r.fill t w.notes.items) (sym begun.heap) notes-begun);
    fill = begun.fill;
    fills = subst FillsHoles (sym begun.fill) fills;
    young = begun.young;
    allowed = begun.allowance ∙ sym (cleared.allowance-cleared s lawful r.reserve);
    lists = lists-begun;
    flags = subst (λ v. FlagsCover r (state_of w.row) v.items) (sym begun.flags)
        (subst (λ t. FlagsCover r t begun.known.flags.items) (sym begun.heap) (cleared.covers-cleared s lawful r begun.known.flags.items begun.cover));
  }

  pub after-begun : (i : IdealHeap) → Represents s ms i → IsAfter p i [] w
  after-begun i stands = record { log = []; at = at-begun i stands; history = refl }

  pub idle-begun : RowIsBetweenCalls w
  idle-begun = record {
    some = let ideal = some-ideal s ms lawful may.mutators may.registers may.names in record { epoch = p; ideal = ideal.0; log = []; at = at-begun ideal.0 ideal.1 };
    filled = λ k owner region is. absurd (begun.are.unowned k owner region (ap (λ v. slice_get v.items k) (sym begun.notes) ∙ is));
  }
