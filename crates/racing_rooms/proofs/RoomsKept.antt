-- Notes of rooms stay right: while others step, and as one note changes.
use Rattle.std.proofs.Common.{◌≡◌, sym, subst, ℕ, ◌+◌, ◌/◌, ◌<◌, ◌≤◌, ◌⊎◌, inl, inr, List, [], ◌∷◌, ◌++◌}
use Rattle.ideal_heap.specs.Ideal.{IdealHeap}
use Rattle.ideal_heap.specs.Runs.{Entry}
use Rattle.object_model.specs.Objects.{HeapState, owner_at}
use Rattle.sessions.specs.Fitting.{HasHole}
use Rattle.sessions.specs.Plans.{Rules}
use Rattle.mutator_core.specs.declared.state.LogEntry.{LogEntry}
use Rattle.mutator_core.specs.Machine.{Epoch, Machine, heap_in, next, first_machine}
use Rattle.mutator_core.specs.Epochs.{EpochMayBegin}
use Rattle.mutator_core.specs.Histories.{after, IsLog}
use Rattle.mutator_core.specs.Logs.{IsEpochLog, machine_after, heap_after}
use Rattle.mutator_core.proofs.Law.{Goes, goes}
use Rattle.mutator_core.proofs.Moments.{Holds}
use Rattle.mutator_core.proofs.Beginnings.{log-ends}
use Rattle.mutator_core.proofs.Regions.{log-front, log-rest, after-append}
use Rattle.mutator_rule.specs.declared.views.EpochStart.{EpochStart}
use Rattle.mutator_rule.specs.declared.views.MutatorView.{MutatorView}
use Rattle.mutator_rule.specs.declared.seat.MutatorSeat.{MutatorSeat}
use Rattle.mutator_rule.specs.declared.seat_notes.SeatNotes.{SeatNotes}
use Rattle.mutator_rule.specs.Views.{epoch_with}
use Rattle.mutator_rule.specs.Logs.{KnowsLog, MakesEntries}
use Rattle.mutator_rule.specs.Seats.{known, local_of}
use Rattle.block_regions.proofs.Lists.{get-below}
use Rattle.block_regions.specs.declared.block_notes.BlockNote.{BlockNote}
use Rattle.block_regions.specs.declared.block_notes.BlockNote.TheVariants.{Unowned}
use Rattle.local_allocators.specs.declared.local_seat.LocalSeat.{LocalSeat}
use Rattle.racing_rooms.specs.Rooms.{Holdings, holdings, HasRoomsIn, HasRooms, KeepsRooms}

-- a block that has an owner keeps it
log-owners : (p : Epoch) → EpochMayBegin p → (log : List LogEntry) (h : Machine) (i : IdealHeap) (set : ℕ → Type 0) → Holds p h i set → IsLog p h log
    → (k : ℕ) → k < p.before.blocks → 0 < owner_at (heap_in p h) k → 0 < owner_at (heap_in p (after p h log)) k
log-owners p ready [] h i set now is k there some = some
log-owners p ready (x ∷ xs) h i set now is k there some =
    let step : Goes p h i x.mutator x.event = goes p ready h i set now x.mutator is.0 x.event is.1 in
    log-owners p ready xs (next p h x.mutator x.event) _ step.set step.moment is.3 k there
    (subst (λ (v : ℕ). 0 < v / 65536) (sym (step.leaves.owners k there some)) some)

pub owner-later : (p : Epoch) (i : IdealHeap) (log more : List LogEntry) → IsEpochLog p i (log ++ more) → (k : ℕ) → k < p.before.blocks → 0 < owner_at (heap_after p log) k → 0 < owner_at (heap_after p (log ++ more)) k
owner-later p i log more is k there some =
    let end = log-ends p i log is.ready is.represents (log-front p (first_machine p) log more is.steps) in
    subst (λ (h : Machine). 0 < owner_at (heap_in p h) k) (sym (after-append p (first_machine p) log more))
    (log-owners p is.ready more (machine_after p log) _ end.set end.moment (log-rest p (first_machine p) log more is.steps) k there some)

-- the notes are right in a later heap
rooms-later : (p : Epoch) (s t : HeapState) (h : Holdings) (notes : List BlockNote) (local : LocalSeat) (allowed : ℕ)
    → ((k : ℕ) → k < p.before.blocks → 0 < owner_at s k → 0 < owner_at t k) → HasRoomsIn p s h notes local allowed → HasRoomsIn p t h notes local allowed
rooms-later p s t h notes local allowed grows has = record {
  allows = has.allows;
  ticket = has.ticket;
  len = has.len;
  unowned = λ k least note. elim (has.unowned k least note) as (λ _. (0 < owner_at t k) ⊎ ((at size : ℕ) → least ≤ size → HasHole p.rules.fill p.before k at size → ⊥)) [
    | inl owner ↦ inl (grows k (subst (λ n. k < n) has.len (get-below notes k (Unowned least) note)) owner)
    | inr none ↦ inr none
  ];
  owned = has.owned;
  noted = has.noted;
  classes = has.classes;
  each = has.each;
  over = has.over;
}

pub rooms-seen : (rules : Rules) (a b : MutatorView) (g : Holdings) (notes : List BlockNote) (local : LocalSeat) (allowed : ℕ) (es : List Entry) → MakesEntries rules a es b → KnowsLog (epoch_with rules b.start) b → holdings b.local ≡ g
    → HasRoomsIn (epoch_with rules a.start) (heap_after (epoch_with rules a.start) a.seen) g notes local allowed
    → HasRoomsIn (epoch_with rules b.start) (heap_after (epoch_with rules b.start) b.seen) (holdings b.local) notes local allowed
rooms-seen rules a b g notes local allowed es goes told same has =
    let p : Epoch = epoch_with rules a.start in
    let told-a : KnowsLog p b = subst (λ (g : EpochStart). KnowsLog (epoch_with rules g) b) goes.start told in
    let seen : b.seen ≡ a.seen ++ goes.prefix.0 = sym goes.prefix.1 in
    let is : IsEpochLog p told-a.ideal (a.seen ++ goes.prefix.0) = subst (IsEpochLog p told-a.ideal) seen told-a.epoch in
    let later : HasRoomsIn p (heap_after p (a.seen ++ goes.prefix.0)) g notes local allowed =
    rooms-later p (heap_after p a.seen) (heap_after p (a.seen ++ goes.prefix.0)) g notes local allowed (λ k there some. owner-later p told-a.ideal a.seen goes.prefix.0 is k there some) has in
    subst (λ (e : EpochStart). HasRoomsIn (epoch_with rules e) (heap_after (epoch_with rules e) b.seen) (holdings b.local) notes local allowed) (sym goes.start)
    (subst (λ (h : Holdings). HasRoomsIn p (heap_after p b.seen) h notes local allowed) (sym same)
    (subst (λ (l : List LogEntry). HasRoomsIn p (heap_after p l) g notes local allowed) (sym seen) later))

pub rooms-kept : (rules : Rules) (a b : MutatorSeat) (es : List Entry) → MakesEntries rules (known a) es (known b) → KnowsLog (epoch_with rules (known b).start) (known b) → holdings (local_of b) ≡ holdings (local_of a) → KeepsRooms a.notes b.notes → HasRooms rules a → HasRooms rules b
rooms-kept rules a b es goes told same keeps has =
    subst (λ (n : SeatNotes). HasRoomsIn (epoch_with rules (known b).start) (heap_after (epoch_with rules (known b).start) (known b).seen) (holdings (local_of b)) n.blocks.items n.local n.allowance) (sym keeps)
    (rooms-seen rules (known a) (known b) (holdings (local_of a)) a.notes.blocks.items a.notes.local a.notes.allowance es goes told same has)

-- the notes of a mutator that changed them, and made steps
pub rooms-now : (rules : Rules) (a b : MutatorSeat) (g : Holdings) (notes : List BlockNote) (local : LocalSeat) (allowed : ℕ) (es : List Entry) → MakesEntries rules (known a) es (known b) → KnowsLog (epoch_with rules (known b).start) (known b) → holdings (local_of b) ≡ g
    → b.notes.blocks.items ≡ notes → b.notes.local ≡ local → b.notes.allowance ≡ allowed
    → HasRoomsIn (epoch_with rules (known a).start) (heap_after (epoch_with rules (known a).start) (known a).seen) g notes local allowed → HasRooms rules b
rooms-now rules a b g notes local allowed es goes told same blocks seat allows has =
    subst (λ (ns : List BlockNote). HasRoomsIn (epoch_with rules (known b).start) (heap_after (epoch_with rules (known b).start) (known b).seen) (holdings (local_of b)) ns b.notes.local b.notes.allowance) (sym blocks)
    (subst (λ (l : LocalSeat). HasRoomsIn (epoch_with rules (known b).start) (heap_after (epoch_with rules (known b).start) (known b).seen) (holdings (local_of b)) notes l b.notes.allowance) (sym seat)
    (subst (λ (n : ℕ). HasRoomsIn (epoch_with rules (known b).start) (heap_after (epoch_with rules (known b).start) (known b).seen) (holdings (local_of b)) notes local n) (sym allows)
    (rooms-seen rules (known a) (known b) g notes local allowed es goes told same has)))
