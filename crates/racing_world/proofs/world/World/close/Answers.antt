use Rattle.std.proofs.Common.{sym, subst, List, map}
use Rattle.std.proofs.lemmas.List.Elements.{All-weaker}
use Rattle.object_model.specs.Heaps.{heap_state}
use Rattle.object_model.specs.Objects.{HeapState, state_of}
use Rattle.object_model.specs.Lawful.{IsWellFormed}
use Rattle.object_model.specs.Graphs.{MutatorState}
use Rattle.mutator_core.specs.Machine.{Epoch}
use Rattle.mutator_core.specs.Closing.{GivesBack}
use Rattle.mutator_rule.specs.declared.seat.MutatorSeat.{MutatorSeat}
use Rattle.mutator_rule.specs.Seats.{IsSeatOf}
use Rattle.racing_mutator.specs.RacingSeats.{MayCall}
use Rattle.racing_world.specs.Calls.{epoch_of_world}
use Rattle.racing_world.specs.Closing.{EndsEpoch, mutator_at}
use Rattle.racing_world.specs.ClosingNotes.{LeavesRoom}
use Rattle.racing_world.proofs.WorldEnds.{HasCodes, HasKinds, FrontStays, handed-same, handed-order, handed-codes, handed-kinds, world-ends, world-lawful, world-room}
use Rattle.racing_world.proofs.world.World.close.Goals as goal

pub close-words-requires-clause-own : goal.close-words-requires-clause-own
close-words-requires-clause-own g c = All-weaker (MayCall g.P.Plan.rules c.args.self.row) (IsSeatOf g.P.Plan.rules c.args.self.row) (λ (x : MutatorSeat) may. may.0.own) c.args.seats.items c.requires.calls

pub give_back-requires-clause-order : goal.give_back-requires-clause-order
give_back-requires-clause-order g c = subst IsWellFormed (handed-same c.close-words.result c.args.self.row _ _ _ c.layout-layout.ensures c.number-number.ensures c.base-base.ensures)
    (handed-order g.P.Plan.rules c.args.self.row c.args.seats.items c.close-words.result c.close-words.ensures c.requires.calls c.requires.all c.requires.some)

pub give_back-requires-clause-codes : goal.give_back-requires-clause-codes
give_back-requires-clause-codes g c = subst HasCodes (handed-same c.close-words.result c.args.self.row _ _ _ c.layout-layout.ensures c.number-number.ensures c.base-base.ensures)
    (handed-codes g.P.Plan.rules c.args.self.row c.args.seats.items c.close-words.result c.close-words.ensures c.requires.calls c.requires.all c.requires.some)

pub give_back-requires-clause-kinds : goal.give_back-requires-clause-kinds
give_back-requires-clause-kinds g c = subst (HasKinds g.P.Plan.rules.fill) (handed-same c.close-words.result c.args.self.row _ _ _ c.layout-layout.ensures c.number-number.ensures c.base-base.ensures)
    (handed-kinds g.P.Plan.rules c.args.self.row c.args.seats.items c.close-words.result c.close-words.ensures c.requires.calls c.requires.all c.requires.some)

pub from_row-requires : goal.from_row-requires
from_row-requires g c =
    let is = handed-same c.close-words.result c.args.self.row _ _ _ c.layout-layout.ensures c.number-number.ensures c.base-base.ensures in
    world-lawful g.P.Plan.rules c.args.self.row c.args.seats.items c.close-words.result c.close-words.ensures c.requires.calls c.requires.all c.requires.some
    (state_of c.give_back.new.row) (subst (λ (s : HeapState). GivesBack s (state_of c.give_back.new.row)) (sym is) c.give_back.ensures.gives)
    (subst (λ (s : HeapState). FrontStays s (state_of c.give_back.new.row)) (sym is) c.give_back.ensures.front)

pub returns-clause-ends : goal.returns-clause-ends
returns-clause-ends g c =
    let p : Epoch = epoch_of_world g.P.Plan.rules c.args.self in
    let is = handed-same c.close-words.result c.args.self.row _ _ _ c.layout-layout.ensures c.number-number.ensures c.base-base.ensures in
    subst (λ (ms : List MutatorState). EndsEpoch g.P.Plan.rules p c.args.seats.items (heap_state c.from_row.result) ms) (sym c.in_ok-mutators.ensures)
    (subst (λ (s : HeapState). EndsEpoch g.P.Plan.rules p c.args.seats.items s (map mutator_at c.args.seats.items)) (sym c.from_row.ensures)
    (world-ends g.P.Plan.rules c.args.self.row c.args.seats.items c.close-words.result c.close-words.ensures c.requires.calls c.requires.all c.requires.some
    (state_of c.give_back.new.row) (subst (λ (s : HeapState). GivesBack s (state_of c.give_back.new.row)) (sym is) c.give_back.ensures.gives)
    (subst (λ (s : HeapState). FrontStays s (state_of c.give_back.new.row)) (sym is) c.give_back.ensures.front)))

pub returns-clause-room : goal.returns-clause-room
returns-clause-room g c =
    let is = handed-same c.close-words.result c.args.self.row _ _ _ c.layout-layout.ensures c.number-number.ensures c.base-base.ensures in
    subst (LeavesRoom g.P.Plan.rules (epoch_of_world g.P.Plan.rules c.args.self) c.args.seats.items) (sym c.from_row.ensures)
    (world-room g.P.Plan.rules c.args.self.row c.args.seats.items c.close-words.result c.close-words.ensures c.requires.calls c.requires.all c.requires.some
    (state_of c.give_back.new.row) (subst (λ (s : HeapState). GivesBack s (state_of c.give_back.new.row)) (sym is) c.give_back.ensures.gives)
    (subst (λ (s : HeapState). FrontStays s (state_of c.give_back.new.row)) (sym is) c.give_back.ensures.front))
