use Rattle.std.specs.Prelude.{◌≡◌, ◌≤◌, []}
use Rattle.mutator_rule.specs.Seats.{IsSeatOf}
use Rattle.racing_mutator.specs.RacingSeats.{Makes, local}
use Rattle.racing_mutator.specs.Births.{writing}
use Rattle.racing_mutator.proofs.racing.Racing.store_words.Given as goal

abbrev pub invariant-loop-offset : goal.invariant-loop-offset
invariant-loop-offset g l = (1 ≤ l.offset) × IsSeatOf g.P.Plan.rules l.self.row.now l.self.seat.now × Makes g.P.Plan.rules l.fn.self [] l.self
    × (local l.self ≡ writing (local l.fn.self) l.address l.shape.refs l.shape.nums l.offset)
    × (l.self.seat.now.notes ≡ l.fn.self.seat.now.notes)
