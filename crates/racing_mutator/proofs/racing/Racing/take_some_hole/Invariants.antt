use Rattle.std.specs.Prelude.{ℕ, ◌<◌}
use Rattle.racing_mutator.specs.RacingSeats.{IsReady}
use Rattle.racing_rooms.specs.Rooms.{HasRooms}
use Rattle.racing_mutator.specs.Holes.{OnlySearches, Lacks}
use Rattle.racing_mutator.proofs.racing.Racing.take_some_hole.Given as goal

abbrev pub invariant-loop-block : goal.invariant-loop-block
invariant-loop-block g l = IsReady g.P.Plan.rules l.self × HasRooms g.P.Plan.rules l.self.seat.now × OnlySearches g.P.Plan.rules l.fn.self l.self
    × ((k : ℕ) → k < l.block → Lacks g.P.Plan.rules l.self k l.size)
