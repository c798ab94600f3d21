use Rattle.std.specs.Prelude.{◌≡◌, ℕ, ◌<◌}
use Rattle.racing_mutator.specs.RacingSeats.{IsReady, local, holdings, epoch_of_racing}
use Rattle.racing_rooms.specs.Rooms.{HasRooms}
use Rattle.racing_rooms.specs.OwnHoles.{LacksLeft}
use Rattle.racing_mutator.specs.Searches.{TakesNothing}
use Rattle.racing_mutator.proofs.racing.Racing.take_own_hole.Given as goal

abbrev pub invariant-loop-block : goal.invariant-loop-block
invariant-loop-block g l = IsReady g.P.Plan.rules l.self × HasRooms g.P.Plan.rules l.self.seat.now × TakesNothing g.P.Plan.rules l.fn.self l.self
    × (holdings (local l.self) ≡ holdings (local l.fn.self)) × (l.self.seat.now.notes ≡ l.fn.self.seat.now.notes)
    × ((k : ℕ) → k < l.block → LacksLeft (epoch_of_racing g.P.Plan.rules l.self) (holdings (local l.self)) l.self.seat.now.notes.blocks.items k l.size)
