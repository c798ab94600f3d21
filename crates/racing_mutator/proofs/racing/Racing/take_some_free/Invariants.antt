use Rattle.std.specs.Prelude.{◌≡◌, ℕ, ◌<◌}
use Rattle.mutator_core.specs.Seen.{HasSeenUsed}
use Rattle.racing_mutator.specs.RacingSeats.{IsReady, local, holdings}
use Rattle.racing_rooms.specs.Rooms.{HasRooms}
use Rattle.racing_rooms.specs.NoRoom.{regions_at}
use Rattle.racing_mutator.specs.Searches.{Searches}
use Rattle.racing_mutator.proofs.racing.Racing.take_some_free.Given as goal

abbrev pub invariant-loop-block : goal.invariant-loop-block
invariant-loop-block g l = IsReady g.P.Plan.rules l.self × HasRooms g.P.Plan.rules l.self.seat.now × Searches g.P.Plan.rules l.fn.self l.self
    × (holdings (local l.self) ≡ holdings (local l.fn.self)) × ((k : ℕ) → k < l.block → HasSeenUsed (local l.self) k) × (regions_at l.self.seat.now ≡ regions_at l.fn.self.seat.now)
