use Rattle.std.specs.Prelude.{◌≡◌, ℕ, ◌*◌, ◌-◌, ◌≤◌}
use Rattle.object_model.specs.Objects.{cell_words}
use Rattle.racing_mutator.specs.RacingSeats.{IsReady, OnlyLoads, local, epoch_of_racing}
use Rattle.racing_mutator.specs.Looks.{IsStartWord}
use Rattle.racing_rooms.specs.OwnHoles.{HasSeenTaken}
use Rattle.racing_mutator.proofs.racing.Racing.next_cell.Given as goal

abbrev pub invariant-loop-at : goal.invariant-loop-at
invariant-loop-at g l = IsReady g.P.Plan.rules l.self × OnlyLoads g.P.Plan.rules l.fn.self l.self × (l.self.seat.now.notes ≡ l.fn.self.seat.now.notes) × ((local l.self).births ≡ (local l.fn.self).births)
    × (l.fn.from ≤ l.at) × (l.at ≤ 4096) × ((index : ℕ) × (l.at ≡ index * cell_words l.class))
    × IsStartWord (epoch_of_racing g.P.Plan.rules l.fn.self) (local l.self) l.block l.held
    × HasSeenTaken (epoch_of_racing g.P.Plan.rules l.fn.self) (local l.self) l.block l.class l.fn.from l.at

abbrev pub decreases-loop-at : goal.decreases-loop-at
decreases-loop-at g l = 4096 - l.at
