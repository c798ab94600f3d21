use Rattle.std.specs.Prelude.{◌≡◌, ℕ, ◌+◌, ◌<◌, length, slice_index}
use Rattle.racing_mutator.specs.RacingSeats.{IsReady, OnlyLoads, local, epoch_of_racing}
use Rattle.racing_mutator.proofs.racing.Racing.look_lines.Given as goal

abbrev pub invariant-loop-index : goal.invariant-loop-index
invariant-loop-index g l = IsReady g.P.Plan.rules l.self × OnlyLoads g.P.Plan.rules l.fn.self l.self × (length l.lines ≡ 4)
    × ((m : ℕ) → m < l.index → slice_index l.lines m ≡ slice_index (epoch_of_racing g.P.Plan.rules l.fn.self).before.words (l.at + m))
    × (l.self.seat.now.notes ≡ l.fn.self.seat.now.notes) × ((local l.self).births ≡ (local l.fn.self).births)
