use Rattle.std.specs.Prelude.{◌≡◌, ℕ, ◌+◌, ◌<◌, length, slice_index}
use Rattle.racing_mutator.specs.RacingSeats.{IsReady, OnlyLoads, local}
use Rattle.racing_mutator.specs.Looks.{HasLoaded}
use Rattle.racing_mutator.proofs.racing.Racing.look_starts.Given as goal

abbrev pub invariant-loop-index : goal.invariant-loop-index
invariant-loop-index g l = IsReady g.P.Plan.rules l.self × OnlyLoads g.P.Plan.rules l.fn.self l.self × (length l.starts ≡ 64)
    × ((m : ℕ) → m < l.index → HasLoaded (local l.self) (l.at + m) (slice_index l.starts m))
    × (l.self.seat.now.notes ≡ l.fn.self.seat.now.notes) × ((local l.self).births ≡ (local l.fn.self).births)
