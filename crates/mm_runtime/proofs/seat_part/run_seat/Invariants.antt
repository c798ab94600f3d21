-- The mutator got the replies to its commands so far, and did not call `raise`.
use Rattle.std.proofs.Common.{◌≡◌, ◌-◌, false, length}
use Rattle.racing_mutator.specs.RacingSeats.{MayCall}
use Rattle.racing_world.specs.Calls.{has_raised}
use Rattle.mm_runtime.specs.Managers.{IsProgress}
use Rattle.mm_runtime.specs.SeatParts.{HasFewBirths, RunsSeat}
use Rattle.mm_runtime.proofs.seat_part.run_seat.Given as goal

abbrev pub invariant-loop-stored : goal.invariant-loop-stored
invariant-loop-stored g l = record {
  call : MayCall g.P.Plan.rules l.world.row l.seat;
  runs : RunsSeat g.P.Plan.rules l.world l.fn.seat l.fn.progress l.seat l.progress;
  in_order : IsProgress l.progress;
  births : HasFewBirths g.P.Plan.rules l.world l.seat l.progress.replies.items;
  calm : has_raised l.seat ≡ false;
}

abbrev pub decreases-loop-stored : goal.decreases-loop-stored
decreases-loop-stored g l = length l.progress.trace - length l.progress.replies.items
