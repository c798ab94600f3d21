-- The mutator got the replies to its commands so far, and no stop is raised that was not.
use Rattle.std.proofs.Common.{◌≡◌, ◌≤◌, ◌-◌, length}
use Rattle.ideal_heap.specs.declared.command.TheConstants.{MAX_MUTATORS}
use Rattle.managed_heap.specs.Worlds.{HasPlace, IsOpen, births_at, places_of, stop_word}
use Rattle.mm_runtime.specs.Managers.{IsProgress}
use Rattle.mm_runtime.specs.Parts.{RunsTrace}
use Rattle.mm_runtime.proofs.part.run_part.Given as goal

abbrev pub invariant-loop-stored : goal.invariant-loop-stored
invariant-loop-stored g l = record {
  is_open : IsOpen g.P.Plan.rules l.world;
  place : HasPlace l.world l.place;
  few : places_of l.world ≤ MAX_MUTATORS;
  runs : RunsTrace g.P.Plan.rules l.fn.world l.place l.fn.progress l.world l.progress;
  in_order : IsProgress l.progress;
  births : births_at l.world l.place ≤ length l.progress.replies.items;
  stop : stop_word l.world ≡ stop_word l.fn.world;
}

abbrev pub decreases-loop-stored : goal.decreases-loop-stored
decreases-loop-stored g l = length l.progress.trace - length l.progress.replies.items
