-- The parts of the mutators so far.
use Rattle.std.proofs.Common.{◌≤◌, length}
use Rattle.std.specs.Prelude.{vec_capacity}
use Rattle.mm_runtime.specs.Parts.{RunsParts}
use Rattle.mm_runtime.proofs.epoch.run_parts.Given as goal

abbrev pub invariant-loop-m : goal.invariant-loop-m
invariant-loop-m g l = record {
  runs : RunsParts g.P.Plan.rules l.fn.world l.fn.progress.items l.m l.ends.items l.world l.progress.items;
  room : length l.fn.progress.items ≤ vec_capacity l.ends;
}
