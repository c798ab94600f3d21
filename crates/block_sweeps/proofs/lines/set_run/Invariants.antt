use Rattle.block_sweeps.specs.Touches.{AddsLines}
use Rattle.block_sweeps.proofs.AddedLines.{IsBefore}
use Rattle.block_sweeps.proofs.lines.set_run.Given as goal

abbrev pub invariant-loop-word : goal.invariant-loop-word
invariant-loop-word l = AddsLines (IsBefore l.from l.to l.word) l.initial.lines l.lines
