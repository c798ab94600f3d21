use Rattle.std.proofs.Common.{◌*◌}
use Rattle.object_model.specs.Objects.{state_over}
use Rattle.block_sweeps.specs.Touches.{AddsEnds}
use Rattle.block_sweeps.proofs.lines.touched_lines.Given as goal

abbrev pub invariant-loop-word : goal.invariant-loop-word
invariant-loop-word g l = AddsEnds (state_over (g.W.Words.words l.words) l.layout 0 0) l.block 0 (64 * l.word) l.begun l.lines
