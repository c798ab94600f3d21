use Rattle.object_model.specs.Objects.{state_over}
use Rattle.block_sweeps.proofs.LineEnds.{EndsLeft}
use Rattle.block_sweeps.proofs.lines.add_ends.Given as goal

abbrev pub invariant-loop-rest : goal.invariant-loop-rest
invariant-loop-rest g l = EndsLeft (state_over (g.W.Words.words l.words) l.layout 0 0) l.block l.word l.rest l.initial.lines l.lines

abbrev pub decreases-loop-rest : goal.decreases-loop-rest
decreases-loop-rest g l = l.rest
