use Rattle.std.proofs.Common.{arith, subst, ◌*◌}
use Rattle.block_sweeps.specs.Touches.{AreBegunFrom}
use Rattle.block_sweeps.proofs.LineEnds.{begun-none, begun-join}
use Rattle.block_sweeps.proofs.lines.begun_of.Goals as goal

pub loop-line-init : goal.loop-line-init
loop-line-init c = λ s k index starts. begun-none s k (4 * index)

pub loop-line-preserved : goal.loop-line-preserved
loop-line-preserved c = λ s k index starts. begun-join s k (4 * index) c.loop-line.line 1 c.loop-line.begun c.begun_bit.result (omega arith)
    (c.loop-line.invariant s k index starts) (c.begun_bit.ensures s k index starts)

pub returns : goal.returns
returns c = λ s k index starts. subst (λ n. AreBegunFrom s k (4 * index) n c.loop-line.begun) (omega arith) (c.loop-line.invariant s k index starts)
