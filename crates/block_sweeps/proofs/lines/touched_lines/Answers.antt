use Rattle.std.proofs.Common.{arith, subst, ◌+◌, ◌*◌}
use Rattle.object_model.specs.Objects.{HeapState, state_over}
use Rattle.block_sweeps.specs.Touches.{AddsEnds}
use Rattle.block_sweeps.proofs.LineEnds.{ends-on, ends-all}
use Rattle.block_sweeps.proofs.lines.touched_lines.Goals as goal

pub loop-word-preserved : goal.loop-word-preserved
loop-word-preserved g c =
    let s : HeapState = state_over (g.W.Words.words c.args.words.now) c.args.layout.now 0 0 in
    subst (λ to. AddsEnds s c.args.block 0 to c.begun_lines-begun.result c.add_ends.new.lines) (omega arith)
    (ends-on s c.args.block 0 (64 * c.loop-word.word) (64 * c.loop-word.word + 64) c.begun_lines-begun.result c.loop-word.lines c.add_ends.new.lines
    c.loop-word.invariant c.add_ends.ensures)

pub returns-clause-lines : goal.returns-clause-lines
returns-clause-lines g c =
    let s : HeapState = state_over (g.W.Words.words c.args.words.now) c.args.layout.now 0 0 in
    ends-all s c.args.block c.begun_lines-begun.result c.loop-word.lines c.requires.block.block c.requires.apart c.begun_lines-begun.ensures.lines
    (subst (λ to. AddsEnds s c.args.block 0 to c.begun_lines-begun.result c.loop-word.lines) (omega arith) c.loop-word.invariant)
