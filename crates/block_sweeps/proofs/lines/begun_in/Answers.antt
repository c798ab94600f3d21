use Rattle.std.proofs.Common.{◌≡◌, arith, subst, ◌+◌, ◌*◌, ◌%◌, ◌^◌, bit_or}
use Rattle.object_model.specs.Objects.{HeapState, state_over}
use Rattle.block_sweeps.specs.Touches.{AreBegunFrom}
use Rattle.block_sweeps.proofs.LineEnds.{begun-none, begun-join, are-begun}
use Rattle.block_sweeps.proofs.lines.begun_in.Goals as goal

pub loop-index-init : goal.loop-index-init
loop-index-init g c = begun-none (state_over (g.W.Words.words c.args.words.now) c.args.layout.now 0 0) c.args.block (64 * c.args.word)

pub loop-index-preserved : goal.loop-index-preserved
loop-index-preserved g c =
    let s : HeapState = state_over (g.W.Words.words c.args.words.now) c.args.layout.now 0 0 in
    let at : 4 * (16 * c.args.word + c.loop-index.index) ≡ 64 * c.args.word + 4 * c.loop-index.index = omega arith in
    let end : 4 * c.loop-index.index + 4 ≡ 4 * (c.loop-index.index + 1) = omega arith in
    subst (λ n. AreBegunFrom s c.args.block (64 * c.args.word) n (bit_or c.loop-index.begun (c.begun_of.result * 2 ^ (4 * c.loop-index.index) % 2 ^ 64))) end
    (begun-join s c.args.block (64 * c.args.word) (4 * c.loop-index.index) 4 c.loop-index.begun c.begun_of.result (omega (arith, c.loop-index-test.true)) c.loop-index.invariant
    (subst (λ n. AreBegunFrom s c.args.block n 4 c.begun_of.result) at (c.begun_of.ensures s c.args.block (16 * c.args.word + c.loop-index.index) c.start_word-starts.ensures)))

pub returns : goal.returns
returns g c =
    let s : HeapState = state_over (g.W.Words.words c.args.words.now) c.args.layout.now 0 0 in
    are-begun s c.args.block c.args.word c.loop-index.begun
    (subst (λ n. AreBegunFrom s c.args.block (64 * c.args.word) n c.loop-index.begun) (omega arith) c.loop-index.invariant)
