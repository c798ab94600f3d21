use Rattle.std.proofs.Common.{arith}
use Rattle.object_model.specs.Objects.{HeapState, state_over}
use Rattle.copy_space.proofs.LastObjects.{none-begins, is-last}
use Rattle.copy_space.proofs.tails.last_object.Goals as goal

pub returns-then-starts-ne0 : goal.returns-then-starts-ne0
returns-then-starts-ne0 g c =
    let s : HeapState = state_over (g.W.Words.words c.args.words.now) c.args.layout.now 0 0 in
    is-last s c.args.block c.loop-index.index c.start_base.result c.get-starts.result c.requires.block c.loop-index-test.true (omega arith) c.start_base.ensures c.get-starts.ensures c.loop-index.invariant (omega arith) c.get-starts.type_inv

pub loop-index-preserved : goal.loop-index-preserved
loop-index-preserved g c =
    let s : HeapState = state_over (g.W.Words.words c.args.words.now) c.args.layout.now 0 0 in
    none-begins s c.args.block c.loop-index.index c.start_base.result c.get-starts.result c.requires.block c.loop-index-test.true (omega arith) c.start_base.ensures c.get-starts.ensures c.loop-index.invariant c.if-starts-ne0.false
