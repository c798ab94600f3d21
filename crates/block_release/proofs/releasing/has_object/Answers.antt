use Rattle.std.proofs.Common.{◌+◌, ◌*◌, arith, true≢false, sym, ap}
use Rattle.object_model.specs.Objects.{HeapState, state_over}
use Rattle.block_release.proofs.BlockReads.{from-next, some-there, none-begins}
use Rattle.block_release.proofs.releasing.has_object.Goals as goal

pub returns-then-word-ne0 : goal.returns-then-word-ne0
returns-then-word-ne0 g c =
    let s : HeapState = state_over (g.W.Words.words c.args.words.now) c.args.layout.now 0 0 in
    record {
      some = λ _. some-there s c.args.block c.loop-index.index _ c.get-word.result c.requires.block (omega arith) (ap (λ n. n + 64 * c.args.block) c.start_base.ensures) c.get-word.ensures c.if-word-ne0.true c.get-word.type_inv;
      none = λ none. absurd (true≢false none);
    }

pub loop-index-preserved : goal.loop-index-preserved
loop-index-preserved g c =
    let s : HeapState = state_over (g.W.Words.words c.args.words.now) c.args.layout.now 0 0 in
    from-next s c.args.block c.loop-index.index _ c.get-word.result c.requires.block (omega arith) (ap (λ n. n + 64 * c.args.block) c.start_base.ensures) c.get-word.ensures c.if-word-ne0.false c.loop-index.invariant

pub returns : goal.returns
returns g c =
    let s : HeapState = state_over (g.W.Words.words c.args.words.now) c.args.layout.now 0 0 in
    record {
      some = λ some. absurd (true≢false (sym some));
      none = λ _. none-begins s c.args.block c.loop-index.index (omega (arith, c.loop-index-test.false)) c.loop-index.invariant;
    }
