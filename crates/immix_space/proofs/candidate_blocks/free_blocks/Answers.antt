use Rattle.std.proofs.Common.{◌≡◌, sym, ap, ◌∙◌, ℕ, ◌%◌, ◌<◌, subst}
use Rattle.object_model.specs.Objects.{HeapState, state_over, word_at, block_word}
use Rattle.immix_space.proofs.RecyclableBlocks.{one-free, none-free}
use Rattle.immix_space.proofs.candidate_blocks.free_blocks.Goals as goal
use Rattle.immix_space.proofs.candidate_blocks.free_blocks.Goals.{then-get, else-get}

pub loop-block-preserved : goal.loop-block-preserved
loop-block-preserved g c =
    let s : HeapState = state_over (g.W.Words.words c.args.words.now) c.args.layout.now 0 0 in
    let k : ℕ = c.loop-block.block in
    let there : k < s.blocks = subst (λ (n : ℕ). k < n) c.blocks-block-end.ensures c.loop-block-test.true in
    let read : c.get.result ≡ block_word s k = c.get.ensures ∙ ap (word_at s) c.block_at.ensures in
    elim c.if-get.branch [
      | then-get w ↦
          let next = one-free s k c.loop-block.free there c.loop-block.invariant.most c.loop-block.invariant.value c.if-get.free w.free-is (ap (λ n. n % 256) (sym read) ∙ w.if-get.true) in
          record { most = next.0; value = next.1 }
      | else-get w ↦
          let next = none-free s k c.loop-block.free there c.loop-block.invariant.most c.loop-block.invariant.value c.if-get.free w.free-is (λ is. w.if-get.false (ap (λ n. n % 256) read ∙ is)) in
          record { most = next.0; value = next.1 }
    ]
