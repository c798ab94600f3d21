use Rattle.std.proofs.Common.{◌≡◌, ◌∷◌, [], ◌++◌, map, sym, ap, ◌∙◌, ℕ, ◌+◌, ◌≤◌, subst, arith}
use Rattle.std.specs.List.{range_with_len}
use Rattle.std.proofs.lemmas.List.FromFn.{map-range_with_len_more}
use Rattle.object_model.specs.Objects.{HeapState, state_over}
use Rattle.immix_space.specs.Candidates.{counts_at}
use Rattle.immix_space.proofs.candidate_blocks.recyclable_counts.Goals as goal

pub loop-block-preserved : goal.loop-block-preserved
loop-block-preserved g c =
    let s : HeapState = state_over (g.W.Words.words c.args.words.now) c.args.layout.now 0 0 in
    let k : ℕ = c.loop-block.block in
    record {
      len = c.push_reserved.ensures.len ∙ ap (λ (n : ℕ). n + 1) c.loop-block.invariant.len;
      room = subst (λ (n : ℕ). c.args.layout.now.blocks ≤ n) (sym c.push_reserved.ensures.capacity) c.loop-block.invariant.room;
      made = c.push_reserved.ensures.items
          ∙ ap (λ l. l ++ c.block_counts.result ∷ []) c.loop-block.invariant.made
          ∙ ap (λ x. map (counts_at s) (range_with_len 0 k) ++ x ∷ []) c.block_counts.ensures
          ∙ sym (map-range_with_len_more (counts_at s) 0 k k (let e : 0 + k ≡ k = omega arith in e));
    }

pub returns : goal.returns
returns g c =
    let end : c.loop-block.block ≡ c.args.layout.now.blocks = omega (arith, c.blocks-blocks.ensures) in
    subst (λ (n : ℕ). c.loop-block.counts.items ≡ map (counts_at (state_over (g.W.Words.words c.args.words.now) c.args.layout.now 0 0)) (range_with_len 0 n)) end c.loop-block.invariant.made
