use Rattle.std.proofs.Common.{◌≡◌, ◌∙◌, refl, ℕ, ◌+◌, arith, take, slice_index_or}
use Rattle.std.proofs.Math.ListN.{length-set}
use Rattle.line_marks.specs.declared.holes.LineCounts.{LineCounts}
use Rattle.immix_space.specs.Candidates.{no_counts, HasFewLines, marked_with}
use Rattle.immix_space.proofs.MarkedSums.{fits-sum, with-few, with-more, read-at, lines-more, below-length}
use Rattle.immix_space.proofs.candidate_blocks.lines_with.Goals as goal

pub overflow_add-index_mut : goal.overflow_add-index_mut
overflow_add-index_mut c =
    let i : ℕ = c.loop-i.i in
    let entry : LineCounts = slice_index_or c.args.counts.now i no_counts in
    let few : HasFewLines entry = c.requires.few i no_counts c.loop-i-test.true in
    let old : c.index_mut.result.now ≡ marked_with entry.holes (take i c.args.counts.now) =
    read-at c.loop-i.lines.items entry.holes c.index_mut.result.now c.index_mut.ensures.value (below-length entry.holes c.loop-i.lines.items few.holes c.loop-i.invariant.len)
    ∙ c.loop-i.invariant.lines entry.holes few.holes in
    fits-sum c.index_mut.result.now entry.marked (marked_with entry.holes (take i c.args.counts.now)) entry.marked old refl
    (let most = with-few c.args.counts.now c.requires.few c.requires.blocks entry.holes i in omega arith) (let lines = few.marked in omega arith)

pub loop-i-preserved : goal.loop-i-preserved
loop-i-preserved c =
    let i : ℕ = c.loop-i.i in
    let entry : LineCounts = slice_index_or c.args.counts.now i no_counts in
    let few : HasFewLines entry = c.requires.few i no_counts c.loop-i-test.true in
    let old : c.index_mut.result.now ≡ marked_with entry.holes (take i c.args.counts.now) =
    read-at c.loop-i.lines.items entry.holes c.index_mut.result.now c.index_mut.ensures.value (below-length entry.holes c.loop-i.lines.items few.holes c.loop-i.invariant.len)
    ∙ c.loop-i.invariant.lines entry.holes few.holes in
    record {
      len = length-set c.loop-i.lines.items entry.holes (c.index_mut.result.now + entry.marked) ∙ c.loop-i.invariant.len;
      lines = lines-more c.loop-i.lines.items entry.holes entry.marked c.index_mut.result.now (λ n. marked_with n (take i c.args.counts.now)) (λ n. marked_with n (take (i + 1) c.args.counts.now))
          c.loop-i.invariant.len few.holes c.loop-i.invariant.lines old (with-more c.args.counts.now i c.loop-i-test.true);
    }
