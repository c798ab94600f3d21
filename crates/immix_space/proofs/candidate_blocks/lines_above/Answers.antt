use Rattle.std.proofs.Common.{◌≡◌, ◌∙◌, ap, sym, ℕ, ◌-◌, ◌<◌, ◌≤◌, arith, length, slice_index, List}
use Rattle.std.proofs.Math.ListN.{length-set}
use Rattle.line_marks.specs.declared.holes.LineCounts.{LineCounts}
use Rattle.immix_space.specs.Candidates.{marked_with}
use Rattle.immix_space.proofs.MarkedSums.{marked_from, none-from, fits-sum, all-with-few, from-few, read-at, above-more, left-less, done-more}
use Rattle.immix_space.proofs.candidate_blocks.lines_above.Goals as goal

pub loop-holes-init : goal.loop-holes-init
loop-holes-init c =
    let counts : List LineCounts = c.args.counts.now in
    let long : c.len-holes.result ≡ 257 = omega (arith, c.len-holes.ensures, c.in_ok-lines.lines.ok.0, c.in_ok-lines.ensures.0) in
    record {
      len = c.in_ok-lines.ensures.0;
      above = sym (ap (λ (n : ℕ). marked_from n counts) long ∙ none-from counts c.requires.few);
      left = λ n below. c.in_ok-lines.ensures.1 n (omega arith);
      done = λ n from most. absurd (omega arith);
    }

pub overflow_add-above : goal.overflow_add-above
overflow_add-above c =
    let counts : List LineCounts = c.args.counts.now in
    let i : ℕ = c.loop-holes.holes - 1 in
    let some : 0 < c.loop-holes.holes = c.loop-holes-test.true in
    let own : c.index-own.result.now ≡ marked_with i counts =
    read-at c.loop-holes.lines.items i c.index-own.result.now c.index-own.ensures (omega (arith, c.loop-holes.auto.holes, c.len-holes.ensures, c.in_ok-lines.lines.ok.0, c.in_ok-lines.ensures.0, c.loop-holes.invariant.len))
    ∙ c.loop-holes.invariant.left i (omega arith) in
    fits-sum c.loop-holes.above c.index-own.result.now (marked_from c.loop-holes.holes counts) (marked_with i counts) c.loop-holes.invariant.above own
    (let most = from-few counts c.requires.few c.requires.blocks c.loop-holes.holes in omega arith) (all-with-few counts c.requires.few c.requires.blocks i)

pub loop-holes-preserved : goal.loop-holes-preserved
loop-holes-preserved c =
    let counts : List LineCounts = c.args.counts.now in
    let items : List ℕ = c.loop-holes.lines.items in
    let holes : ℕ = c.loop-holes.holes in
    let some : 0 < holes = c.loop-holes-test.true in
    let most : holes ≤ 257 = omega (arith, c.loop-holes.auto.holes, c.len-holes.ensures, c.in_ok-lines.lines.ok.0, c.in_ok-lines.ensures.0) in
    let there : holes - 1 < length items = omega (arith, c.loop-holes.invariant.len) in
    let own : c.index-own.result.now ≡ slice_index items (holes - 1) = read-at items (holes - 1) c.index-own.result.now c.index-own.ensures there in
    record {
      len = length-set items (holes - 1) c.loop-holes.above ∙ c.loop-holes.invariant.len;
      above = above-more counts items holes c.loop-holes.above c.index-own.result.now some most c.loop-holes.invariant.len c.loop-holes.invariant.above c.loop-holes.invariant.left c.loop-holes.invariant.done own;
      left = left-less counts items holes c.loop-holes.above c.index-own.result.now some most c.loop-holes.invariant.len c.loop-holes.invariant.above c.loop-holes.invariant.left c.loop-holes.invariant.done own;
      done = done-more counts items holes c.loop-holes.above c.index-own.result.now some most c.loop-holes.invariant.len c.loop-holes.invariant.above c.loop-holes.invariant.left c.loop-holes.invariant.done own;
    }
