use Rattle.std.proofs.Common.{ℕ, ◌+◌, slice_index, sym, subst₂, bit_or, bit_xor, arith}
use Rattle.block_sweeps.proofs.DifferingWords.{AreDifferences, differ-first, differ-next}
use Rattle.block_sweeps.proofs.differing.eight_differ.Goals as goal

pub loop-index-init : goal.loop-index-init
loop-index-init c = differ-first (λ i. slice_index c.args.words.now (c.args.these + i)) (λ i. slice_index c.args.words.now (c.args.those + i)) c.args.from

pub loop-index-preserved : goal.loop-index-preserved
loop-index-preserved c = let these : ℕ → ℕ = λ i. slice_index c.args.words.now (c.args.these + i) in
    let those : ℕ → ℕ = λ i. slice_index c.args.words.now (c.args.those + i) in
    subst₂ (λ (a b : ℕ). AreDifferences these those c.args.from (c.loop-index.index + 1) (bit_or c.loop-index.bits (bit_xor a b))) (sym c.get.ensures) (sym c.get-in-loop-index.ensures)
    (differ-next these those c.args.from c.loop-index.index c.loop-index.bits (omega arith) c.loop-index.invariant)
