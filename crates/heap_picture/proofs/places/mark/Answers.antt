use Rattle.std.proofs.Common.{◌≡◌, ◌∙◌, ap, ◌&&◌, ◌||◌, arith, false, nat_le, nat_lt, slice_index_or}
use Rattle.heap_picture.proofs.places.mark.Goals as goal

pub returns : goal.returns
returns c i =
    let ended : c.loop-k.k ≡ c.args.end = grind arith in
    c.loop-k.invariant.marked i ∙ ap (λ k. slice_index_or c.args.taken.now i false || nat_le c.args.from i && nat_lt i k) ended
