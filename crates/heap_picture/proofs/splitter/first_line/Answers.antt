use Rattle.std.proofs.Common.{◌≡◌, ◌∷◌, ◌∙◌, ap, sym, arith, take, nat_eq, get_or}
use Rattle.std.specs.List.{slice_split}
use Rattle.trace_text.proofs.PartLemmas.{found, not_found, range_to_end}
use Rattle.heap_picture.proofs.splitter.first_line.Goals as goal

pub returns-then-b-eq10-clause-parts : goal.returns-then-b-eq10-clause-parts
returns-then-b-eq10-clause-parts c =
    found 10 c.args.text.now c.loop-k.k (omega arith) c.loop-k.invariant (let same : get_or c.args.text.now c.loop-k.k 0 ≡ 10 = grind arith in same)
    ∙ ap (λ rest. take c.loop-k.k c.args.text.now ∷ slice_split (λ b. nat_eq b 10) rest) (sym (range_to_end c.args.text.now c.loop-k.k))

pub returns-clause-parts : goal.returns-clause-parts
returns-clause-parts c = not_found 10 c.args.text.now (λ i less same. c.loop-k.invariant i (omega arith) same)
