use Rattle.std.proofs.Common.{◌≡◌, ◌∷◌, ◌∙◌, ap, sym, arith, take, nat_eq, get_or}
use Rattle.std.specs.List.{slice_split}
use Rattle.trace_text.proofs.PartLemmas.{found, not_found, range_to_end}
use Rattle.trace_text.proofs.splitter.next_part.Goals as goal

pub returns-then-b-at-clause-parts : goal.returns-then-b-at-clause-parts
returns-then-b-at-clause-parts c =
    found c.args.at c.args.bytes.now c.loop-k.k (omega arith) c.loop-k.invariant (let same : get_or c.args.bytes.now c.loop-k.k 0 ≡ c.args.at = grind arith in same)
    ∙ ap (λ rest. take c.loop-k.k c.args.bytes.now ∷ slice_split (λ b. nat_eq b c.args.at) rest) (sym (range_to_end c.args.bytes.now c.loop-k.k))

pub returns-clause-parts : goal.returns-clause-parts
returns-clause-parts c = not_found c.args.at c.args.bytes.now (λ i less same. c.loop-k.invariant i (omega arith) same)
