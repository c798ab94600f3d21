use Rattle.std.proofs.Common.{◌∙◌, ap, ℕ, ◌+◌, ◌*◌, List, [], ◌∷◌, ◌++◌, get_or, append_assoc}
use Rattle.trace_text.specs.declared.digits.TheConstants.{PAIRS}
use Rattle.trace_text.proofs.DigitLemmas.{pair_is_digits}
use Rattle.trace_text.proofs.digits.put_pair.Goals as goal

pub returns-clause-items : goal.returns-clause-items
returns-clause-items c =
    let old : List ℕ = c.args.to.now.items in
    let n : ℕ = c.args.number in
    let first : ℕ = get_or PAIRS.now (2 * n) 0 in
    let second : ℕ = get_or PAIRS.now (2 * n + 1) 0 in
    c.push_reserved-2.ensures.items
    ∙ ap (λ items. items ++ second ∷ []) c.push_reserved.ensures.items
    ∙ append_assoc old (first ∷ []) (second ∷ [])
    ∙ ap (λ pair. old ++ pair) (pair_is_digits n c.requires.pair)
