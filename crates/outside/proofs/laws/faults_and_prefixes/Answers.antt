use Rattle.std.proofs.Common.{ℕ, ◌≡◌, ◌<◌, ◌+◌, ◌∙◌, ap, inl, inr, arith, length, length-append, take, List}
use Rattle.std.specs.Prelude.{unwrap_or, Option}
use Rattle.std.proofs.lemmas.List.{length-take-le}
use Rattle.outside.proofs.laws.faults_and_prefixes.Goals as goal

pub returns-clause-unchanged : goal.returns-clause-unchanged
returns-clause-unchanged c n below risen = elim risen as (λ _. ⊥) [ inl h ↦ omega arith | inr h ↦ omega arith ]

pub returns-clause-rises : goal.returns-clause-rises
returns-clause-rises c n = inl (omega arith)

pub returns-clause-prefix : goal.returns-clause-prefix
returns-clause-prefix c old text now prefix =
    let n : ℕ = prefix.0 in
    let few : n < length text = prefix.1 in
    let same : length now ≡ length old + length (take n text) = ap (λ (o : Option (List ℕ)). length (unwrap_or o old)) prefix.2 ∙ length-append old (take n text) in
    let taken : length (take n text) ≡ n = length-take-le n text (omega arith) in
    omega arith

pub returns-clause-closed : goal.returns-clause-closed
returns-clause-closed c e content left opens = opens
