use Rattle.std.proofs.Common.{refl, ap, arith, inl, inr, [], ◌∷◌, length}
use Rattle.std.specs.Prelude.{codes}
use Rattle.std.specs.Fmt.{digits}
use Rattle.trace_text.proofs.ReplyTexts.{IsFullLine, any_of, any_none}
use Rattle.trace_text.proofs.laws.worked_replies.Goals as goal

pub returns-clause-each : goal.returns-clause-each
unfolding digits
returns-clause-each c = refl

pub returns-clause-full : goal.returns-clause-full
returns-clause-full c = (2, codes "full", omega arith, refl, refl)

pub returns-clause-counted : goal.returns-clause-counted
returns-clause-counted c a = elim (any_of IsFullLine (codes "mutator 1") (codes "ok" ∷ codes "full 3" ∷ []) a) as (λ _. ⊥) [
  | inl e ↦ omega (arith, ap length e)
  | inr b ↦ elim (any_of IsFullLine (codes "ok") (codes "full 3" ∷ []) b) as (λ _. ⊥) [
    | inl e ↦ omega (arith, ap length e)
    | inr d ↦ elim (any_of IsFullLine (codes "full 3") [] d) as (λ _. ⊥) [ inl e ↦ omega (arith, ap length e) | inr none ↦ any_none IsFullLine none ]
  ]
]
