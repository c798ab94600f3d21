use Rattle.std.proofs.Common.{ℕ, arith, subst, slice_index, inl, inr, List, [], ◌∷◌}
use Rattle.std.proofs.lemmas.Bool.{cases_eq}
use Rattle.object_model.specs.Objects.{HeapState, state_over}
use Rattle.block_sweeps.specs.Touches.{AreBegun}
use Rattle.block_sweeps.proofs.lines.begun_lines.Goals as goal

pub returns-clause-lines : goal.returns-clause-lines
returns-clause-lines g c = λ word few.
    let s : HeapState = state_over (g.W.Words.words c.args.words.now) c.args.layout.now 0 0 in
    let lines : List ℕ = c.begun_in.result ∷ c.begun_in-2.result ∷ c.begun_in-3.result ∷ c.begun_in-4.result ∷ [] in
    elim (cases_eq word 0) as (λ _. AreBegun s c.args.block word (slice_index lines word)) [
      | inl is ↦ subst (λ w. AreBegun s c.args.block w (slice_index lines w)) (omega (arith, is)) c.begun_in.ensures
      | inr other ↦ elim (cases_eq word 1) as (λ _. AreBegun s c.args.block word (slice_index lines word)) [
        | inl is ↦ subst (λ w. AreBegun s c.args.block w (slice_index lines w)) (omega (arith, is)) c.begun_in-2.ensures
        | inr other' ↦ elim (cases_eq word 2) as (λ _. AreBegun s c.args.block word (slice_index lines word)) [
          | inl is ↦ subst (λ w. AreBegun s c.args.block w (slice_index lines w)) (omega (arith, is)) c.begun_in-3.ensures
          | inr other'' ↦ subst (λ w. AreBegun s c.args.block w (slice_index lines w)) (omega (arith, few, other, other', other'')) c.begun_in-4.ensures
        ]
      ]
    ]
