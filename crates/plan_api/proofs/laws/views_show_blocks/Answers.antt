use Rattle.std.proofs.Common.{sym, ◌∙◌, ◌<◌, inl, inr, IsTrue, arith}
use Rattle.std.proofs.lemmas.Bool.{cases_Bool, true≢false}
use Rattle.object_model.specs.Objects.{line_marked}
use Rattle.std.proofs.Math.Logic.{∥∥₁_elim}
use Rattle.plan_api.proofs.Parts.{kind-viewed, class-viewed, owner-viewed, tail-viewed}
use Rattle.plan_api.proofs.BlockViews.{orderly-apart, block-anyway}
use Rattle.plan_api.proofs.laws.views_show_blocks.Goals as goal

pub returns-clause-kind : goal.returns-clause-kind
returns-clause-kind c = λ s k v view. (kind-viewed s k v view, class-viewed s k v view, owner-viewed s k v view)

pub returns-clause-tail : goal.returns-clause-tail
returns-clause-tail c = tail-viewed

pub returns-clause-apart : goal.returns-clause-apart
returns-clause-apart c = orderly-apart

pub returns-clause-readable : goal.returns-clause-readable
returns-clause-readable c = λ words l number base k. block-anyway words l number base 0 0 k

pub returns-clause-starts : goal.returns-clause-starts
returns-clause-starts c = λ s k w v view less. (
  (λ set. record {
    address = (let there : k < s.blocks = view.block in record { from = omega arith; below = omega arith });
    start = sym (view.starts w less) ∙ set;
  }),
  (λ held. view.starts w less ∙ held.start),
)

pub returns-clause-lines : goal.returns-clause-lines
returns-clause-lines c = λ s k line v view is exact less. (
  (λ set. exact.marked line is less (sym (view.lines line less) ∙ set)),
  (λ touched. view.lines line less ∙ elim (cases_Bool (line_marked s k line)) as (λ _. IsTrue (line_marked s k line)) [
    | inl set ↦ set
    | inr clear ↦ absurd (∥∥₁_elim touched (λ x. absurd x) (λ t. true≢false (sym (exact.touched line is less t) ∙ clear)))
  ]),
)
