use Rattle.std.proofs.Common.{sym, ap, ◌∙◌}
use Rattle.std.proofs.lemmas.Bool.{true≢false}
use Rattle.sessions.specs.Collecting.{is_copied_out}
use Rattle.plan_api.proofs.CopiedKinds.{copied-full, or-third}
use Rattle.plan_api.proofs.blocks_to_copy.Fills.is_copied.Goals as goal
use Rattle.plan_api.proofs.blocks_to_copy.Fills.is_copied.Goals.{then-eq, else-eq}

pub returns-else-eq-2 : goal.returns-else-eq-2
returns-else-eq-2 c = λ r s k has is.
    elim c.if-eq.branch [
      | then-eq w ↦ absurd (true≢false (sym w.if-eq.true ∙ sym w.value-is ∙ c.if-eq-2.false))
      | else-eq w ↦ ap (λ collect. is_copied_out r collect s k) c.in-Full.is ∙ copied-full r c.args.self.now s k c.args.kind has is
          ∙ or-third _ _ _ (sym c.eq.ensures ∙ w.if-eq.false) (sym w.eq-else-eq.ensures ∙ sym w.value-is ∙ c.if-eq-2.false)
          ∙ sym c.eq-else-eq-2.ensures
    ]
