use Rattle.std.proofs.Common.{◌∙◌, ap₂, refl}
use Rattle.std.proofs.lemmas.Result.{IfOk-weaker}
use Rattle.clap.specs.Simple.{with_rule}
use Rattle.command_line.proofs.clap_values.with_options.Goals as goal

pub returns : goal.returns
returns c =
    let first = c.in_ok-arg.ensures.shape c.option.ensures.own ∙ ap₂ with_rule refl c.option.ensures.rule in
    let second = c.in_ok-arg-2.ensures.shape c.option-2.ensures.own ∙ ap₂ with_rule first c.option-2.ensures.rule in
    let third = c.in_ok-arg-3.ensures.shape c.option-3.ensures.own ∙ ap₂ with_rule second c.option-3.ensures.rule in
    IfOk-weaker c.arg-4.result _ _ (λ r adds. adds.shape c.option-4.ensures.own ∙ ap₂ with_rule third c.option-4.ensures.rule) c.arg-4.ensures
