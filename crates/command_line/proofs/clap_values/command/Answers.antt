use Rattle.std.proofs.Common.{◌∙◌, ap, ap₂}
use Rattle.std.proofs.lemmas.Result.{IfOk-weaker}
use Rattle.clap.specs.Simple.{with_rule}
use Rattle.command_line.specs.Reader.{with_option_rules}
use Rattle.command_line.proofs.clap_values.command.Goals as goal

pub returns : goal.returns
returns c =
    let options = c.in_ok-with_options.ensures ∙ ap with_option_rules c.bare.ensures in
    let flag = c.in_ok-arg.ensures.shape c.map_flag.ensures.own ∙ ap₂ with_rule options c.map_flag.ensures.rule in
    IfOk-weaker c.arg-2.result _ _ (λ r adds. adds.shape c.files.ensures.own ∙ ap₂ with_rule flag c.files.ensures.rule) c.arg-2.ensures
