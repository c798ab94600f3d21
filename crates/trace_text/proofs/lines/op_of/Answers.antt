use Rattle.std.proofs.Common.{◌∙◌, ap₂, sym}
use Rattle.std.proofs.lemmas.List.Folds.{find-append}
use Rattle.std.specs.Option.{option_or}
use Rattle.std.specs.Str.{bytes_eq}
use Rattle.trace_text.specs.Ops.{field_ops, root_ops}
use Rattle.trace_text.specs.Words.{word_of}
use Rattle.trace_text.proofs.lines.op_of.Goals as goal

pub returns : goal.returns
returns c =
    c.or.ensures ∙ ap₂ option_or c.field_op_of.ensures c.root_op_of.ensures
    ∙ sym (find-append (λ op. bytes_eq c.args.word.now (word_of op)) field_ops root_ops)
