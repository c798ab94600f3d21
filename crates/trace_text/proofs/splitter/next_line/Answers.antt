use Rattle.std.proofs.Common.{◌∙◌, ap, ◌∷◌, arith}
use Rattle.trace_text.specs.Parts.{parts_after}
use Rattle.trace_text.proofs.PartLemmas.{line_before, line_alone}
use Rattle.trace_text.proofs.splitter.next_line.Goals as goal

pub returns-in-Some-clause-lines : goal.returns-in-Some-clause-lines
returns-in-Some-clause-lines c =
    line_before c.args.bytes.now c.next_part.result.0.now c.in-Some.rest.now (c.next_part.ensures.parts ∙ ap (λ o. c.next_part.result.0.now ∷ parts_after 10 o) c.in-Some.is)

pub returns-in-None-clause-lines : goal.returns-in-None-clause-lines
returns-in-None-clause-lines c =
    line_alone c.args.bytes.now c.next_part.result.0.now (grind arith) (c.next_part.ensures.parts ∙ ap (λ o. c.next_part.result.0.now ∷ parts_after 10 o) c.in-None.is)
