use Rattle.std.proofs.Common.{ap, ◌∙◌, sym, []}
use Rattle.std.proofs.lemmas.List.{append-nil}
use Rattle.trace_text.specs.Grammar.{lines_of, trace}
use Rattle.trace_text.specs.Readers.{end_of_lines}
use Rattle.trace_text.proofs.ReaderLemmas.{given, trace_is}
use Rattle.trace_text.proofs.ValidLemmas.{read_valid, read_few}
use Rattle.trace_text.proofs.reader.read_stored.Goals as goal

pub returns-clause-text : goal.returns-clause-text
returns-clause-text c =
    given c.finish.result (trace c.args.bytes.now)
    (c.finish.ensures ∙ c.in_ok-read.ensures [] ∙ ap (λ ls. end_of_lines c.reserve.new.self ls) (append-nil (lines_of c.args.bytes.now)) ∙ c.in_ok-reserve.ensures (lines_of c.args.bytes.now) ∙ c.new-lines.ensures (lines_of c.args.bytes.now) ∙ sym (trace_is c.args.bytes.now))

pub returns-clause-valid : goal.returns-clause-valid
returns-clause-valid c = read_valid c.args.bytes.now c.finish.result (returns-clause-text c)

pub returns-clause-few : goal.returns-clause-few
returns-clause-few c = read_few c.args.bytes.now c.finish.result (returns-clause-text c)
