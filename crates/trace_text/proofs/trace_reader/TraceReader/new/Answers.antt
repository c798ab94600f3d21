use Rattle.std.proofs.Common.{◌∙◌, sym, ap, ◌++◌, ℕ, List}
use Rattle.trace_text.specs.Grammar.{lines_of}
use Rattle.trace_text.specs.Readers.{end_of_lines}
use Rattle.trace_text.proofs.ReaderLemmas.{trace_is}
use Rattle.trace_text.proofs.trace_reader.TraceReader.new.Goals as goal

pub returns : goal.returns
returns c = λ more. trace_is more ∙ sym (c.new.ensures (lines_of more)) ∙ ap (λ (l : List ℕ). end_of_lines c.new.result (lines_of (l ++ more))) (sym c.new-2.ensures.items)
