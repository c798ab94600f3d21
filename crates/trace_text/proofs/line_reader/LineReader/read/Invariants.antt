use Rattle.std.proofs.Common.{◌≡◌, ◌<◌, None, length}
use Rattle.trace_text.specs.Grammar.{lines_of}
use Rattle.trace_text.specs.Readers.{ReadsLines}
use Rattle.trace_text.proofs.line_reader.LineReader.read.Given as goal

-- the lines so far are read, and none was bad
abbrev pub invariant-lines : goal.invariant-lines
invariant-lines l = record {
  none : l.self.fault ≡ None;
  begun : 1 < l.self.number;
  so_far : ReadsLines l.fn.self l.self (lines_of l.text) (lines_of l.rest);
}

abbrev pub decreases-lines : goal.decreases-lines
decreases-lines l = length l.rest
