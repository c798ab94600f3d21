use Rattle.line_bits.proofs.MarkedLines.{MarksTo}
use Rattle.line_bits.proofs.marks.mark.Given as goal

abbrev pub invariant-loop-word : goal.invariant-loop-word
invariant-loop-word g l = MarksTo l.layout.blocks l.first l.last l.word (g.W.Words.words l.initial.words) (g.W.Words.words l.words)
