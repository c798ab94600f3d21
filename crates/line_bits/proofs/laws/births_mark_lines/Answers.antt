use Rattle.line_bits.proofs.BornLines.{born-lines}
use Rattle.line_bits.proofs.laws.births_mark_lines.Goals as goal

pub returns : goal.returns
returns c = born-lines
