use Rattle.std.proofs.Common.{◌≡◌, ◌*◌, ◌-◌, ◌<◌}
use Rattle.std.specs.Int.{bit_at}
use Rattle.object_model.specs.Objects.{state_over, line_marked}
use Rattle.sessions.specs.Collecting.{is_hole_start}
use Rattle.line_marks.proofs.CountedLines.{counted, line_word}
use Rattle.line_marks.proofs.holes.line_counts.Given as goal

abbrev pub invariant-loop-index : goal.invariant-loop-index
invariant-loop-index g l = record {
  holes : l.holes ≡ counted (is_hole_start (state_over (g.W.Words.words l.words) l.layout 0 0) l.block) l.block l.index;
  marked : l.marked ≡ counted (line_marked (state_over (g.W.Words.words l.words) l.layout 0 0) l.block) l.block l.index;
  low : l.before < 2;
  begin : l.index ≡ 4 * l.block → l.before ≡ 1;
  more : 4 * l.block < l.index → l.before ≡ bit_at (line_word (state_over (g.W.Words.words l.words) l.layout 0 0) (l.index - 1)) 63;
}
