use Rattle.std.proofs.Common.{ℕ, ◌/◌, ◌<◌, ◌≤◌}
use Rattle.trace_core.specs.Machine.{ByRoot}
use Rattle.trace_words.specs.Rule.{HasLined}
use Rattle.trace_table.specs.Seats.{setup_at, IsSeat, MarksOnly}
use Rattle.trace_table.proofs.table.TraceTable.mark_object.Given as goal

abbrev pub ghosts-mark_word : goal.ghosts-mark_word
ghosts-mark_word a = record { setup = setup_at a.self.now; cause = ByRoot; object = a.x; target = a.target; index = 0; worker = 0 }

abbrev pub invariant-loop-word : goal.invariant-loop-word
invariant-loop-word l = record {
  seat : IsSeat l.self l.seat;
  marks : MarksOnly l.fn.seat.seat.me.0 l.seat.seat.me.0;
  lines : (line : ℕ) → l.first ≤ line → line ≤ l.last → line / 64 < l.word → HasLined (setup_at l.self) l.seat.seat.me.0 line;
}
