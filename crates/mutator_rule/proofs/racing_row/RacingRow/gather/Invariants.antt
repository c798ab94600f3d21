use Rattle.std.proofs.Common.{◌≡◌, map, ◌++◌}
use Rattle.mutator_rule.specs.Seats.{known, AreAtRow}
use Rattle.mutator_rule.proofs.racing_row.RacingRow.gather.Given as goal

abbrev pub invariant-loop-next : goal.invariant-loop-next
invariant-loop-next g l = record {
  table : l.chief.table_id ≡ l.self.row.words.table_id;
  own : AreAtRow l.self l.seats.items;
  views : map known l.seats.items ++ l.chief.me.0 ≡ map known l.fn.seats.items;
}

abbrev pub decreases-loop-next : goal.decreases-loop-next
decreases-loop-next g l = goal.left-loop-next g l
