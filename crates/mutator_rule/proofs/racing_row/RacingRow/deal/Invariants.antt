use Rattle.std.proofs.Common.{◌≡◌, map, take, drop}
use Rattle.std.specs.List.{All}
use Rattle.mutator_rule.specs.Seats.{known, AreSeatsOf, HasFirstNotes}
use Rattle.mutator_rule.proofs.racing_row.RacingRow.deal.Given as goal

abbrev pub invariant-loop-i : goal.invariant-loop-i
invariant-loop-i g l = record {
  table : l.chief.table_id ≡ l.self.row.words.table_id;
  left : l.chief.me.0 ≡ drop l.i l.fn.chief.me.0;
  notes : All (HasFirstNotes l.self l.fn.allowance) l.seats.items;
  own : AreSeatsOf g.P.EpochRules.rules l.self l.seats.items;
  done : map known l.seats.items ≡ take l.i l.fn.chief.me.0;
}
