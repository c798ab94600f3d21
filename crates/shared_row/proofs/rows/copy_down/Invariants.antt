use Rattle.std.proofs.Common.{◌-◌, ◌≤◌}
use Rattle.core.specs.Mem.Slots.{slots_items, Refills}
use Rattle.shared_row.specs.Words.{IsCopied}
use Rattle.shared_row.proofs.rows.copy_down.Given as goal

-- i words are copied
abbrev pub invariant-loop-i : goal.invariant-loop-i
invariant-loop-i l = record {
  few : l.i ≤ l.count;
  copied : IsCopied (slots_items l.initial.places) (slots_items l.places) l.from l.to l.i;
  full : Refills l.initial.places l.places;
}

abbrev pub decreases-loop-i : goal.decreases-loop-i
decreases-loop-i l = l.count - l.i
