use Rattle.std.proofs.Common.{◌≡◌, ◌-◌, ◌≤◌, take}
use lib.ListN.{replicate}
use Rattle.core.specs.Mem.Slots.{slots_items, slots_filled, SamePlaces}
use Rattle.core.specs.Mem.Slots.Ownership.{Filled}
use Rattle.shared_row.proofs.rows.WordRow.zeros.Given as goal

-- as many places are done
abbrev pub invariant-loop-done : goal.invariant-loop-done
invariant-loop-done l = record {
  few : l.done ≤ l.count;
  items : take l.done (slots_items l.places) ≡ replicate l.done 0;
  full : Filled (slots_filled l.places) 0 l.done;
  same : SamePlaces l.initial.places l.places;
}

abbrev pub decreases-loop-done : goal.decreases-loop-done
decreases-loop-done l = l.count - l.done
