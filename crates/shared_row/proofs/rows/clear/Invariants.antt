use Rattle.std.proofs.Common.{◌≡◌, ◌-◌, ◌≤◌, ◌++◌, take, drop}
use mathlib.Core.Bool.{false}
use lib.ListN.{replicate}
use Rattle.core.specs.Mem.Slots.{slots_items, slots_filled, SamePlaces}
use Rattle.core.specs.Mem.Slots.Ownership.{Filled, SameOutside}
use Rattle.shared_row.proofs.rows.clear.Given as goal

-- the places before the i-th are done
abbrev pub invariant-loop-i : goal.invariant-loop-i
invariant-loop-i l = record {
  begun : l.from ≤ l.i;
  few : l.i ≤ l.to;
  items : slots_items l.places ≡ take l.from (slots_items l.initial.places) ++ replicate (l.i - l.from) 0 ++ drop l.i (slots_items l.initial.places);
  full : Filled (slots_filled l.places) 0 l.i;
  others : SameOutside false (slots_filled l.initial.places) (slots_filled l.places) l.from l.i;
  same : SamePlaces l.initial.places l.places;
}

abbrev pub decreases-loop-i : goal.decreases-loop-i
decreases-loop-i l = l.to - l.i
