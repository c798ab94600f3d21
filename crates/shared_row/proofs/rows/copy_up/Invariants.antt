use Rattle.std.proofs.Common.{ℕ, ◌≡◌, ◌+◌, ◌<◌, ◌≤◌, ◌⊎◌, slice_index}
use Rattle.core.specs.Mem.Slots.{slots_items, Refills}
use Rattle.shared_row.proofs.rows.copy_up.Given as goal

-- the words after those that are left are copied
abbrev pub invariant-loop-left : goal.invariant-loop-left
invariant-loop-left l = record {
  few : l.left ≤ l.count;
  copied : (i : ℕ) → l.left ≤ i → i < l.count → slice_index (slots_items l.places) (l.to + i) ≡ slice_index (slots_items l.initial.places) (l.from + i);
  others : (i : ℕ) → (i < l.to + l.left) ⊎ (l.to + l.count ≤ i) → slice_index (slots_items l.places) i ≡ slice_index (slots_items l.initial.places) i;
  full : Refills l.initial.places l.places;
}

abbrev pub decreases-loop-left : goal.decreases-loop-left
decreases-loop-left l = l.left
