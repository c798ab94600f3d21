-- Ideal heaps that commands made from the empty one.
use Rattle.std.specs.Prelude.{◌≤◌}
use Rattle.ideal_heap.specs.declared.name.Name.{Name}
use Rattle.ideal_heap.specs.Ideal.{IdealHeap, HasRecord, IsClosed}

-- Each name in a register, a global or a field is that of an object, and no object is newer than
-- its mutator's births. So the next name of a mutator is nowhere.
pub record IsGrown (h : IdealHeap) : Type 0 where
  pub closed : IsClosed h
  pub births : (n : Name) → HasRecord h n → n.birth ≤ h.births n.mutator
