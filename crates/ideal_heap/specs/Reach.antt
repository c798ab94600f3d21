-- Reachability: the names that a path from a register or a global leads to.
use Rattle.std.specs.Prelude.{◌≡◌, ℕ, Some, slice_get}
use Rattle.ideal_heap.specs.declared.name.Name.{Name}
use Rattle.ideal_heap.specs.Ideal.{IdealHeap, At, record_of}

pub data PathReaches (h : IdealHeap) : Name → Type 0 where
  from_register : (m d : ℕ) {n : Name} → h.registers m d ≡ Some n → PathReaches h n
  from_global : (g : ℕ) {n : Name} → h.globals g ≡ Some n → PathReaches h n
  from_field : (n : Name) (i : ℕ) {to : Name} → PathReaches h n
      → slice_get (record_of h n).refs i ≡ Some (At to)
      → PathReaches h to
