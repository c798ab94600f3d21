-- An invariant that implies that a heap represents an ideal heap. It uses a set of addresses
-- instead of paths.
use Rattle.std.specs.Prelude.{◌≡◌, ◌≢◌, ℕ, ◌<◌, ◌↔◌, IsTrue, Some, List}
use Rattle.std.specs.List.{AllByRecursion}
use Rattle.ideal_heap.specs.declared.command.TheConstants.{REGISTERS}
use Rattle.heap_layout.specs.declared.layout.TheConstants.{GLOBALS}
use Rattle.ideal_heap.specs.Ideal.{IdealHeap}
use Rattle.object_model.specs.Objects.{HeapState, global_at, is_pinned, IsHeld, name_at, refs_at, ref_at, is_reference}
use Rattle.object_model.specs.Objects.{record_at}
use Rattle.object_model.specs.Graphs.{MutatorState, AreMutators, AreBirths, ArePointers, register_at}
use Rattle.object_model.specs.Lawful.{IsWellFormed}

-- The set has all addresses in registers and globals, and is closed under reference fields. Each of
-- its addresses is that of a held object, which represents the ideal record of its name, and is
-- pinned if and only if that name is.
pub record AgreesOn (s : HeapState) (ms : List MutatorState) (h : IdealHeap) (set : ℕ → Type 0)
    : Type 0 where
  pub held : (a : ℕ) → set a → IsHeld s a
  pub fields : (a i : ℕ) → set a → i < refs_at s a → IsTrue (is_reference (ref_at s a i))
      → set (ref_at s a i)
  pub registers : AllByRecursion (λ m. (d : ℕ) → d < REGISTERS → register_at m d ≢ 0
      → set (register_at m d)) ms
  pub globals : (g : ℕ) → g < GLOBALS → global_at s g ≢ 0 → set (global_at s g)
  pub records : (a : ℕ) → set a → h.records (name_at s a) ≡ Some (record_at s a)
  pub pins : (a : ℕ) → set a → IsTrue (is_pinned s a) ↔ IsTrue (h.pinned (name_at s a))

-- The heap is well formed, and agrees with the ideal heap on the set.
pub record RepresentsOn (s : HeapState) (ms : List MutatorState) (h : IdealHeap) (set : ℕ → Type 0)
    : Type 0 where
  pub order : IsWellFormed s
  pub mutators : AreMutators ms
  pub pointers : ArePointers s ms h
  pub births : AreBirths s ms h
  pub mirrors : AgreesOn s ms h set
