-- The objects that are reachable from roots and globals, and when a heap represents an ideal heap.
use Rattle.std.specs.Prelude.{◌≡◌, ℕ, ◌+◌, ◌<◌, ◌≤◌, ◌↔◌, IsTrue, Option, None, Some, List, map, length, replicate}
use Rattle.std.specs.Prelude.{slice_index, slice_set, nat_eq, if◌then◌else◌}
use Rattle.std.specs.List.{flat_map, AllByRecursion, Any}
use Rattle.ideal_heap.specs.declared.command.TheConstants.{MAX_MUTATORS, REGISTERS}
use Rattle.heap_layout.specs.declared.layout.TheConstants.{GLOBALS}
use Rattle.ideal_heap.specs.declared.name.Name.{Name}
use Rattle.ideal_heap.specs.Ideal.{IdealHeap, IsConfined}
use Rattle.ideal_heap.specs.Reach.{PathReaches}
use Rattle.object_model.specs.Objects.{HeapState, global_at, is_pinned, IsHeld, name_at, refs_at, ref_at, is_reference}
use Rattle.object_model.specs.Objects.{record_at}
use Rattle.object_model.specs.Lawful.{IsRoot}

-- A path from a root or a global, along reference fields, leads to the address.
pub data IsReachable (s : HeapState) (roots : List ℕ) : ℕ → Type 0 where
  from_root : (i : ℕ) {a : ℕ} → slice_index roots i ≡ a → 0 < a → IsReachable s roots a
  from_global : (g : ℕ) {a : ℕ} → g < GLOBALS → global_at s g ≡ a → 0 < a → IsReachable s roots a
  from_field : (x i : ℕ) {a : ℕ} → IsReachable s roots x → i < refs_at s x → ref_at s x i ≡ a
      → IsTrue (is_reference a) → IsReachable s roots a

-- The state of a mutator: its number, how many objects it has allocated, and its registers. They
-- hold addresses, or 0 for nil.
pub record MutatorState : Type 0 where
  pub number : ℕ
  pub births : ℕ
  pub registers : List ℕ

-- a mutator that has allocated nothing yet, with nil registers
abbrev pub new_mutator : ℕ → MutatorState
new_mutator number = record { number = number; births = 0; registers = replicate REGISTERS 0 }

abbrev pub numbers_of : List MutatorState → List ℕ
numbers_of ms = map (λ m. m.number) ms

abbrev pub roots_of : List MutatorState → List ℕ
roots_of ms = flat_map (λ m. m.registers) ms

abbrev pub register_at : MutatorState → ℕ → ℕ
register_at m d = slice_index m.registers d

-- each of the sixteen registers is nil or holds the address of a held object
abbrev pub AreRegisters : HeapState → List ℕ → Type 0
AreRegisters s registers = (d : ℕ) → d < REGISTERS → IsRoot s (slice_index registers d)

-- the same mutator with v in register d
abbrev pub with_register : MutatorState → ℕ → ℕ → MutatorState
with_register m d v = record m { registers = slice_set m.registers d v }

-- the same mutators with v in register d of mutator m
abbrev pub set_register_of : List MutatorState → ℕ → ℕ → ℕ → List MutatorState
set_register_of ms m d v = map (λ x. if nat_eq x.number m then with_register x d v else x) ms

-- the same mutators with m in place of the one that has its number
abbrev pub with_mutator : List MutatorState → MutatorState → List MutatorState
with_mutator ms m = map (λ x. if nat_eq x.number m.number then m else x) ms

-- the same mutator after one more allocation, and the same mutators after one more allocation of
-- mutator m
abbrev pub with_birth : MutatorState → MutatorState
with_birth m = record m { births = m.births + 1 }

abbrev pub add_birth : List MutatorState → ℕ → List MutatorState
add_birth ms m = map (λ x. if nat_eq x.number m then with_birth x else x) ms

-- the number of a mutator, and its registers
pub record IsMutatorState (m : MutatorState) : Type 0 where
  pub least : 1 ≤ m.number
  pub most : m.number ≤ MAX_MUTATORS
  pub registers : length m.registers ≡ REGISTERS

-- no number is in the list twice
abbrev pub AreDifferent : List ℕ → Type 0
AreDifferent numbers = (i j : ℕ) → i < length numbers → j < length numbers
    → slice_index numbers i ≡ slice_index numbers j → i ≡ j

-- mutators with different numbers
pub record AreMutators (ms : List MutatorState) : Type 0 where
  pub each : AllByRecursion IsMutatorState ms
  pub differ : AreDifferent (numbers_of ms)

-- The word v represents the ideal value: 0 represents nil, and the address of a held object
-- represents its name.
abbrev pub PointsTo : HeapState → ℕ → Option Name → Type 0
PointsTo s v None = v ≡ 0
PointsTo s v (Some n) = (0 < v) × IsHeld s v × (name_at s v ≡ n)

-- Each mutator has allocated as many objects as in the ideal heap. The birth numbers of held
-- objects and of pinned names are at most that count.
pub record AreBirths (s : HeapState) (ms : List MutatorState) (h : IdealHeap) : Type 0 where
  pub births : AllByRecursion (λ m. h.births m.number ≡ m.births) ms
  pub held : (a : ℕ) → IsHeld s a
      → Any (λ m. ((name_at s a).mutator ≡ m.number) × ((name_at s a).birth ≤ m.births)) ms
  pub pinned : (n : Name) → IsTrue (h.pinned n)
      → AllByRecursion (λ m. n.mutator ≡ m.number → n.birth ≤ m.births) ms

-- each register and each global represents the ideal one
pub record ArePointers (s : HeapState) (ms : List MutatorState) (h : IdealHeap) : Type 0 where
  pub registers : AllByRecursion (λ m. (d : ℕ) → d < REGISTERS
      → PointsTo s (register_at m d) (h.registers m.number d)) ms
  pub globals : (g : ℕ) → g < GLOBALS → PointsTo s (global_at s g) (h.globals g)
  -- the ideal heap has no objects in other registers or globals
  pub confined : IsConfined (numbers_of ms) h

-- The abstraction relation: the heap and the registers represent the ideal heap. The reachable
-- objects, read by names, have its records, references and pins.
pub record Represents (s : HeapState) (ms : List MutatorState) (h : IdealHeap) : Type 0 where
  pub mutators : AreMutators ms
  pub pointers : ArePointers s ms h
  pub births : AreBirths s ms h
  pub there : (a : ℕ) → IsReachable s (roots_of ms) a
      → PathReaches h (name_at s a) × (h.records (name_at s a) ≡ Some (record_at s a))
  pub all : (n : Name) → PathReaches h n → (a : ℕ) × IsReachable s (roots_of ms) a
      × (name_at s a ≡ n)
  pub pins : (a : ℕ) → IsReachable s (roots_of ms) a → IsTrue (is_pinned s a)
      ↔ IsTrue (h.pinned (name_at s a))
