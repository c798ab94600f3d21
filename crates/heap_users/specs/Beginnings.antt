-- The beginning of an epoch.
use Rattle.std.specs.Prelude.{◌≡◌, ℕ, ◌≤◌, List, slice_set}
use Rattle.std.specs.List.{AllByRecursion, Any}
use Rattle.heap_layout.specs.declared.layout.TheConstants.{BUDGET_WORD, STOP_WORD}
use Rattle.object_model.specs.Objects.{HeapState, with_words, IsHeld, name_at}
use Rattle.object_model.specs.Graphs.{MutatorState, AreMutators, AreRegisters}
use Rattle.sessions.specs.Plans.{Rules}
use Rattle.mutator_core.specs.Machine.{Epoch}

-- Mutators with different numbers may use the heap: their registers are nil or held, and each held
-- object has the name of one of them, with a birth number of at most its births.
pub record MayUse (s : HeapState) (ms : List MutatorState) : Type 0 where
  pub mutators : AreMutators ms
  pub registers : AllByRecursion (λ m. AreRegisters s m.registers) ms
  pub names : (a : ℕ) → IsHeld s a
      → Any (λ m. ((name_at s a).mutator ≡ m.number) × ((name_at s a).birth ≤ m.births)) ms

-- the heap with stop word and budget word 0
abbrev pub without_stop : HeapState → HeapState
without_stop s = with_words s (slice_set (slice_set s.words STOP_WORD 0) BUDGET_WORD 0)

-- the epoch that begins with this heap and these mutators
abbrev pub epoch_of : Rules → HeapState → List MutatorState → Epoch
epoch_of rules s ms = record { rules = rules; before = without_stop s; mutators = ms }
