-- If two sets have the same addresses, a heap represents an ideal heap on both or on neither.
use Rattle.std.proofs.Common.{◌≢◌, ℕ, ◌<◌, List, [], ◌∷◌}
use Rattle.std.specs.List.{AllByRecursion}
use Rattle.ideal_heap.specs.Ideal.{IdealHeap}
use Rattle.object_model.specs.Objects.{HeapState}
use Rattle.object_model.specs.Graphs.{MutatorState, register_at}
use Rattle.object_model.specs.Agreement.{RepresentsOn}

registers-in : (set other : ℕ → Type 0) → ((a : ℕ) → set a → other a) → (ms : List MutatorState)
    → AllByRecursion (λ m. (d : ℕ) → d < 16 → register_at m d ≢ 0 → set (register_at m d)) ms
    → AllByRecursion (λ m. (d : ℕ) → d < 16 → register_at m d ≢ 0 → other (register_at m d)) ms
registers-in set other to [] all = tt
registers-in set other to (m ∷ ms) all = (λ d small some. to (register_at m d) (all.0 d small some), registers-in set other to ms all.1)

pub models-by : (s : HeapState) (ms : List MutatorState) (h : IdealHeap) (set other : ℕ → Type 0) → ((a : ℕ) → set a → other a) → ((a : ℕ) → other a → set a)
    → RepresentsOn s ms h set → RepresentsOn s ms h other
models-by s ms h set other to back model = record {
  order = model.order;
  mutators = model.mutators;
  pointers = model.pointers;
  births = model.births;
  mirrors = record {
    held = λ a there. model.mirrors.held a (back a there);
    fields = λ a i there less some. to _ (model.mirrors.fields a i (back a there) less some);
    registers = registers-in set other to ms model.mirrors.registers;
    globals = λ g small some. to _ (model.mirrors.globals g small some);
    records = λ a there. model.mirrors.records a (back a there);
    pins = λ a there. model.mirrors.pins a (back a there);
  };
}
