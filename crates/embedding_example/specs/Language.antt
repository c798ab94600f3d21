-- What a program of the language knows of its heap.
use Rattle.std.specs.Prelude.{◌≡◌, ℕ, ◌+◌, List}
use Rattle.ideal_heap.specs.declared.command.Command.{Command}
use Rattle.ideal_heap.specs.Ideal.{IdealHeap}
use Rattle.sessions.specs.Plans.{Rules}
use Rattle.programs.specs.Lists.{IsList, heap_after}
use Rattle.managed_value.specs.declared.managed.ManagedHeap.{ManagedHeap}
use Rattle.managed_value.specs.Histories.{IsUsable, StandsFor, HoldsOfIdeal, mutators_of_heap}
use Rattle.embedding_example.specs.Lists.{HoldsLists}

-- The heap is between two calls, and has two mutators.
pub record IsReady {P : Type 0} (rules : Rules) (h : ManagedHeap P) : Type 0 where
  pub usable : IsUsable rules h
  pub two : mutators_of_heap h ≡ 2

-- What the heap stands for went on by these commands of the mutator at place m, and no others.
pub record Does {P : Type 0} (rules : Rules) (old : ManagedHeap P) (m : ℕ) (commands : List Command)
    (new : ManagedHeap P) : Type 0 where
  pub ready : IsReady rules new
  pub goes : (i : IdealHeap) → StandsFor rules old i
      → StandsFor rules new (heap_after i (m + 1) commands)

-- The heap is ready, and the builder has the lists and the array.
pub record KnowsLists {P : Type 0} (rules : Rules) (h : ManagedHeap P) (xs ys : List ℕ)
    : Type 0 where
  pub ready : IsReady rules h
  pub holds : HoldsOfIdeal rules h (HoldsLists xs ys)

-- register s of the mutator with this number holds a list of these numbers
abbrev pub HoldsList : {P : Type 0} → Rules → ManagedHeap P → ℕ → ℕ → List ℕ → Type 0
HoldsList rules h k s xs = HoldsOfIdeal rules h (λ i. IsList i k s xs)
