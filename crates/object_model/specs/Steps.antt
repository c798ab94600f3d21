-- What a command of one mutator does to a heap that represents an ideal heap.
use Rattle.std.specs.Prelude.{◌≡◌, ◌≢◌, ℕ, List, [], ◌∷◌}
use Rattle.std.specs.List.{Contains}
use Rattle.ideal_heap.specs.declared.name.Name.{Name}
use Rattle.ideal_heap.specs.declared.command.Command.{Command}
use Rattle.ideal_heap.specs.declared.reply.Reply.{Reply}
use Rattle.ideal_heap.specs.declared.reply.Reply.TheVariants as r
use Rattle.ideal_heap.specs.Ideal.{IdealHeap, step}
use Rattle.object_model.specs.Objects.{HeapState, IsHeld}
use Rattle.object_model.specs.Graphs.{MutatorState, Represents, with_mutator}
use Rattle.object_model.specs.Lawful.{IsWellFormed}
use Rattle.object_model.specs.Agreement.{RepresentsOn}
use Rattle.object_model.specs.Changes.{ObjectsStay}

-- A step of mutator m that allocates nothing. The objects stay. For all other mutators, and for
-- each set of addresses on which the heap represents an ideal heap, the reply is that of the ideal
-- heap's step, and the new heap represents the new ideal heap on the same set.
pub record IsStep (s : HeapState) (m : MutatorState) (command : Command) (reply : Reply)
    (s' : HeapState)
    (m' : MutatorState) : Type 1 where
  pub keeps : ObjectsStay s s'
  pub number : m'.number ≡ m.number
  pub births : m'.births ≡ m.births
  pub answers : (ms : List MutatorState) (h : IdealHeap) (set : ℕ → Type 0)
      → RepresentsOn s ms h set → Contains ms m
      → reply ≡ (step h m.number command).0
  pub models : (ms : List MutatorState) (h : IdealHeap) (set : ℕ → Type 0) → RepresentsOn s ms h set
      → Contains ms m
      → RepresentsOn s' (with_mutator ms m') (step h m.number command).1 set
  pub no_birth : (n : Name) → reply ≢ r.New n

-- The same step as a clause can state it, since no clause may quantify over sets of addresses. For
-- all other mutators: if the heap is well formed and represents an ideal heap, the reply is that of
-- the ideal heap's step, and the new heap is well formed and represents the new ideal heap. If the
-- mutator runs alone and the heap represents an ideal heap on the set of all held objects,
-- reachable or not, so does the new heap, with the same reply as the ideal heap.
pub record TakesStep (s : HeapState) (m : MutatorState) (command : Command) (reply : Reply)
    (s' : HeapState)
    (m' : MutatorState) : Type 0 where
  pub keeps : ObjectsStay s s'
  pub number : m'.number ≡ m.number
  pub births : m'.births ≡ m.births
  pub gives_reply : (ms : List MutatorState) (h : IdealHeap) → IsWellFormed s → Represents s ms h
      → Contains ms m
      → reply ≡ (step h m.number command).0
  pub represents : (ms : List MutatorState) (h : IdealHeap) → IsWellFormed s → Represents s ms h
      → Contains ms m
      → IsWellFormed s' × Represents s' (with_mutator ms m') (step h m.number command).1
  pub answers : (h : IdealHeap) → RepresentsOn s (m ∷ []) h (IsHeld s)
      → reply ≡ (step h m.number command).0
  pub models : (h : IdealHeap) → RepresentsOn s (m ∷ []) h (IsHeld s)
      → RepresentsOn s' (m' ∷ []) (step h m.number command).1 (IsHeld s')
  pub no_birth : (n : Name) → reply ≢ r.New n
