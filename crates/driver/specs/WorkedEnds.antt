-- A worked end of a session of two mutators: a heap of five blocks with three live objects and two
-- dead ones. And a heap with a block of each kind.
use Rattle.std.specs.Prelude.{ℕ, true, List, [], ◌∷◌, ◌++◌, replicate}
use Rattle.heap_layout.specs.declared.block.Kind.TheVariants as kinds
use Rattle.ideal_heap.specs.declared.command.Command.TheVariants as command
use Rattle.ideal_heap.specs.declared.reply.Reply.TheVariants as reply
use Rattle.ideal_heap.specs.Names.{name}
use Rattle.ideal_heap.specs.Runs.{Entry, entry}
use Rattle.object_model.specs.Objects.{HeapState}
use Rattle.object_model.specs.Graphs.{new_mutator, with_register}
use Rattle.object_model.specs.WorkedHeaps.{WorkedObject, plain_object, build_heap, unowned}
use Rattle.sessions.specs.Sessions.{Moment}

-- the same object, as one of mutator 2
abbrev pub of_second : WorkedObject → ℕ → WorkedObject
of_second o birth = record o { name = name 2 birth }

-- A Bump block, a large object and an Immix block. The first object of each small block is dead or
-- refers to the large one; a global refers to 1.3.
abbrev pub worked_heap : HeapState
worked_heap = build_heap (record {
  blocks = unowned kinds.Bump 0 ∷ unowned kinds.Free 0 ∷ unowned kinds.LargeHead 1
      ∷ unowned kinds.Immix 0
      ∷ unowned kinds.Free 0 ∷ [];
  objects = plain_object 0 0 1 [] 2 0 ∷ of_second (plain_object 0 5 0 (9195 ∷ []) 0 0) 1
      ∷ plain_object 2 0 2 [] 2046 0
      ∷ plain_object 3 16 3 (0 ∷ []) 3 0 ∷ of_second (plain_object 3 48 0 (13307 ∷ []) 0 0) 2 ∷ [];
  globals = replicate 5 0 ++ 13307 ∷ replicate 10 0;
  number = 7;
  base = 7;
})

abbrev pub worked_entries : List Entry
worked_entries =
    entry 2 (command.New 3 1 0) (reply.New (name 2 1))
    ∷ entry 1 (command.New 0 0 2) (reply.New (name 1 1))
    ∷ entry 1 (command.New 0 0 60000) reply.Full ∷ entry 2 (command.Read 3 0) reply.Range
    ∷ entry 1 command.Gc reply.Done ∷ entry 2 (command.Get 3 3 0) (reply.Ref (name 1 2)) ∷ []

-- register 3 of mutator 2 refers to its first object
abbrev pub worked_end : Moment
worked_end = record {
  heap = worked_heap;
  mutators = new_mutator 1 ∷ with_register (new_mutator 2) 3 1008 ∷ [];
  done = worked_entries;
  nursery = 4;
  full = 3;
}

-- A heap with a block of each kind, and an object in each that may have one. The last born is
-- pinned, in the first block.
abbrev pub each_kind : HeapState
each_kind = build_heap (record {
  blocks = unowned kinds.Kept 0 ∷ unowned kinds.LargeHead 2 ∷ unowned kinds.LargeTail 0
      ∷ unowned kinds.Cells 0
      ∷ unowned kinds.Immix 0 ∷ unowned kinds.Mature 0 ∷ unowned kinds.Young 0
      ∷ unowned kinds.Bump 0 ∷ unowned kinds.Free 0 ∷ [];
  objects = (record (plain_object 0 0 7 [] 1 0) { pinned = true }) ∷ plain_object 1 0 6 [] 4094 0
      ∷ plain_object 3 0 5 [] 0 0 ∷ plain_object 4 16 4 [] 1 0 ∷ plain_object 5 0 3 [] 2 0
      ∷ plain_object 6 0 2 [] 3 0 ∷ plain_object 7 0 1 [] 4 0 ∷ [];
  globals = replicate 16 0;
  number = 7;
  base = 7;
})
