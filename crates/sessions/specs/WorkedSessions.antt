-- Worked sessions: settings with short traces, and the heap after a first allocation.
use Rattle.std.specs.Prelude.{ℕ, List, [], ◌∷◌, replicate}
use Rattle.heap_layout.specs.declared.block.Kind.{Kind}
use Rattle.heap_layout.specs.declared.block.Kind.TheVariants as kinds
use Rattle.ideal_heap.specs.declared.command.Command.{Command}
use Rattle.ideal_heap.specs.declared.command.Command.TheVariants as c
use Rattle.ideal_heap.specs.declared.reply.Reply.TheVariants as r
use Rattle.ideal_heap.specs.Names.{name}
use Rattle.ideal_heap.specs.Runs.{Entry, entry}
use Rattle.object_model.specs.Objects.{HeapState}
use Rattle.object_model.specs.WorkedHeaps.{unowned, plain_object, build_heap}
use Rattle.sessions.specs.Plans.{Rules}
use Rattle.sessions.specs.Sessions.{Setting, Moment, first_moment}

-- a setting with these rules and traces, with four blocks and one worker
abbrev pub worked_setting : Rules → List (List Command) → Setting
worked_setting rules traces = record { rules = rules; blocks = 4; workers = 1; traces = traces }

-- the state in which its session begins
abbrev pub worked_moment : Rules → List (List Command) → Moment
worked_moment rules traces = first_moment (worked_setting rules traces)

-- the heap after mutator 1 allocated an object of one reference and one number, in block 0 of this
-- kind and class
abbrev pub heap_after_birth : Kind → ℕ → HeapState
heap_after_birth kind class = build_heap (record {
  blocks = unowned kind class ∷ unowned kinds.Free 0 ∷ unowned kinds.Free 0
      ∷ unowned kinds.Free 0 ∷ [];
  objects = plain_object 0 0 1 (0 ∷ []) 1 0 ∷ [];
  globals = replicate 16 0;
  number = 0;
  base = 0;
})

-- the part of that allocation
abbrev pub part_of_birth : List Entry
part_of_birth = entry 1 (c.New 0 1 1) (r.New (name 1 1)) ∷ []
