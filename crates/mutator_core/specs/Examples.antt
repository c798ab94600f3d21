-- Small epochs and lists of events for the worked examples.
use Rattle.std.specs.Prelude.{ℕ, ◌+◌, true, List, [], ◌∷◌, ◌++◌, map, replicate, slice_set}
use Rattle.heap_layout.specs.Zones.{heap_of}
use Rattle.ideal_heap.specs.declared.command.Command.TheVariants as c
use Rattle.object_model.specs.Objects.{empty_heap, with_words}
use Rattle.object_model.specs.Graphs.{new_mutator}
use Rattle.sessions.specs.Plans.{Plan, NoGc, GenCopy, rules_of}
use Rattle.mutator_core.specs.declared.state.Event.{Event}
use Rattle.mutator_core.specs.declared.state.Event.TheVariants as e
use Rattle.mutator_core.specs.declared.state.LogEntry.{LogEntry}
use Rattle.mutator_core.specs.Machine.{Epoch, Machine, next, answer_at, first_machine}

-- Two mutators that have allocated nothing, and a row of zeros for one block. The row ends after
-- the words in use.
abbrev pub small_epoch : Plan → Epoch
small_epoch plan = record {
  rules = rules_of plan;
  before = record { words = replicate (heap_of 1 + 16) 0; blocks = 1; number = 0; base = 0 };
  mutators = new_mutator 1 ∷ new_mutator 2 ∷ [];
}

-- the log of these events, each with its mutator's number, from the machine h on
abbrev pub log_of : Epoch → Machine → List (ℕ × Event) → List LogEntry
log_of p h [] = []
log_of p h (x ∷ xs) = (record { mutator = x.0; event = x.1; answer = answer_at p h x.0 x.1 })
    ∷ log_of p (next p h x.0 x.1) xs

-- the steps of mutator m before it publishes an object with one field and one number
abbrev pub birth_events : ℕ → List (ℕ × Event)
birth_events m =
    (m, e.DrawTicket) ∷ (m, e.TakeBlock 0 0 true)
    ∷ (m, e.Initialize 215 1 1 0) ∷ (m, e.Initialize 215 1 1 1) ∷ (m, e.Initialize 215 1 1 2)
    ∷ (m, e.Initialize 215 1 1 3) ∷ (m, e.Initialize 215 1 1 4)
    ∷ []

-- the allocation by mutator 1, and then the commands of both mutators on the object
abbrev pub share_events : List (ℕ × Event)
share_events =
    birth_events 1 ++ (1, e.Perform (c.New 0 1 1)) ∷ (1, e.LoadShape 0)
    ∷ (1, e.Perform (c.Write 0 0 5))
    ∷ (1, e.Perform (c.Share 9 0)) ∷ (2, e.Perform (c.Load 3 9)) ∷ (2, e.LoadShape 3)
    ∷ (2, e.Perform (c.Add 3 0 4)) ∷ (1, e.Perform (c.Read 0 0)) ∷ (2, e.Perform (c.Swap 3 0 9 7))
    ∷ (1, e.Perform (c.Swap 0 0 9 8)) ∷ (1, e.Perform (c.Get 2 0 0)) ∷ (1, e.Perform (c.Put 0 0 0))
    ∷ (2, e.Perform (c.Get 4 3 0))
    ∷ (1, e.Perform (c.Pin 0)) ∷ (2, e.Perform (c.Pin 4)) ∷ (2, e.Perform (c.Unpin 3))
    ∷ (1, e.Perform (c.Move 1 0))
    ∷ (1, e.Perform (c.DropReg 0)) ∷ (1, e.Miss (c.Get 2 0 0)) ∷ (1, e.Miss (c.Read 1 1))
    ∷ (1, e.Perform (c.Read 1 0))
    ∷ []

-- the same object, used by one mutator and then by the other
abbrev pub separate_events : List (ℕ × Event)
separate_events =
    birth_events 1 ++ (1, e.Perform (c.New 0 1 1)) ∷ (1, e.LoadShape 0)
    ∷ (1, e.Perform (c.Write 0 0 5))
    ∷ (1, e.Perform (c.Add 0 0 4)) ∷ (1, e.Perform (c.Read 0 0)) ∷ (1, e.Perform (c.Swap 0 0 9 7))
    ∷ (1, e.Perform (c.Put 0 0 0)) ∷ (1, e.Perform (c.Get 1 0 0)) ∷ (1, e.Perform (c.Share 9 0))
    ∷ (1, e.Perform (c.Pin 0)) ∷ (1, e.Perform (c.Unpin 0)) ∷ (1, e.Perform (c.Move 2 0))
    ∷ (1, e.Perform (c.DropReg 2)) ∷ (1, e.Perform (c.Load 3 9))
    ∷ (2, e.Perform (c.Load 0 9)) ∷ (2, e.LoadShape 0) ∷ (2, e.Perform (c.Read 0 0))
    ∷ (2, e.Perform (c.Write 0 0 1)) ∷ (2, e.Perform (c.Add 0 0 2))
    ∷ (2, e.Perform (c.Swap 0 0 5 8))
    ∷ (2, e.Perform (c.Get 1 0 0)) ∷ (2, e.Perform (c.Put 0 0 5))
    ∷ (2, e.Perform (c.Get 1 0 0)) ∷ (2, e.Perform (c.Share 9 5)) ∷ (2, e.Perform (c.Pin 0))
    ∷ (2, e.Perform (c.Unpin 0)) ∷ (2, e.Perform (c.Move 2 0)) ∷ (2, e.Perform (c.DropReg 0))
    ∷ (2, e.Perform (c.Load 3 9)) ∷ (2, e.Miss (c.Pin 0))
    ∷ []

-- an epoch with an old object at the heap's first address: its unlog bit is set, and the mutator's
-- register 0 holds it
abbrev pub old_object_epoch : Epoch
old_object_epoch = record {
  rules = rules_of GenCopy;
  before = record {
    words = replicate 23 0 ++ 1 ∷ replicate 127 0 ++ 1 ∷ replicate 63 0 ++ 33 ∷ 1
        ∷ 16777431 ∷ 0 ∷ [];
    blocks = 1;
    number = 1;
    base = 1;
  };
  mutators = (record { number = 1; births = 1; registers = 215 ∷ replicate 15 0 }) ∷ [];
}

-- the loads before the barrier, and the barrier
abbrev pub barrier_events : List (ℕ × Event)
barrier_events = (1, e.LoadShape 0) ∷ (1, e.LoadCollector 0) ∷ (1, e.LoadUnlog 0)
    ∷ (1, e.ClearUnlog 0) ∷ []

-- the same epoch, but the block word is not that of a Free block, and some line bits are set
abbrev pub used_block_epoch : Epoch
used_block_epoch = record old_object_epoch {
  before = with_words old_object_epoch.before
      (slice_set (slice_set old_object_epoch.before.words 18 2) 19 5);
}

-- loads of the block word, of a line word and a start word, and of the object's header words, by
-- its register and then, once its start bit is seen, by its address
abbrev pub load_events : List (ℕ × Event)
load_events = (1, e.LoadBlock 0) ∷ (1, e.LoadSide 19) ∷ (1, e.LoadSide 23) ∷ (1, e.LoadName 0)
    ∷ (1, e.LoadShapeAt 215) ∷ []

abbrev pub load_log : List LogEntry
load_log = log_of used_block_epoch (first_machine used_block_epoch) load_events

-- four blocks of an empty heap, and two mutators that have allocated nothing
abbrev pub empty_epoch : Epoch
empty_epoch = record {
  rules = rules_of NoGc;
  before = empty_heap 4;
  mutators = map new_mutator (1 ∷ 2 ∷ []);
}

-- Two allocations, step by step in turns. Mutator 2 finds block 0 taken and takes block 1 with the
-- same ticket. Then mutator 1 raises a stop and stores a reference to the object of mutator 2 into
-- its own.
abbrev pub mixed_events : List (ℕ × Event)
mixed_events =
    (1, e.DrawTicket) ∷ (2, e.DrawTicket) ∷ (1, e.TakeBlock 0 0 true) ∷ (2, e.TakeBlock 0 0 true)
    ∷ (1, e.Initialize 806 1 0 0) ∷ (2, e.TakeBlock 1 0 true) ∷ (2, e.Initialize 4902 0 1 0)
    ∷ (1, e.Initialize 806 1 0 1) ∷ (2, e.Initialize 4902 0 1 1) ∷ (2, e.Poll)
    ∷ (2, e.Initialize 4902 0 1 2)
    ∷ (1, e.Initialize 806 1 0 2) ∷ (1, e.Initialize 806 1 0 3) ∷ (2, e.Initialize 4902 0 1 3)
    ∷ (2, e.Perform (c.New 0 0 1)) ∷ (1, e.Raise) ∷ (1, e.Perform (c.New 0 1 0))
    ∷ (2, e.Perform (c.Share 3 0))
    ∷ (1, e.Perform (c.Load 1 3)) ∷ (1, e.LoadShape 0) ∷ (1, e.Perform (c.Put 0 0 1)) ∷ (2, e.Poll)
    ∷ (1, e.Perform (c.Get 2 0 0))
    ∷ []

abbrev pub mixed_log : List LogEntry
mixed_log = log_of empty_epoch (first_machine empty_epoch) mixed_events
