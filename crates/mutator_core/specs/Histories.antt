-- Logs of steps, and the public history of a log.
use Rattle.std.specs.Prelude.{◌≡◌, ℕ, if◌then◌else◌, nat_eq, Option, Some, None, List, [], ◌∷◌, ◌++◌}
use Rattle.std.specs.List.{Contains}
use Rattle.ideal_heap.specs.declared.command.Command.{Command}
use Rattle.ideal_heap.specs.declared.reply.Reply.{Reply}
use Rattle.ideal_heap.specs.declared.reply.Reply.TheVariants as r
use Rattle.ideal_heap.specs.Runs.{Entry, entry}
use Rattle.object_model.specs.Objects.{HeapState, name_at}
use Rattle.object_model.specs.Graphs.{numbers_of}
use Rattle.mutator_core.specs.declared.state.Event.{Event}
use Rattle.mutator_core.specs.declared.state.Event.TheVariants as e
use Rattle.mutator_core.specs.declared.state.Answer.{Answer}
use Rattle.mutator_core.specs.declared.state.Answer.TheVariants.{Plain, Reference}
use Rattle.mutator_core.specs.declared.state.LogEntry.{LogEntry}
use Rattle.mutator_core.specs.Machine.{Epoch, Machine, next, answer_at, heap_in}
use Rattle.mutator_core.specs.Guards.{MayStep}

-- the machine after a log, from the machine h on
abbrev pub after : Epoch → Machine → List LogEntry → Machine
after p h [] = h
after p h (x ∷ xs) = after p (next p h x.mutator x.event) xs

-- each step is made by one of the epoch's mutators, which may make it, and its answer is the
-- machine's
abbrev pub IsLog : Epoch → Machine → List LogEntry → Type 0
IsLog p h [] = Unit {0}
IsLog p h (x ∷ xs) = Contains (numbers_of p.mutators) x.mutator
    × MayStep p (h.locals x.mutator) x.event
    × (x.answer ≡ answer_at p h x.mutator x.event)
    × IsLog p (next p h x.mutator x.event) xs

-- the command whose entry an event makes, if any
abbrev pub entry_of : Event → Option Command
entry_of (e.Perform command) = Some command
entry_of (e.Miss command) = Some command
-- no other step makes an entry
entry_of _ = None

-- the reply for an answer: an address becomes the name of its object
abbrev pub reply_in : HeapState → Answer → Reply
reply_in s (Plain reply) = reply
reply_in s (Reference v) = if nat_eq v 0 then r.Nil else r.Ref (name_at s v)

-- the entry of mutator m for a command, if any
abbrev pub entries_with : ℕ → Option Command → Reply → List Entry
entries_with m None reply = []
entries_with m (Some command) reply = entry m command reply ∷ []

-- the entries that a step makes: one or none
abbrev pub entries_of : HeapState → LogEntry → List Entry
entries_of s x = entries_with x.mutator (entry_of x.event) (reply_in s x.answer)

-- the history of a log, with the names that objects have at each step
abbrev pub history : Epoch → Machine → List LogEntry → List Entry
history p h [] = []
history p h (x ∷ xs) = entries_of (heap_in p h) x ++ history p (next p h x.mutator x.event) xs
