-- What the calls of a world promise.
use Rattle.std.specs.Prelude.{◌≡◌, ℕ, ◌<◌, Bool, true, false, Some, None, slice_get, List, [], ◌∷◌, ◌++◌}
use mathlib.Core.List.{IsPrefix}
use Rattle.ideal_heap.specs.Ideal.{IdealHeap}
use Rattle.ideal_heap.specs.Runs.{Entry, entry, IsRun}
use Rattle.ideal_heap.specs.declared.command.Command.{Command}
use Rattle.ideal_heap.specs.declared.reply.Reply.{Reply}
use Rattle.object_model.specs.Graphs.{Represents}
use Rattle.sessions.specs.Plans.{Rules}
use Rattle.mutator_core.specs.declared.state.Event.TheVariants as event
use Rattle.mutator_core.specs.Machine.{Epoch}
use Rattle.mutator_rule.specs.declared.seat.MutatorSeat.{MutatorSeat}
use Rattle.mutator_rule.specs.Views.{epoch_with, entries_by}
use Rattle.mutator_rule.specs.Logs.{MakesStep, history_seen, own_entries}
use Rattle.mutator_rule.specs.Seats.{known, local_of, start_of}
use Rattle.racing_world.specs.declared.world.World.{World}
use Rattle.racing_mutator.specs.RacingSeats.{MayCall, holdings}
use Rattle.racing_rooms.specs.NoRoom.{regions_at}

-- the history that the seat has seen: entries of all mutators
abbrev pub history_at : Rules → MutatorSeat → List Entry
history_at rules seat = history_seen rules (known seat)

-- the seat's own calls: its entries in the history that it has seen
abbrev pub calls_of : Rules → MutatorSeat → List Entry
calls_of rules seat = own_entries rules (known seat)

-- the mutator's number, the stop word as it last polled it, and whether it tried to raise a stop
abbrev pub number_of : MutatorSeat → ℕ
number_of seat = (local_of seat).number

abbrev pub stop_seen : MutatorSeat → ℕ
stop_seen seat = (local_of seat).stop

abbrev pub has_raised : MutatorSeat → Bool
has_raised seat = (local_of seat).raised

-- The call made one step: a load of the stop word, which found this number.
abbrev pub LoadsStop : Rules → MutatorSeat → ℕ → MutatorSeat → Type 0
LoadsStop rules old found new = MakesStep rules (known old) event.Poll found (known new)

-- The seat as its epoch begins: it has seen no step of anyone, so it has no call, ticket or stop,
-- tried to raise none, and has no flag set.
pub record IsFresh (rules : Rules) (seat : MutatorSeat) : Type 0 where
  pub steps : (known seat).seen ≡ []
  pub history : history_at rules seat ≡ []
  pub calls : calls_of rules seat ≡ []
  pub stop : stop_seen seat ≡ 0
  pub raised : has_raised seat ≡ false
  pub ticket : (local_of seat).ticket ≡ None
  pub flags : (k : ℕ) → slice_get seat.notes.flags.items k ≡ Some true → ⊥

module _ {P : Type 0} where
  -- the epoch of the world: its plan's rules, and heap and mutators as it began
  abbrev pub epoch_of_world : Rules → World P → Epoch
  epoch_of_world rules w = epoch_with rules (start_of w.row)

  -- The seat has seen more steps, and so more of the one history. What it has seen is a run from
  -- every ideal heap that heap and mutators represented as the epoch began. A stop that it has seen
  -- stands.
  pub record SeesMore (rules : Rules) (w : World P) (old : MutatorSeat) (since : List Entry)
      (new : MutatorSeat) : Type 0 where
    pub call : MayCall rules w.row new
    pub number : number_of new ≡ number_of old
    pub steps : IsPrefix (known old).seen (known new).seen
    pub history : history_at rules new ≡ history_at rules old ++ since
    pub run : (i : IdealHeap)
        → Represents (epoch_of_world rules w).before (epoch_of_world rules w).mutators i
        → IsRun i (history_at rules new)
    pub stop : 0 < stop_seen old → stop_seen new ≡ stop_seen old

  -- A call of the seat entered the command with this reply, once: others made the entries before it
  -- and after it that the seat has seen since.
  pub record EntersOnce (rules : Rules) (w : World P) (old : MutatorSeat) (command : Command)
      (reply : Reply) (new : MutatorSeat) : Type 0 where
    pub before : List Entry
    pub after : List Entry
    pub sees : SeesMore rules w old (before ++ entry (number_of old) command reply ∷ after) new
    pub others_before : entries_by (number_of old) before ≡ []
    pub others_after : entries_by (number_of old) after ≡ []
    pub calls : calls_of rules new
        ≡ calls_of rules old ++ entry (number_of old) command reply ∷ []
    pub raised : has_raised new ≡ has_raised old

  -- The same of a command that allocates nothing. The mutator's regions stay, too.
  abbrev pub EntersCommand : Rules → World P → MutatorSeat → Command → Reply → MutatorSeat → Type 0
  EntersCommand rules w old command reply new = EntersOnce rules w old command reply new
      × (holdings (local_of new) ≡ holdings (local_of old))
      × (regions_at new ≡ regions_at old)

  -- A call of the seat entered nothing: others made what it has seen since.
  pub record EntersNothing (rules : Rules) (w : World P) (old new : MutatorSeat) : Type 0 where
    pub since : List Entry
    pub sees : SeesMore rules w old since new
    pub others : entries_by (number_of old) since ≡ []
    pub calls : calls_of rules new ≡ calls_of rules old
