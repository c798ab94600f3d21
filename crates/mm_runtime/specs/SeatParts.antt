-- A mutator's part of an epoch, at its seat in a world that others share.
use Rattle.std.specs.Prelude.{◌≡◌, ◌≢◌, ℕ, ◌+◌, ◌<◌, ◌≤◌, false, Option, Some, None, List, [], ◌∷◌, ◌++◌, map, length, take}
use mathlib.Core.List.{IsPrefix}
use Rattle.ideal_heap.specs.declared.command.Command.{Command}
use Rattle.ideal_heap.specs.declared.command.Command.TheVariants as c
use Rattle.ideal_heap.specs.declared.reply.Reply.{Reply}
use Rattle.ideal_heap.specs.Runs.{entry}
use Rattle.object_model.specs.Objects.{size_of}
use Rattle.sessions.specs.Plans.{Rules}
use Rattle.mutator_core.specs.Machine.{first_machine}
use Rattle.mutator_calls.specs.declared.need.Need.{Need}
use Rattle.mutator_calls.specs.Effects.{Answered}
use Rattle.mutator_rule.specs.declared.seat.MutatorSeat.{MutatorSeat}
use Rattle.racing_world.specs.declared.world.World.{World}
use Rattle.racing_mutator.specs.RacingSeats.{MayCall}
use Rattle.racing_rooms.specs.NoRoom.{IsCauseFor}
use Rattle.racing_world.specs.Calls.{epoch_of_world, history_at, calls_of, number_of, stop_seen, has_raised, IsFresh}
use Rattle.stored_replies.specs.Replies.{Replies}
use Rattle.mm_runtime.specs.declared.progress.Progress.{Progress}
use Rattle.mm_runtime.specs.declared.progress.PartEnd.{PartEnd}
use Rattle.mm_runtime.specs.declared.progress.PartEnd.TheVariants as end
use Rattle.mm_runtime.specs.declared.seat_part.Part.{Part}
use Rattle.mm_runtime.specs.Managers.{next_in_trace, IsProgress}
use Rattle.mm_runtime.specs.Parts.{raises_stop}

-- The mutator of the seat got these replies to its commands. It has seen more of the one history,
-- in which its own calls are those of before and these.
pub record AnswersSeat {P : Type 0} (rules : Rules) (w : World P) (old : MutatorSeat)
    (es : List Answered) (new : MutatorSeat) : Type 0 where
  pub call : MayCall rules w.row new
  pub number : number_of new ≡ number_of old
  pub history : IsPrefix (history_at rules old) (history_at rules new)
  pub calls : calls_of rules new
      ≡ calls_of rules old ++ map (λ e. entry (number_of old) e.command e.reply) es

-- Each of these replies came after a poll that saw no stop raised.
abbrev pub RepliesUnstopped : {P : Type 0} → Rules → World P → MutatorSeat → List Answered
    → MutatorSeat → Type 0
RepliesUnstopped rules w old [] new = AnswersSeat rules w old [] new
RepliesUnstopped rules w old (e ∷ es) new = (polled : MutatorSeat) × (next : MutatorSeat)
    × AnswersSeat rules w old [] polled × (stop_seen polled ≡ 0)
    × AnswersSeat rules w polled (e ∷ []) next × RepliesUnstopped rules w next es new

-- the number of objects that mutator m had allocated as the epoch began
abbrev pub births_before : {P : Type 0} → Rules → World P → ℕ → ℕ
births_before rules w m = ((first_machine (epoch_of_world rules w)).locals m).births

-- The births of the seat's mutator before the epoch, and its calls since, are no more than its
-- replies.
abbrev pub HasFewBirths : {P : Type 0} → Rules → World P → MutatorSeat → List Reply → Type 0
HasFewBirths rules w seat replies =
    births_before rules w (number_of seat) + length (calls_of rules seat) ≤ length replies

-- why the seat's mutator could not allocate the object of this need
abbrev pub IsCauseAt : Rules → MutatorSeat → Need → Type 0
IsCauseAt rules seat need = IsCauseFor rules seat (size_of need.refs need.nums) need.cause

-- Why a part ends whose mutator, at this seat, has this next command. A stop that was raised is the
-- one that it polled.
abbrev pub SeatEndsFor : Rules → MutatorSeat → Option Command → PartEnd → Type 0
SeatEndsFor rules seat next end.Gc = next ≡ Some c.Gc
SeatEndsFor rules seat next end.Meet = next ≡ Some c.Meet
SeatEndsFor rules seat next end.Trace = next ≡ None
SeatEndsFor rules seat next (end.Need need) =
    (next ≡ Some (c.New need.register need.refs need.nums)) × IsCauseAt rules seat need
SeatEndsFor rules seat next (end.Raised by) = (next ≢ None) × (0 < by) × (stop_seen seat ≡ by)

-- the seat's mutator got one reply to this command, which goes to the end of its replies
pub record SeatGetsReply {P : Type 0} (rules : Rules) (w : World P) (old : MutatorSeat)
    (command : Command) (before : Replies) (new : MutatorSeat) (after : Replies) : Type 0 where
  pub reply : Reply
  pub answers : AnswersSeat rules w old (record { command = command; reply = reply } ∷ []) new
  pub items : after.items ≡ before.items ++ reply ∷ []
  pub capacity : after.capacity ≡ before.capacity
  pub raised : has_raised new ≡ has_raised old

-- The mutator polled, saw no stop raised, and got one reply to this command.
pub record SeatGoesOn {P : Type 0} (rules : Rules) (w : World P) (old : MutatorSeat)
    (command : Command) (before : Replies) (new : MutatorSeat) (after : Replies) : Type 0 where
  pub polled : MutatorSeat
  pub polls : AnswersSeat rules w old [] polled
  pub unstopped : stop_seen polled ≡ 0
  pub raised : has_raised polled ≡ has_raised old
  pub gets : SeatGetsReply rules w polled command before new after

-- The part of the seat's mutator ends at this command, and it gets no reply. It called `raise`
-- exactly if its end raises a stop.
pub record SeatEndsPart {P : Type 0} (rules : Rules) (w : World P) (old : MutatorSeat)
    (command : Command) (before : Replies) (new : MutatorSeat) (after : Replies) (end : PartEnd)
    : Type 0 where
  pub answers : AnswersSeat rules w old [] new
  pub replies : after ≡ before
  pub cause : SeatEndsFor rules new (Some command) end
  pub raised : has_raised old ≡ false → has_raised new ≡ raises_stop end

-- The part of a seat's mutator from one state to the other: its replies go to those of its trace.
pub record RunsSeat {P : Type 0} (rules : Rules) (w : World P) (old : MutatorSeat)
    (before : Progress) (new : MutatorSeat) (after : Progress) : Type 0 where
  pub answered : List Answered
  pub answers : AnswersSeat rules w old answered new
  pub unstopped : RepliesUnstopped rules w old answered new
  pub trace : after.trace ≡ before.trace
  pub replies : after.replies.items ≡ before.replies.items ++ map (λ e. e.reply) answered
  pub commands : take (length after.replies.items) after.trace
      ≡ take (length before.replies.items) before.trace ++ map (λ e. e.command) answered

-- How a part with this end stands: not run yet, so that its seat is as the epoch began, or ended
-- for its cause, in which case its seat called `raise` exactly if its end raises a stop.
abbrev pub IsEndOf : Rules → MutatorSeat → Option Command → Option PartEnd → Type 0
IsEndOf rules seat next None = IsFresh rules seat
IsEndOf rules seat next (Some end) =
    SeatEndsFor rules seat next end × (has_raised seat ≡ raises_stop end)

-- the part's end is that of its seat and trace
abbrev pub HasEndedFor : Rules → Part → Type 0
HasEndedFor rules p = IsEndOf rules p.seat (next_in_trace p.progress) p.end

-- The part belongs to an epoch with this world.
pub record IsPartOf {P : Type 0} (rules : Rules) (w : World P) (p : Part) : Type 0 where
  pub call : MayCall rules w.row p.seat
  pub number : number_of p.seat ≡ p.mutator
  pub order : IsProgress p.progress
  pub births : HasFewBirths rules w p.seat p.progress.replies.items
  pub ended : HasEndedFor rules p

-- a part that was run, of the same mutator
pub record RunsPartOf {P : Type 0} (rules : Rules) (w : World P) (old new : Part) : Type 0 where
  pub mutator : new.mutator ≡ old.mutator
  pub runs : RunsSeat rules w old.seat old.progress new.seat new.progress
