-- A mutator's part of an epoch, on the world that it runs in.
use Rattle.std.specs.List.{AllByRecursion}
use Rattle.std.specs.Prelude.{◌≡◌, ◌≢◌, ℕ, zero, suc, ◌+◌, ◌<◌, ◌≤◌, ◌⊎◌, Bool, true, false, ◌||◌, not, Option, Some, None, List, [], ◌∷◌, ◌++◌, map, length, take, slice_get}
use Rattle.heap_layout.specs.declared.block.Kind.TheVariants as kinds
use Rattle.ideal_heap.specs.declared.command.Command.{Command}
use Rattle.ideal_heap.specs.declared.command.Command.TheVariants as c
use Rattle.ideal_heap.specs.Commands.{is_new, is_gc, is_meet}
use Rattle.ideal_heap.specs.declared.reply.Reply.{Reply}
use Rattle.ideal_heap.specs.Runs.{Entry, entry, commands_of, replies_of}
use Rattle.object_model.specs.Objects.{has_kind, size_of}
use Rattle.object_model.specs.declared.shape.TheConstants.{MAX_MEDIUM_WORDS}
use Rattle.sessions.specs.Plans.{Rules}
use Rattle.sessions.specs.Sessions.{Cause, AtGc, AtMeet, AtEnd, AtNeed, Raised}
use Rattle.mutator_calls.specs.declared.need.Need.{Need}
use Rattle.mutator_calls.specs.Effects.{Answered}
use Rattle.managed_heap.specs.Worlds.{PlainWorld, births_in, heap_of_world, mutator_number_at, births_at, ticket_at, stop_word, epoch_allowance, IsOpen, SamePlaces, AddsEntries}
use Rattle.stored_replies.specs.Replies.{Replies}
use Rattle.mm_runtime.specs.declared.progress.Progress.{Progress}
use Rattle.mm_runtime.specs.declared.progress.PartEnd.{PartEnd}
use Rattle.mm_runtime.specs.declared.progress.PartEnd.TheVariants as end
use Rattle.mm_runtime.specs.Managers.{next_in_trace, IsProgress}

-- a command that allocates nothing and that no stop serves
abbrev pub is_quiet : Command → Bool
is_quiet command = not (is_new command || is_gc command || is_meet command)

-- The mutator at place m got these replies to its commands. Nothing else is in the history, the
-- tickets and births of the other mutators are unchanged, and no block became Free.
pub record AnswersMutator {P : Type 0} (rules : Rules) (old : PlainWorld P) (m : ℕ)
    (es : List Answered)
    (new : PlainWorld P) : Type 0 where
  pub is_open : IsOpen rules new
  pub places : SamePlaces old new
  pub history : AddsEntries old
      (map (λ e. entry (mutator_number_at old m) e.command e.reply) es) new
  pub births : births_at new m ≡ births_at old m + births_in es
  pub others : (k : ℕ) → k ≢ m → (ticket_at new k ≡ ticket_at old k)
      × (births_at new k ≡ births_at old k)
  pub blocks : (heap_of_world new).blocks ≡ (heap_of_world old).blocks
  pub free : (k : ℕ) → has_kind (heap_of_world new) k kinds.Free ≡ true
      → has_kind (heap_of_world old) k kinds.Free
      ≡ true
  pub allowance : epoch_allowance new ≡ epoch_allowance old

-- the mutator at place m has a ticket that is not below the allowance
abbrev pub IsExhausted : {P : Type 0} → PlainWorld P → ℕ → Type 0
IsExhausted w m = (t : ℕ) × (ticket_at w m ≡ Some t) × (epoch_allowance w ≤ t)

-- Why a part ends whose mutator, at place m, has this next command. The stop word was `before` and
-- is that of the world now.
abbrev pub EndsFor : {P : Type 0} → ℕ → PlainWorld P → ℕ → Option Command → PartEnd → Type 0
EndsFor before w m next end.Gc = (next ≡ Some c.Gc) × (stop_word w ≡ mutator_number_at w m)
EndsFor before w m next end.Meet = (next ≡ Some c.Meet) × (stop_word w ≡ before)
EndsFor before w m next end.Trace = (next ≡ None) × (stop_word w ≡ before)
EndsFor before w m next (end.Need need) = (next ≡ Some (c.New need.register need.refs need.nums))
    × (stop_word w ≡ mutator_number_at w m)
    × (size_of need.refs need.nums ≤ MAX_MEDIUM_WORDS → IsExhausted w m)
EndsFor before w m next (end.Raised by) = (next ≢ None) × (0 < by) × (before ≡ by)
    × (stop_word w ≡ by)

-- the mutator at place m got one reply to this command, which goes to the end of its replies
pub record GetsReply {P : Type 0} (rules : Rules) (old : PlainWorld P) (m : ℕ) (command : Command)
    (before : Replies)
    (new : PlainWorld P) (after : Replies) : Type 0 where
  pub reply : Reply
  pub answers : AnswersMutator rules old m (record { command = command; reply = reply } ∷ []) new
  pub items : after.items ≡ before.items ++ reply ∷ []
  pub capacity : after.capacity ≡ before.capacity
  pub stop : stop_word new ≡ stop_word old

-- the part of the mutator at place m ends at this command, and it gets no reply
pub record EndsPart {P : Type 0} (rules : Rules) (old : PlainWorld P) (m : ℕ) (command : Command)
    (before : Replies)
    (new : PlainWorld P) (after : Replies) (end : PartEnd) : Type 0 where
  pub answers : AnswersMutator rules old m [] new
  pub replies : after ≡ before
  pub cause : EndsFor (stop_word old) new m (Some command) end

-- The part of the mutator at place m from one world to the other: its replies go to those of its
-- trace.
pub record RunsTrace {P : Type 0} (rules : Rules) (old : PlainWorld P) (m : ℕ) (before : Progress)
    (new : PlainWorld P)
    (after : Progress) : Type 0 where
  pub answered : List Answered
  pub answers : AnswersMutator rules old m answered new
  pub trace : after.trace ≡ before.trace
  pub replies : after.replies.items ≡ before.replies.items ++ map (λ e. e.reply) answered
  pub commands : take (length after.replies.items) after.trace
      ≡ take (length before.replies.items) before.trace ++ map (λ e. e.command) answered

-- the mutator with this number got these replies to its commands in the part
pub record RepliesGrow (number : ℕ) (part : List Entry) (before after : Progress) : Type 0 where
  pub trace : after.trace ≡ before.trace
  pub replies : after.replies.items ≡ before.replies.items ++ replies_of number part
  pub commands : take (length after.replies.items) after.trace
      ≡ take (length before.replies.items) before.trace ++ commands_of number part

-- a mutator at `gc` or at a need raises a stop
abbrev pub raises_stop : PartEnd → Bool
raises_stop end.Gc = true
raises_stop end.Meet = false
raises_stop end.Trace = false
raises_stop (end.Need need) = true
raises_stop (end.Raised by) = false

-- the number is that of a mutator whose end raises a stop
pub record EndRaisesStop (ends : List PartEnd) (number : ℕ) : Type 0 where
  pub place : ℕ
  pub end : PartEnd
  pub is : slice_get ends place ≡ Some end
  pub raises : raises_stop end ≡ true
  pub number_is : number ≡ place + 1

-- Why the part of the mutator at place m ended, whose next command is this, if the parts of the
-- mutators ended so, and the mutators at the places `spent` have a ticket that is not below the
-- allowance.
abbrev pub EndedFor : (ℕ → Type 0) → List PartEnd → ℕ → Option Command → PartEnd → Type 0
EndedFor spent ends m next end.Gc = next ≡ Some c.Gc
EndedFor spent ends m next end.Meet = next ≡ Some c.Meet
EndedFor spent ends m next end.Trace = next ≡ None
EndedFor spent ends m next (end.Need need) =
    (next ≡ Some (c.New need.register need.refs need.nums))
    × (size_of need.refs need.nums ≤ MAX_MEDIUM_WORDS → spent m)
EndedFor spent ends m next (end.Raised by) = (next ≢ None) × EndRaisesStop ends by

-- The parts of the first n mutators, whose numbers are their places counted from 1.
pub record RunsParts {P : Type 0} (rules : Rules) (old : PlainWorld P) (before : List Progress)
    (n : ℕ) (ends : List PartEnd) (new : PlainWorld P)
    (after : List Progress) : Type 0 where
  pub is_open : IsOpen rules new
  pub places : SamePlaces old new
  pub part : List Entry
  pub history : AddsEntries old part new
  pub mutators : AllByRecursion (λ e. (1 ≤ e.mutator) × (e.mutator ≤ n)) part
  pub count : length after ≡ length before
  pub ended : length ends ≡ n
  pub grows : (k : ℕ) (p q : Progress) → slice_get before k ≡ Some p → slice_get after k ≡ Some q
      → RepliesGrow (k + 1) part p q
  pub each : (k : ℕ) (q : Progress) → slice_get after k ≡ Some q → IsProgress q
  pub births : (k : ℕ) (q : Progress) → slice_get after k ≡ Some q
      → births_at new k ≤ length q.replies.items
  pub causes : (k : ℕ) (q : Progress) (e : PartEnd) → slice_get after k ≡ Some q
      → slice_get ends k ≡ Some e
      → EndedFor (IsExhausted new) ends k (next_in_trace q) e
  pub stop : (stop_word new ≡ 0) ⊎ EndRaisesStop ends (stop_word new)

-- the cause of the definitions
abbrev pub cause_of : Option PartEnd → Cause
cause_of None = AtEnd
cause_of (Some end.Gc) = AtGc
cause_of (Some end.Meet) = AtMeet
cause_of (Some end.Trace) = AtEnd
cause_of (Some (end.Need need)) = AtNeed
cause_of (Some (end.Raised by)) = Raised by

-- the causes of some mutators' ends, by their numbers
abbrev pub causes : List PartEnd → ℕ → Cause
causes ends zero = AtEnd
causes ends (suc k) = cause_of (slice_get ends k)

-- a mutator whose part ended at `gc` or at a need has that command next
abbrev pub AreGcs : List Progress → List PartEnd → Type 0
AreGcs ps ends = (k : ℕ) (p : Progress) → slice_get ps k ≡ Some p → slice_get ends k ≡ Some end.Gc
    → next_in_trace p ≡ Some c.Gc

abbrev pub AreNeeds : List Progress → List PartEnd → Type 0
AreNeeds ps ends = (k : ℕ) (p : Progress) (need : Need) → slice_get ps k ≡ Some p
    → slice_get ends k ≡ Some (end.Need need)
    → next_in_trace p ≡ Some (c.New need.register need.refs need.nums)
