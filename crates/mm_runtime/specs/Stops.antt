-- What the steps of a stop do to a manager.
use Rattle.std.specs.Prelude.{◌≡◌, ◌≢◌, ℕ, ◌+◌, ◌≤◌, Some, List, [], ◌∷◌, ◌++◌, length, slice_get}
use Rattle.ideal_heap.specs.declared.command.Command.TheVariants as c
use Rattle.ideal_heap.specs.declared.name.Name.{Name}
use Rattle.ideal_heap.specs.declared.reply.Reply.{Reply}
use Rattle.sessions.specs.Sessions.{Setting, Moment, ServesNeed}
use Rattle.mutator_calls.specs.declared.need.Need.{Need}
use Rattle.managed_heap.specs.declared.place.Placed.{Placed}
use Rattle.managed_heap.specs.declared.place.Placed.TheVariants as placed
use Rattle.mm_runtime.specs.declared.progress.Progress.{Progress}
use Rattle.mm_runtime.specs.declared.progress.PartEnd.{PartEnd}
use Rattle.mm_runtime.specs.declared.progress.PartEnd.TheVariants as end
use Rattle.mm_runtime.specs.declared.manager.Manager.{Manager}
use Rattle.mm_runtime.specs.Managers.{next_in_trace, replied as replied_in}

-- the replies, and one more
abbrev pub with_reply : Progress → Reply → List Reply
with_reply p reply = p.replies.items ++ reply ∷ []

-- the mutator at place k gets one more reply, the others none
pub record RepliesAt (old new : List Progress) (k : ℕ) (reply : Reply) : Type 0 where
  pub count : length new ≡ length old
  pub before : Progress
  pub was : slice_get old k ≡ Some before
  pub after : Progress
  pub is : slice_get new k ≡ Some after
  pub trace : after.trace ≡ before.trace
  pub replies : after.replies.items ≡ with_reply before reply
  pub capacity : after.replies.capacity ≡ before.replies.capacity
  pub others : (j : ℕ) → j ≢ k → slice_get new j ≡ slice_get old j

-- mutator m, counted from 1, has this `new` next
abbrev pub NeedsNext : {P : Type 0} → Manager P → ℕ → Need → Type 0
NeedsNext manager m need = (1 ≤ m)
    × ((k : ℕ) → k + 1 ≡ m → (p : Progress) × (slice_get manager.progress.items k ≡ Some p)
    × (next_in_trace p ≡ Some (c.New need.register need.refs need.nums)))

-- mutator m, counted from 1, gets one more reply, the others none
abbrev pub RepliesTo : {P : Type 0} → Manager P → ℕ → Reply → Manager P → Type 0
RepliesTo old m reply new = (k : ℕ) → k + 1 ≡ m
    → RepliesAt old.progress.items new.progress.items k reply

-- one fact for an object placed, the other for a full heap
abbrev pub MatchPlaced : Placed → (Name → Type 0) → (ℕ → Type 0) → Type 0
MatchPlaced (placed.Placed n) P Q = P n
MatchPlaced (placed.HeapFull size) P Q = Q size

-- the end of the part of mutator m is served, if it is a need
abbrev pub ServesEnd : Setting → ℕ → PartEnd → Moment → Moment → Type 0
ServesEnd t m (end.Need need) before now =
    ServesNeed t m need.register need.refs need.nums before now
ServesEnd t m end.Gc before now = now ≡ before
ServesEnd t m end.Meet before now = now ≡ before
ServesEnd t m end.Trace before now = now ≡ before
ServesEnd t m (end.Raised by) before now = now ≡ before

-- Mutator m, counted from 1, may have other replies, in all no fewer than before. The others have
-- the same.
pub record AddsReply {P : Type 0} (old : Manager P) (m : ℕ) (new : Manager P) : Type 0 where
  pub count : length new.progress.items ≡ length old.progress.items
  pub others : (j : ℕ) → j + 1 ≢ m → slice_get new.progress.items j ≡ slice_get old.progress.items j
  pub replied : replied_in old.progress.items ≤ replied_in new.progress.items
