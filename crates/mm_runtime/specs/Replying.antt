-- Replies `ok` to some of the mutators.
use Rattle.std.specs.Prelude.{◌≡◌, ℕ, ◌<◌, ◌≤◌, Bool, true, false, Option, None, Some, List, length, slice_get}
use Rattle.ideal_heap.specs.declared.command.Command.{Command}
use Rattle.ideal_heap.specs.declared.reply.Reply.TheVariants as r
use Rattle.sessions.specs.Sessions.{is_at_gc, is_at_meet}
use Rattle.mm_runtime.specs.declared.progress.Progress.{Progress}
use Rattle.mm_runtime.specs.declared.progress.PartEnd.{PartEnd}
use Rattle.mm_runtime.specs.declared.progress.PartEnd.TheVariants as end
use Rattle.mm_runtime.specs.Managers.{next_in_trace, IsProgress}
use Rattle.mm_runtime.specs.Parts.{cause_of}
use Rattle.mm_runtime.specs.Stops.{with_reply}

-- one more reply, `ok`
pub record GetsOk (before after : Progress) : Type 0 where
  pub trace : after.trace ≡ before.trace
  pub replies : after.replies.items ≡ with_reply before r.Done
  pub order : IsProgress after

abbrev pub GetsOkIf : Bool → Progress → Progress → Type 0
GetsOkIf true before after = GetsOk before after
GetsOkIf false before after = after ≡ before

-- the next command of the mutator at place k, if there is one
abbrev pub next_if : Option Progress → Option Command
next_if None = None
next_if (Some p) = next_in_trace p

abbrev pub next_at : List Progress → ℕ → Option Command
next_at ps k = next_if (slice_get ps k)

-- the part of the mutator at place k ended at `gc`
abbrev pub is_gc_at : List PartEnd → ℕ → Bool
is_gc_at ends k = is_at_gc (cause_of (slice_get ends k))

-- some mutator's part ended at `gc`
abbrev pub HasGc : List PartEnd → Type 0
HasGc ends = (k : ℕ) × (slice_get ends k ≡ Some end.Gc)

-- the mutator at place k is at `meet`
abbrev pub is_meet_at : List Progress → ℕ → Bool
is_meet_at ps k = is_at_meet (next_at ps k)

-- Of the mutators before place i, each chosen one gets one more reply, `ok`. All else is unchanged.
pub record RepliesBelow (chosen : ℕ → Bool) (i : ℕ) (old new : List Progress) : Type 0 where
  pub count : length new ≡ length old
  pub below : (k : ℕ) (p : Progress) → k < i → slice_get old k ≡ Some p
      → (after : Progress) × (slice_get new k ≡ Some after) × GetsOkIf (chosen k) p after
  pub above : (k : ℕ) → i ≤ k → slice_get new k ≡ slice_get old k
