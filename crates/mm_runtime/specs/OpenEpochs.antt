-- An epoch whose mutators run on threads, with the manager at which it was opened.
use Rattle.std.specs.Prelude.{◌≡◌, ℕ, ◌+◌, None, Some, List, map, length, slice_get, unwrap_or}
use Rattle.object_model.specs.Heaps.{heap_state}
use Rattle.sessions.specs.Plans.{Rules}
use Rattle.sessions.specs.Sessions.{IsEpoch, Setting, Moment, RunsPart}
use Rattle.heap_users.specs.Users.{mutator_state}
use Rattle.heap_users.specs.Beginnings.{epoch_of}
use Rattle.managed_heap.specs.declared.stopped_heap.StoppedHeap.{StoppedHeap}
use Rattle.mutator_rule.specs.declared.seat.MutatorSeat.{MutatorSeat}
use Rattle.racing_world.specs.declared.world.World.{World}
use Rattle.racing_world.specs.Calls.{epoch_of_world, calls_of}
use Rattle.mm_runtime.specs.declared.progress.Progress.{Progress}
use Rattle.mm_runtime.specs.declared.progress.PartEnd.{PartEnd}
use Rattle.mm_runtime.specs.declared.progress.PartEnd.TheVariants as end
use Rattle.mm_runtime.specs.declared.seat_part.Part.{Part}
use Rattle.mm_runtime.specs.declared.epochs.Epoch.{Epoch}
use Rattle.mm_runtime.specs.declared.manager.Manager.{Manager}
use Rattle.mm_runtime.specs.Managers.{Closes, StandsAt}
use Rattle.mm_runtime.specs.Parts.{RepliesGrow, causes}
use Rattle.mm_runtime.specs.SeatParts.{IsPartOf}

-- The trace of the part stood so as the epoch began, and has since got the replies to the calls of
-- the part's seat.
abbrev pub RepliesSince : Rules → Progress → Part → Type 0
RepliesSince rules before p = RepliesGrow p.mutator (calls_of rules p.seat) before p.progress

-- the seat and the trace of a part, and how it ended, if it has
abbrev pub seat_of : Part → MutatorSeat
seat_of p = p.seat

abbrev pub trace_in : Part → Progress
trace_in p = p.progress

abbrev pub end_of : Part → PartEnd
end_of p = unwrap_or p.end end.Trace

-- From the one state to the other a part was run to its end, if it had not ended.
pub record RunsToEnd {P : Type 0} (rules : Rules) (w : World P) (old new : Part) : Type 0 where
  pub part : IsPartOf rules w new
  pub ended : new.end ≡ None → ⊥
  pub mutator : new.mutator ≡ old.mutator
  pub since : (before : Progress) → RepliesSince rules before old → RepliesSince rules before new

-- so was each of these parts
pub record RunsAll {P : Type 0} (rules : Rules) (w : World P) (old new : List Part) : Type 0 where
  pub count : length new ≡ length old
  pub each : (k : ℕ) (p q : Part) → slice_get old k ≡ Some p → slice_get new k ≡ Some q
      → RunsToEnd rules w p q

-- the epoch began with this stopped heap
pub record BeganWith {P : Type 0} (rules : Rules) (old : StoppedHeap P) (e : Epoch P) : Type 0 where
  pub epoch : epoch_of_world rules e.world
      ≡ epoch_of rules (heap_state old.heap) (map mutator_state old.mutators.items)
  pub notes : e.notes ≡ old.notes
  pub nursery : e.nursery ≡ old.nursery
  pub full : e.full ≡ old.full
  pub workers : e.workers ≡ old.workers

-- The epoch was opened at this manager, and these are its parts, one for each mutator.
pub record IsEpochOf {P : Type 0} (rules : Rules) (old : Manager P) (e : Epoch P)
    (parts : List Part) : Type 0 where
  pub began : BeganWith rules old.heap e
  pub count : length parts ≡ length old.progress.items
  pub each : (k : ℕ) (p : Part) → slice_get parts k ≡ Some p
      → IsPartOf rules e.world p × (p.mutator ≡ k + 1)
  pub replies : (k : ℕ) (before : Progress) (p : Part)
      → slice_get old.progress.items k ≡ Some before → slice_get parts k ≡ Some p
      → RepliesSince rules before p

-- An epoch that began at the one manager ended its parts so, and the other stands there.
abbrev pub EndsParts : {P : Type 0} → Rules → Manager P → List PartEnd → Manager P → Type 0
EndsParts rules old ends new = (t : Setting) (now : Moment) → Closes rules old t now
    → (stop : Moment) × RunsPart t now (causes ends) stop × StandsAt rules new t stop

-- In every session that the one manager closes, one epoch more leads to the other.
abbrev pub MakesEpoch : {P : Type 0} → Rules → Manager P → Manager P → Type 0
MakesEpoch rules old new = (t : Setting) (now : Moment) → Closes rules old t now
    → (next : Moment) × IsEpoch t now next × Closes rules new t next
