-- The end of a world.
use Rattle.std.specs.Prelude.{◌≡◌, ℕ, ◌+◌, ◌<◌, ◌≤◌, ◌⊎◌, true, IsTrue, Some, List, [], ◌∷◌, ◌++◌, length, map, sum_by}
use Rattle.std.specs.List.{Contains}
use mathlib.Core.List.{IsPrefix}
use mathlib.Core.Option.{some}
use lib.ListN.{get_elem?}
use Rattle.heap_layout.specs.declared.block.Kind.TheVariants as kinds
use Rattle.heap_layout.specs.declared.layout.TheConstants.{BUDGET_WORD, STOP_WORD}
use Rattle.ideal_heap.specs.Ideal.{IdealHeap}
use Rattle.ideal_heap.specs.Runs.{Entry}
use Rattle.object_model.specs.Objects.{HeapState, HasKind, word_at}
use Rattle.object_model.specs.Graphs.{MutatorState, Represents, numbers_of}
use Rattle.sessions.specs.Fitting.{free_of}
use Rattle.sessions.specs.Plans.{Rules}
use Rattle.sessions.specs.Collecting.{is_logged_under}
use Rattle.sessions.specs.Sessions.{Stopped}
use Rattle.mutator_core.specs.declared.state.Event.TheVariants as event
use Rattle.mutator_core.specs.declared.state.LogEntry.{LogEntry}
use Rattle.mutator_core.specs.Machine.{Epoch, mutator_of}
use Rattle.mutator_core.specs.Guards.{allowance}
use Rattle.mutator_core.specs.Logs.{heap_after}
use Rattle.mutator_core.specs.Seen.{HasSeenUsed}
use Rattle.mutator_core.specs.Tickets.{smaller, tickets_below}
use Rattle.mutator_rule.specs.declared.seat.MutatorSeat.{MutatorSeat}
use Rattle.mutator_rule.specs.Views.{entries_by}
use Rattle.mutator_rule.specs.Seats.{known, local_of}
use Rattle.racing_mutator.specs.RacingSeats.{logged_at}
use Rattle.racing_world.specs.Calls.{history_at, calls_of, number_of, stop_seen, has_raised}

-- the mutator of a seat, as it stands
abbrev pub mutator_at : MutatorSeat → MutatorState
mutator_at seat = mutator_of (local_of seat)

-- the seat at a place of the list
abbrev pub IsSeatAt : List MutatorSeat → ℕ → MutatorSeat → Type 0
IsSeatAt seats k seat = get_elem? seats k ≡ some seat

-- A step of the seat's mutator drew the ticket: the budget word, as the step found it.
pub record HasDrawn (p : Epoch) (seat : MutatorSeat) (ticket : ℕ) : Type 0 where
  pub before : List LogEntry
  pub step : LogEntry
  pub seen : IsPrefix (before ++ step ∷ []) (known seat).seen
  pub own : step.mutator ≡ number_of seat
  pub draws : step.event ≡ event.DrawTicket
  pub word : word_at (heap_after p before) BUDGET_WORD ≡ ticket

-- The epoch ends with this heap and these mutators, after the closing history: the longest that a
-- seat has seen.
pub record EndsEpoch (rules : Rules) (p : Epoch) (seats : List MutatorSeat) (new : HeapState)
    (ms : List MutatorState) : Type 0 where
  pub history : List Entry
  pub longest : (k : ℕ) × (seat : MutatorSeat) × IsSeatAt seats k seat
      × (history_at rules seat ≡ history)
  -- the mutators are those of the seats
  pub mutators : ms ≡ map mutator_at seats
  -- each seat has seen a beginning of it, and its calls are the mutator's entries in it
  pub prefixes : (k : ℕ) (seat : MutatorSeat) → IsSeatAt seats k seat
      → IsPrefix (history_at rules seat) history
  pub calls : (k : ℕ) (seat : MutatorSeat) → IsSeatAt seats k seat
      → entries_by (number_of seat) history ≡ calls_of rules seat
  -- the heap is a stopped heap for every ideal heap that the epoch began with
  pub stopped : (i : IdealHeap) → Represents p.before p.mutators i
      → Stopped rules (numbers_of p.mutators) p.before i history new ms
  pub size : new.blocks ≡ p.before.blocks
  -- an object that is logged was so as the epoch began, or a seat logged it
  pub logged : (a : ℕ) → IsTrue (is_logged_under rules new a)
      → IsTrue (is_logged_under rules p.before a)
      ⊎ ((k : ℕ) × (seat : MutatorSeat) × IsSeatAt seats k seat × Contains (logged_at rules seat) a)
  -- Each ticket that a mutator drew, used or not, is below the budget word, which is at most the
  -- allowance and the number of mutators together. The blocks that were Free and are no more, and
  -- the unused tickets below the allowance, are as many as the smaller of budget word and allowance.
  pub budget : ℕ
  pub budget_word : word_at new BUDGET_WORD ≡ budget
  pub most : budget ≤ allowance p + length (numbers_of p.mutators)
  pub drawn : (k t : ℕ) (seat : MutatorSeat) → IsSeatAt seats k seat
      → (local_of seat).ticket ≡ Some t → t < budget
  pub tickets : (k t : ℕ) (seat : MutatorSeat) → IsSeatAt seats k seat → HasDrawn p seat t
      → t < budget
  pub counted : free_of p.before
      + sum_by (λ seat. tickets_below (allowance p) (local_of seat).ticket) seats
      ≡ free_of new + smaller budget (allowance p)
  -- a block that a seat saw as not Free is not Free
  pub seen : (k block : ℕ) (seat : MutatorSeat) → IsSeatAt seats k seat
      → HasSeenUsed (local_of seat) block → HasKind new block kinds.Free → ⊥
  -- all stops that seats have seen are the one in the stop word, which the seat of its mutator
  -- raised
  pub stop : ℕ
  pub stop_word : word_at new STOP_WORD ≡ stop
  pub stops : (k : ℕ) (seat : MutatorSeat) → IsSeatAt seats k seat → 0 < stop_seen seat
      → stop_seen seat ≡ stop
  pub raised : 0 < stop → (k : ℕ) × (seat : MutatorSeat) × IsSeatAt seats k seat
      × (number_of seat ≡ stop) × (has_raised seat ≡ true)
