-- A manager and the session that it runs.
use Rattle.std.specs.Prelude.{◌≡◌, ℕ, ◌+◌, ◌-◌, ◌*◌, ◌≤◌, Option, Some, None, List, [], map, length, take, All, sum_by, slice_get}
use Rattle.std.specs.List.{AllByRecursion, range_with_len}
use Rattle.ideal_heap.specs.declared.command.Command.{Command}
use Rattle.ideal_heap.specs.declared.command.TheConstants.{MAX_MUTATORS}
use Rattle.ideal_heap.specs.Commands.{IsValid}
use Rattle.ideal_heap.specs.Runs.{Entry, IsMutator, commands_of, replies_of}
use Rattle.object_model.specs.Objects.{HeapState, global_at}
use Rattle.heap_layout.specs.declared.layout.TheConstants.{GLOBALS}
use Rattle.sessions.specs.Plans.{Rules}
use Rattle.sessions.specs.Sessions.{Setting, Moment, InSession}
use Rattle.mutator_calls.specs.declared.need.Mutator.{Mutator}
use Rattle.managed_heap.specs.Stopped as stopped
use Rattle.managed_heap.specs.Stopped.{collections_of}
use Rattle.mm_runtime.specs.declared.progress.Progress.{Progress}
use Rattle.mm_runtime.specs.declared.manager.Manager.{Manager}
use Rattle.mm_runtime.specs.declared.progress.TheConstants.{MAX_COMMANDS}

-- the command that comes next in a trace, None at its end
abbrev pub next_in_trace : Progress → Option Command
next_in_trace p = slice_get p.trace (length p.replies.items)

-- the traces of some mutators
abbrev pub traces_of : List Progress → List (List Command)
traces_of ps = map (λ p. p.trace) ps

-- the number of replies so far
abbrev pub replied : List Progress → ℕ
replied ps = sum_by (λ p. length p.replies.items) ps

-- the number of commands that have no reply yet
abbrev pub left : List Progress → ℕ
left ps = sum_by (λ p. length p.trace - length p.replies.items) ps

-- a trace of valid commands, which has at most as many replies as commands, and room for a reply to
-- each
pub record IsProgress (p : Progress) : Type 0 where
  pub valid : All IsValid p.trace
  pub few : length p.trace ≤ MAX_COMMANDS
  pub within : length p.replies.items ≤ length p.trace
  pub room : length p.trace ≤ p.replies.capacity

-- a trace that can be run
pub record IsRunnableTrace (trace : List Command) : Type 0 where
  pub valid : All IsValid trace
  pub few : length trace ≤ MAX_COMMANDS

-- a trace without replies, and with room for a reply to each command
pub record IsFresh (trace : List Command) (p : Progress) : Type 0 where
  pub trace_is : p.trace ≡ trace
  pub replies : p.replies.items ≡ []
  pub room : length trace ≤ p.replies.capacity

-- there is a mutator with this number
pub record IsMutatorOf {P : Type 0} (manager : Manager P) (m : ℕ) : Type 0 where
  pub least : 1 ≤ m
  pub most : m ≤ length manager.progress.items

-- The entries are those of the commands that have replies, and have these replies.
pub record HasReplies (ps : List Progress) (done : List Entry) : Type 0 where
  pub mutators : AllByRecursion (λ e. IsMutator (traces_of ps) e.mutator) done
  pub commands : (k : ℕ) (p : Progress) → slice_get ps k ≡ Some p
      → commands_of (k + 1) done ≡ take (length p.replies.items) p.trace
  pub replies : (k : ℕ) (p : Progress) → slice_get ps k ≡ Some p
      → replies_of (k + 1) done ≡ p.replies.items

-- What a manager keeps in order, whatever its session. A command causes at most two collections;
-- `more` of those made are for a command that has no reply yet.
pub record IsInOrder {P : Type 0} (rules : Rules) (more : ℕ) (m : Manager P) : Type 0 where
  pub heap : stopped.IsHeapInOrder rules m.heap
  pub some : 1 ≤ length m.progress.items
  pub few : length m.progress.items ≤ MAX_MUTATORS
  pub count : length m.heap.mutators.items ≡ length m.progress.items
  pub each : (k : ℕ) (p : Progress) → slice_get m.progress.items k ≡ Some p → IsProgress p
  pub births : (k : ℕ) (u : Mutator) (p : Progress) → slice_get m.heap.mutators.items k ≡ Some u
      → slice_get m.progress.items k ≡ Some p → u.births ≤ length p.replies.items
  pub collections : collections_of m.heap ≤ 2 * replied m.progress.items + more

-- The manager's heap stands at this moment, its replies are those of the moment, and its traces
-- those of the setting.
pub record StandsAt {P : Type 0} (rules : Rules) (m : Manager P) (t : Setting) (now : Moment)
    : Type 0 where
  pub heap : stopped.HeapStandsAt rules m.heap t now
  pub traces : t.traces ≡ traces_of m.progress.items
  pub replies : HasReplies m.progress.items now.done

-- the manager closes a session of this setting, at its last moment
pub record Closes {P : Type 0} (rules : Rules) (m : Manager P) (t : Setting) (now : Moment)
    : Type 0 where
  pub session : InSession t now
  pub stands : StandsAt rules m t now

-- the manager is at some moment of some setting
pub record IsAtStop {P : Type 0} (rules : Rules) (more : ℕ) (m : Manager P) : Type 0 where
  pub order : IsInOrder rules more m
  pub setting : Setting
  pub now : Moment
  pub stands : StandsAt rules m setting now

-- the manager closes some session
pub record ClosesSome {P : Type 0} (rules : Rules) (m : Manager P) : Type 0 where
  pub order : IsInOrder rules 0 m
  pub setting : Setting
  pub now : Moment
  pub closes : Closes rules m setting now

-- every command has its reply
abbrev pub HasEnded : {P : Type 0} → Manager P → Type 0
HasEnded m = (k : ℕ) (p : Progress) → slice_get m.progress.items k ≡ Some p → next_in_trace p ≡ None

-- the globals: addresses, or 0 for nil
abbrev pub globals_of : HeapState → List ℕ
globals_of s = map (global_at s) (range_with_len 0 GLOBALS)
