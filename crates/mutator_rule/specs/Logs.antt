-- One log of the steps of all mutators, and what each view says of it.
use Rattle.std.specs.Prelude.{◌≡◌, ◌⊎◌, ℕ, ◌+◌, ◌<◌, ◌≤◌, ◌^◌, length, List, [], ◌∷◌, ◌++◌, sum_by}
use Rattle.std.specs.List.{Contains}
use mathlib.Core.List.{IsPrefix}
use mathlib.Core.Option.{some}
use lib.ListN.{get_elem?}
use Rattle.atomic_table.specs.Table.{State, Me}
use Rattle.heap_layout.specs.Zones.{heap_of}
use Rattle.ideal_heap.specs.Ideal.{IdealHeap}
use Rattle.ideal_heap.specs.Runs.{Entry}
use Rattle.ideal_heap.specs.declared.command.TheConstants.{REGISTERS}
use Rattle.object_model.specs.Objects.{size_of}
use Rattle.object_model.specs.declared.shape.TheConstants.{HEADER_WORDS}
use Rattle.object_model.specs.Graphs.{AreDifferent, numbers_of}
use Rattle.sessions.specs.Plans.{Rules}
use Rattle.mutator_core.specs.declared.state.Local.{Local}
use Rattle.mutator_core.specs.declared.state.LogEntry.{LogEntry}
use Rattle.mutator_core.specs.declared.state.Event.{Event}
use Rattle.mutator_core.specs.Machine.{Epoch, answer, local_after, found, stored, address_in, refs_in, nums_in}
use Rattle.mutator_core.specs.Logs.{IsEpochLog, machine_after, local_after_log, history_of}
use Rattle.mutator_rule.specs.declared.views.EpochStart.{EpochStart}
use Rattle.mutator_rule.specs.declared.views.MutatorView.{MutatorView}
use Rattle.mutator_rule.specs.Views.{epoch_with, first_of, views_of, times_in, steps_by, entries_by}

-- how many views of all seats are the mutator's
abbrev pub times_dealt : ℕ → List (List MutatorView) → ℕ
times_dealt m seats = sum_by (λ (v : List MutatorView). views_of m v) seats

-- The mutator saw a beginning of the log, in which all its own steps stand, and its state is the
-- one after the log.
pub record AgreesWithLog (p : Epoch) (log : List LogEntry) (v : MutatorView) : Type 0 where
  pub prefix : IsPrefix v.seen log
  pub own : steps_by v.local.number log ≡ steps_by v.local.number v.seen
  pub local : v.local ≡ local_after_log p log v.local.number

-- the view is one of the epoch that began so, and agrees with the log
abbrev pub Agrees : Rules → EpochStart → List LogEntry → MutatorView → Type 0
Agrees rules g log v = (v.start ≡ g) × AgreesWithLog (epoch_with rules g) log v

-- The rule of the row: the words are those that one log of the epoch leaves. Each mutator of the
-- epoch has one view, and each view agrees with the log.
pub record HasOneLog (rules : Rules) (g : EpochStart) (s : State (Unit {0}) (List MutatorView))
    : Type 0 where
  pub log : List LogEntry
  pub ideal : IdealHeap
  pub epoch : IsEpochLog (epoch_with rules g) ideal log
  pub words : (machine_after (epoch_with rules g) log).words ≡ s.words
  pub differ : AreDifferent (numbers_of (epoch_with rules g).mutators)
  pub apart : (m : ℕ) → times_in m (numbers_of (epoch_with rules g).mutators) ≤ 1
  pub views : (m : ℕ) → times_dealt m s.views
      ≡ times_in m (numbers_of (epoch_with rules g).mutators)
  pub agree : (id : ℕ) (vs : List MutatorView) → get_elem? s.views id ≡ some vs
      → (k : ℕ) (v : MutatorView) → get_elem? vs k ≡ some v → Agrees rules g log v

-- The words that a mutator in this state may load lie in the row: three header words of each
-- register's object, which is a heap address; the object whose shape it loaded; the words before
-- the block words.
pub record StaysInRow (p : Epoch) (l : Local) : Type 0 where
  pub registers : (d : ℕ) → d < REGISTERS → (address_in l d ≡ 0)
      ⊎ ((heap_of p.before.blocks ≤ address_in l d)
      × (address_in l d + HEADER_WORDS ≤ length p.before.words))
  pub shape : 0 < l.shape.at
      → l.shape.at + size_of (refs_in l.shape.word) (nums_in l.shape.word) ≤ length p.before.words
  pub globals : 18 + p.before.blocks ≤ length p.before.words
  pub most : length p.before.words < 2 ^ 32

-- the log entry of a step that finds the word n
abbrev pub entry_for : Epoch → MutatorView → Event → ℕ → LogEntry
entry_for p v x n =
    record { mutator = v.local.number; event = x; answer = answer p v.local x n }

-- The log that the mutator has seen is one of the epoch, and leaves it in its state.
pub record KnowsLog (p : Epoch) (v : MutatorView) : Type 0 where
  pub ideal : IdealHeap
  pub epoch : IsEpochLog p ideal v.seen
  pub now : v.local ≡ local_after_log p v.seen v.local.number
  pub known : Contains (numbers_of p.mutators) v.local.number
  pub inside : StaysInRow p v.local

-- From the one view to the other the mutator made the step of this event, which found the word n.
-- The log seen then is the one seen before, steps of others, and this step.
pub record MakesStepIn (p : Epoch) (a : MutatorView) (x : Event) (n : ℕ) (b : MutatorView) : Type 0
  where
    pub start : b.start ≡ a.start
    pub between : List LogEntry
    pub others : steps_by a.local.number between ≡ []
    pub seen : b.seen ≡ (a.seen ++ between) ++ entry_for p a x n ∷ []
    pub before : local_after_log p (a.seen ++ between) a.local.number ≡ a.local
    pub word : n ≡ found p (machine_after p (a.seen ++ between)) a.local.number x
    pub local : b.local ≡ local_after p a.local x n
    pub number : b.local.number ≡ a.local.number
    pub told : KnowsLog p b

abbrev pub MakesStep : Rules → MutatorView → Event → ℕ → MutatorView → Type 0
MakesStep rules a x n b = MakesStepIn (epoch_with rules a.start) a x n b

-- the same of a seat that has one view, and keeps all else
abbrev pub MakesStepAlone : Rules → Me (Unit {0}) (List MutatorView) → Event → ℕ
    → Me (Unit {0}) (List MutatorView) → Type 0
MakesStepAlone rules me x n now = MakesStep rules (first_of me.0) x n (first_of now.0)
    × (now.0 ≡ first_of now.0 ∷ []) × (now.1 ≡ me.1)

-- the event of the mutator stores the word that it finds
abbrev pub LeavesWord : Rules → MutatorView → Event → ℕ → Type 0
LeavesWord rules a x n = stored (epoch_with rules a.start) a.local x n ≡ n

-- the history that the mutator has seen, and its own entries in it
abbrev pub history_seen : Rules → MutatorView → List Entry
history_seen rules v = history_of (epoch_with rules v.start) v.seen

abbrev pub own_entries : Rules → MutatorView → List Entry
own_entries rules v = entries_by v.local.number (history_seen rules v)

-- From the one view to the other the mutator made steps that make these entries.
pub record MakesEntries (rules : Rules) (a : MutatorView) (es : List Entry) (b : MutatorView)
    : Type 0 where
  pub start : b.start ≡ a.start
  pub number : b.local.number ≡ a.local.number
  pub prefix : IsPrefix a.seen b.seen
  pub own : own_entries rules b ≡ own_entries rules a ++ es

-- The row ends with these words, which the last log leaves. Each view agrees with that log. If each
-- mutator's view is there, it is the longest log that one of them has seen.
pub record EndsWith (rules : Rules) (g : EpochStart) (vs : List MutatorView) (row : List ℕ)
    : Type 0 where
  pub log : List LogEntry
  pub ideal : IdealHeap
  pub epoch : IsEpochLog (epoch_with rules g) ideal log
  pub words : row ≡ (machine_after (epoch_with rules g) log).words
  pub agree : (k : ℕ) (v : MutatorView) → get_elem? vs k ≡ some v → Agrees rules g log v
  pub longest : ((m : ℕ) → views_of m vs ≡ times_in m (numbers_of (epoch_with rules g).mutators))
      → (log ≡ []) ⊎ ((k : ℕ) × (v : MutatorView) × (get_elem? vs k ≡ some v) × (v.seen ≡ log))
