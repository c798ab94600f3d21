-- The views of seats, and how an epoch begins.
use Rattle.std.specs.Prelude.{◌≡◌, ℕ, ◌==◌, List, [], ◌∷◌, count_by, map, filter}
use Rattle.ideal_heap.specs.Runs.{Entry}
use Rattle.object_model.specs.Graphs.{MutatorState}
use Rattle.sessions.specs.Plans.{Rules}
use Rattle.mutator_calls.specs.declared.need.Mutator.{Mutator}
use Rattle.mutator_core.specs.declared.state.LogEntry.{LogEntry}
use Rattle.mutator_core.specs.Machine.{Epoch, first_local}
use Rattle.mutator_rule.specs.declared.views.EpochStart.{EpochStart}
use Rattle.mutator_rule.specs.declared.views.MutatorView.{MutatorView}
use Rattle.mutator_rule.specs.declared.views.RowKey.{RowKey}

-- the number, births and registers of a mutator
abbrev pub mutator_state : Mutator → MutatorState
mutator_state m = record { number = m.number; births = m.births; registers = m.registers }

-- the epoch that begins so, under these rules
abbrev pub epoch_with : Rules → EpochStart → Epoch
epoch_with rules g = record {
  rules = rules;
  before = record { words = g.words; blocks = g.blocks; number = g.number; base = g.base };
  mutators = map mutator_state g.mutators;
}

abbrev pub start_with : List ℕ → ℕ → ℕ → ℕ → List Mutator → EpochStart
start_with words blocks number base ms =
    record { words = words; blocks = blocks; number = number; base = base; mutators = ms }

-- the beginning that the row's rule was told
abbrev pub start_in : RowKey → EpochStart
start_in key =
    start_with key.words.value key.layout.blocks key.number key.base key.mutators.value.items

-- what a mutator knows as the epoch begins
abbrev pub first_view : EpochStart → Mutator → MutatorView
first_view g m = record { start = g; seen = []; local = first_local (mutator_state m) }

abbrev pub first_views_of : EpochStart → List Mutator → List MutatorView
first_views_of g ms = map (first_view g) ms

abbrev pub first_views : EpochStart → List MutatorView
first_views g = first_views_of g g.mutators

-- the first of several views; of none one of no mutator
abbrev pub nobody : MutatorView
nobody = record {
  start = start_with [] 0 0 0 [];
  seen = [];
  local = first_local (record { number = 0; births = 0; registers = [] });
}

abbrev pub first_of : List MutatorView → MutatorView
first_of [] = nobody
first_of (v ∷ vs) = v

-- how many of these views are the mutator's, and how often its number is among these
abbrev pub views_of : ℕ → List MutatorView → ℕ
views_of m vs = count_by (λ (v : MutatorView). v.local.number == m) vs

abbrev pub times_in : ℕ → List ℕ → ℕ
times_in m ms = count_by (λ x. x == m) ms

-- the steps of one mutator, and its entries
abbrev pub steps_by : ℕ → List LogEntry → List LogEntry
steps_by m log = filter (λ (x : LogEntry). x.mutator == m) log

abbrev pub entries_by : ℕ → List Entry → List Entry
entries_by m es = filter (λ (x : Entry). x.mutator == m) es
