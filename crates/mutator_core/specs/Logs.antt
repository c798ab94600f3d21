-- The logs of an epoch from its beginning, and the heap and mutators after a log.
use Rattle.std.specs.Prelude.{◌≡◌, ℕ, ◌<◌, true, List, sum_by}
use Rattle.std.specs.List.{Contains}
use Rattle.heap_layout.specs.Blocks.{IsValidWord}
use Rattle.ideal_heap.specs.Ideal.{IdealHeap}
use Rattle.ideal_heap.specs.Runs.{Entry}
use Rattle.object_model.specs.Objects.{HeapState, HasKind, block_word, class_at, owner_at, size_of, IsInExtentOf}
use Rattle.object_model.specs.Lawful.{IsUnowned}
use Rattle.object_model.specs.Graphs.{MutatorState, Represents, numbers_of}
use Rattle.sessions.specs.Sessions.{Stopped}
use Rattle.mutator_core.specs.declared.state.Local.{Local}
use Rattle.mutator_core.specs.declared.state.LogEntry.{LogEntry}
use Rattle.mutator_core.specs.declared.state.OwnedBlock.{OwnedBlock}
use Rattle.mutator_core.specs.Machine.{Epoch, Machine, first_machine, heap_in, mutators_in}
use Rattle.mutator_core.specs.Guards.{IsAvailable}
use Rattle.mutator_core.specs.Histories.{after, IsLog, history}
use Rattle.mutator_core.specs.Epochs.{EpochMayBegin}
use Rattle.mutator_core.specs.Closing.{IsBetweenCalls}

-- the machine after a log, and its heap, its mutators and the state of each
abbrev pub machine_after : Epoch → List LogEntry → Machine
machine_after p log = after p (first_machine p) log

abbrev pub heap_after : Epoch → List LogEntry → HeapState
heap_after p log = heap_in p (machine_after p log)

abbrev pub mutators_after : Epoch → List LogEntry → List MutatorState
mutators_after p log = mutators_in p (machine_after p log)

abbrev pub local_after_log : Epoch → List LogEntry → ℕ → Local
local_after_log p log m = (machine_after p log).locals m

-- the public history of a log
abbrev pub history_of : Epoch → List LogEntry → List Entry
history_of p log = history p (first_machine p) log

-- The log is one of an epoch that may begin, whose heap with its mutators represents the ideal heap
-- i.
pub record IsEpochLog (p : Epoch) (i : IdealHeap) (log : List LogEntry) : Type 0 where
  pub ready : EpochMayBegin p
  pub represents : Represents p.before p.mutators i
  pub steps : IsLog p (first_machine p) log

-- w is the address of a word of the mutator's unpublished object
pub record IsUnpublishedWord (l : Local) (w : ℕ) : Type 0 where
  pub some : 0 < l.unpublished.address
  pub inside : IsInExtentOf l.unpublished.address (size_of l.unpublished.refs l.unpublished.nums) w

-- the mutator may write its unpublished object where it lies
abbrev pub HasAvailable : Epoch → Local → Type 0
HasAvailable p l =
    IsAvailable p l.owned l.made l.unpublished.address
    (size_of l.unpublished.refs l.unpublished.nums)

-- the block has no owner, and its block word is as the epoch began
pub record IsUntaken (p : Epoch) (s : HeapState) (k : ℕ) : Type 0 where
  pub unowned : IsUnowned s k
  pub same : block_word s k ≡ block_word p.before k

-- A mutator of the epoch owns the block. The block has the kind that mutators fill, and a valid
-- block word.
pub record IsTaken (p : Epoch) (s : HeapState) (k : ℕ) : Type 0 where
  pub owner : Contains (numbers_of p.mutators) (owner_at s k)
  pub some : 0 < owner_at s k
  pub kind : HasKind s k p.rules.fill
  pub valid : IsValidWord (record {
    kind = p.rules.fill;
    class = class_at s k;
    owner = owner_at s k;
  })

-- the block that mutator m took has m as owner, the kind that mutators fill, and the class that it
-- was taken for
pub record IsOwnedBy (p : Epoch) (s : HeapState) (m : ℕ) (o : OwnedBlock) : Type 0 where
  pub member : Contains (numbers_of p.mutators) m
  pub inside : o.block < p.before.blocks
  pub owner : owner_at s o.block ≡ m
  pub kind : HasKind s o.block p.rules.fill
  pub class : class_at s o.block ≡ o.class

-- block k is one of those that the mutator took
pub record IsListed (l : Local) (k : ℕ) : Type 0 where
  pub block : OwnedBlock
  pub listed : Contains l.owned block
  pub same : block.block ≡ k

-- the sum of f over the epoch's mutators
abbrev pub sum_after : (Local → ℕ) → Epoch → List LogEntry → ℕ
sum_after f p log = sum_by (λ m. f (local_after_log p log m)) (numbers_of p.mutators)

-- m is the number of a mutator that raised a stop
pub record HasRaisedStop (p : Epoch) (log : List LogEntry) (m : ℕ) : Type 0 where
  pub known : Contains (numbers_of p.mutators) m
  pub raised : (local_after_log p log m).raised ≡ true

-- each mutator of the epoch is between two calls
abbrev pub AreBetweenCalls : Epoch → List LogEntry → Type 0
AreBetweenCalls p log = (m : ℕ) → Contains (numbers_of p.mutators) m
    → IsBetweenCalls p (local_after_log p log m)

-- the heap is a stopped heap, for the heap as the epoch began and the history
abbrev pub IsStoppedAfter : Epoch → IdealHeap → List LogEntry → HeapState → Type 0
IsStoppedAfter p i log new =
    Stopped p.rules (numbers_of p.mutators) p.before i (history_of p log) new (mutators_after p log)
