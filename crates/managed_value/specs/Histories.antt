-- A managed heap, and the entries of all its calls since it was new.
use Rattle.std.specs.Prelude.{◌≡◌, ℕ, ◌+◌, ◌<◌, ◌≤◌, Option, None, Some, List, [], ◌∷◌, ◌++◌, ◌⊎◌, length}
use Rattle.ideal_heap.specs.declared.command.Command.{Command}
use Rattle.ideal_heap.specs.declared.command.TheConstants.{MAX_MUTATORS}
use Rattle.ideal_heap.specs.declared.reply.Reply.{Reply}
use Rattle.ideal_heap.specs.declared.name.Name.{Name}
use Rattle.ideal_heap.specs.Ideal.{IdealHeap, empty, record_of}
use Rattle.ideal_heap.specs.Runs.{Entry, IsRun, heap_after_run, entry}
use Rattle.object_model.specs.declared.shape.Shape.{Shape}
use Rattle.sessions.specs.Plans.{Rules}
use Rattle.sessions.specs.Sessions.{Setting, Moment, IsSound, ideal_at}
use Rattle.heap_users.specs.Beginnings.{epoch_of}
use Rattle.managed_heap.specs.Worlds.{PlainWorld, HasHistory, IsOpen, places_of, budget_word, births_at as births_in}
use Rattle.managed_heap.specs.Worlds.{AddsEntries as AddsToWorld}
use Rattle.managed_value.specs.declared.managed.ManagedHeap.{ManagedHeap}

-- The heap and the mutators are gone: the host's memory ran out as they were handed on.
abbrev pub IsLost : {P : Type 0} → ManagedHeap P → Type 0
IsLost h = h.world ≡ None

-- the number of mutators, 0 if they are lost
abbrev pub places_in : {P : Type 0} → Option (PlainWorld P) → ℕ
places_in None = 0
places_in (Some w) = places_of w

abbrev pub mutators_of_heap : {P : Type 0} → ManagedHeap P → ℕ
mutators_of_heap h = places_in h.world

-- a place in the list of mutators; the mutator there has the number m + 1
abbrev pub HeapHasPlace : {P : Type 0} → ManagedHeap P → ℕ → Type 0
HeapHasPlace h m = m < mutators_of_heap h

-- the number of objects that the mutator at a place has allocated
abbrev pub born_to : {P : Type 0} → Option (PlainWorld P) → ℕ → ℕ
born_to None m = 0
born_to (Some w) m = births_in w m

abbrev pub heap_births_at : {P : Type 0} → ManagedHeap P → ℕ → ℕ
heap_births_at h m = born_to h.world m

-- the words of the objects that the last collection kept, and of those allocated since
abbrev pub words_used : {P : Type 0} → ManagedHeap P → ℕ
words_used h = h.words

-- the number of collections so far
abbrev pub collections_made : {P : Type 0} → ManagedHeap P → ℕ
collections_made h = h.nursery + h.full

-- At the last stop, of which this is the moment, the heap stood for the ideal heap of the entries
-- up to then. An epoch began with it, and its history since is the part. Each collection is
-- counted.
pub record IsSince {P : Type 0} (rules : Rules) (h : ManagedHeap P) (w : PlainWorld P)
    (now : Moment) (part : List Entry) : Type 0 where
  pub setting : Setting
  pub rules_are : setting.rules ≡ rules
  pub workers : setting.workers ≡ 1
  pub blocks : setting.blocks ≡ now.heap.blocks
  pub sound : IsSound setting now
  pub run : IsRun empty now.done
  pub nursery : h.nursery ≡ now.nursery
  pub full : h.full ≡ now.full
  pub number : now.heap.number ≡ collections_made h
  pub history : HasHistory w (epoch_of rules now.heap now.mutators) (ideal_at now) part

-- Entries that lead to this heap: those up to the last stop, and those of the epoch since. `new`
-- begins with none, and each call adds its own to all that there were, so they are those of all
-- calls since the heap was new.
pub record HasEntries {P : Type 0} (rules : Rules) (h : ManagedHeap P) (es : List Entry)
    : Type 0 where
  pub world : PlainWorld P
  pub here : h.world ≡ Some world
  pub now : Moment
  pub part : List Entry
  pub since : IsSince rules h world now part
  pub entries : es ≡ now.done ++ part

-- The heap is not lost, and between two calls.
pub record IsUsable {P : Type 0} (rules : Rules) (h : ManagedHeap P) : Type 0 where
  pub world : PlainWorld P
  pub here : h.world ≡ Some world
  pub between_calls : IsOpen rules world
  pub some : 1 ≤ places_of world
  pub few : places_of world ≤ MAX_MUTATORS
  pub entries : List Entry
  pub has : HasEntries rules h entries

-- the entries get these ones
abbrev pub AddsHeapEntries : {P : Type 0} → Rules → ManagedHeap P → List Entry
    → ManagedHeap P → Type 0
AddsHeapEntries rules old more new =
    (es : List Entry) → HasEntries rules old es → HasEntries rules new (es ++ more)

-- the entries get one more, of the mutator at place m
abbrev pub AddsHeapEntry : {P : Type 0} → Rules → ManagedHeap P → ℕ → Command → Reply
    → ManagedHeap P
    → Type 0
AddsHeapEntry rules old m command reply new =
    AddsHeapEntries rules old (entry (m + 1) command reply ∷ []) new

-- the entries stay: so does the ideal heap
abbrev pub KeepsEntries : {P : Type 0} → Rules → ManagedHeap P → ManagedHeap P → Type 0
KeepsEntries rules old new = (es : List Entry) → HasEntries rules old es → HasEntries rules new es

-- The epoch goes on: its history gets more entries, no ticket for a Free block is drawn, and there
-- was no stop.
abbrev pub GoesOn : {P : Type 0} → ManagedHeap P → ManagedHeap P → Type 0
GoesOn {P} old new = (v : PlainWorld P) → old.world ≡ Some v
    → (w : PlainWorld P) × (new.world ≡ Some w) × (more : List Entry) × AddsToWorld v more w
    × (budget_word w ≡ budget_word v)

-- A call within the epoch, which allocates no object and takes no block. There are the same
-- mutators.
pub record StaysInEpoch {P : Type 0} (old new : ManagedHeap P) : Type 0 where
  pub epoch : GoesOn old new
  pub places : mutators_of_heap new ≡ mutators_of_heap old
  pub births : (k : ℕ) → heap_births_at new k ≡ heap_births_at old k
  pub nursery : new.nursery ≡ old.nursery
  pub full : new.full ≡ old.full
  pub used : words_used new ≡ words_used old

-- A call of the mutator at place m entered the command with this reply, within the epoch.
pub record EntersCall {P : Type 0} (rules : Rules) (old : ManagedHeap P) (m : ℕ) (command : Command)
    (reply : Reply) (new : ManagedHeap P) : Type 0 where
  pub usable : IsUsable rules new
  pub history : AddsHeapEntry rules old m command reply new
  pub rest : StaysInEpoch old new

-- The heap is as it was, for all that a program can ask of it.
pub record IsAsBefore {P : Type 0} (rules : Rules) (old new : ManagedHeap P) : Type 0 where
  pub usable : IsUsable rules new
  pub history : KeepsEntries rules old new
  pub places : mutators_of_heap new ≡ mutators_of_heap old
  pub births : (k : ℕ) → heap_births_at new k ≡ heap_births_at old k
  pub nursery : new.nursery ≡ old.nursery
  pub full : new.full ≡ old.full
  pub used : words_used new ≡ words_used old

-- The host's memory ran out: the heap is as it was, or lost.
abbrev pub IsAsBeforeOrLost : {P : Type 0} → Rules → ManagedHeap P → ManagedHeap P → Type 0
IsAsBeforeOrLost rules old new = IsAsBefore rules old new ⊎ IsLost new

-- The heap stands for this ideal heap: the one after the entries of all calls since it was new.
pub record StandsFor {P : Type 0} (rules : Rules) (h : ManagedHeap P) (i : IdealHeap) : Type 0 where
  pub entries : List Entry
  pub has : HasEntries rules h entries
  pub ideal : i ≡ heap_after_run empty entries

-- how many references and numbers the object that o names has
abbrev pub shape_of_object : IdealHeap → Option Name → Option Shape
shape_of_object i None = None
shape_of_object i (Some n) = Some (record {
  refs = length (record_of i n).refs;
  nums = length (record_of i n).nums;
})

-- Q holds of an ideal heap that the heap stands for: what a program knows of its registers. The
-- heap may stand for several, so a program keeps all that it knows in one Q.
pub record HoldsOfIdeal {P : Type 0} (rules : Rules) (h : ManagedHeap P) (Q : IdealHeap → Type 0)
    : Type 0 where
  pub ideal : IdealHeap
  pub stands : StandsFor rules h ideal
  pub fact : Q ideal
