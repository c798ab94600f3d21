-- What allocations and collections do to a managed heap.
use Rattle.std.specs.Prelude.{◌≡◌, ◌≢◌, ℕ, ◌+◌, ◌-◌, ◌<◌, ◌≤◌, ◌^◌, ◌⊎◌, Option, None, Some, [], ◌∷◌, ◌++◌}
use Rattle.forward_word.specs.declared.words.TheConstants.{NUMBER_BITS}
use Rattle.ideal_heap.specs.declared.command.Command.TheVariants as c
use Rattle.ideal_heap.specs.declared.reply.Reply.{Reply}
use Rattle.ideal_heap.specs.declared.reply.Reply.TheVariants as r
use Rattle.ideal_heap.specs.declared.name.Name.{Name}
use Rattle.ideal_heap.specs.Runs.{entry}
use Rattle.object_model.specs.Heaps.{heap_state}
use Rattle.object_model.specs.Objects.{size_of, empty_heap}
use Rattle.object_model.specs.declared.collect.Collect.TheVariants.{Full as FullCollection}
use Rattle.sessions.specs.Plans.{Rules}
use Rattle.sessions.specs.Fitting.{Fits}
use Rattle.sessions.specs.Sessions.{Setting, Moment, MakesCollection, ServesNeed}
use Rattle.heap_users.specs.Beginnings.{without_stop}
use Rattle.managed_heap.specs.Worlds.{PlainWorld, heap_of_world, Allocates, Refuses}
use Rattle.collector.specs.Tallies.{capped}
use Rattle.collector.specs.declared.outcome.Note.{Note}
use Rattle.managed_heap.specs.declared.stopped_heap.StoppedHeap.{StoppedHeap}
use Rattle.managed_heap.specs.Stopped.{HeapStandsAt, HasCollected}
use Rattle.managed_heap.specs.Needs.{NotesLast}
use Rattle.managed_heap.specs.declared.place.Placed.{Placed}
use Rattle.managed_heap.specs.declared.place.Placed.TheVariants as placed
use Rattle.managed_value.specs.declared.managed.ManagedHeap.{ManagedHeap}
use Rattle.managed_value.specs.declared.allocate.Refused.{Refused}
use Rattle.managed_value.specs.declared.allocate.Refused.TheVariants.{Full, OutOfMemory}
use Rattle.managed_value.specs.Histories.{IsUsable, IsLost, AddsHeapEntry, KeepsEntries, IsAsBefore, mutators_of_heap}
use Rattle.managed_value.specs.Histories.{heap_births_at, words_used, collections_made}
use Rattle.managed_value.specs.Epochs.{EndsWith, BeginsWith}

-- The mutator at place m has a name left for an object, and two collections may be made for it.
pub record HeapMayAllocate {P : Type 0} (h : ManagedHeap P) (m : ℕ) : Type 0 where
  pub births : heap_births_at h m + 1 < 2 ^ 32
  pub collections : collections_made h + 2 < 2 ^ NUMBER_BITS

-- The object has this name, and the mutator one birth more; the others have as many as before.
pub record Makes {P : Type 0} (rules : Rules) (old : ManagedHeap P) (m d refs nums : ℕ) (n : Name)
    (new : ManagedHeap P) : Type 0 where
  pub usable : IsUsable rules new
  pub history : AddsHeapEntry rules old m (c.New d refs nums) (r.New n) new
  pub places : mutators_of_heap new ≡ mutators_of_heap old
  pub births : heap_births_at new m ≡ heap_births_at old m + 1
  pub others : (k : ℕ) → k ≢ m → heap_births_at new k ≡ heap_births_at old k
  pub collections : collections_made new ≤ collections_made old + 2
  pub used : collections_made new ≡ collections_made old
      → words_used new ≡ capped (2 ^ 64 - 1) (words_used old + size_of refs nums)

-- The heap is full: a full collection was made in this call, after which an object of this size
-- does not fit.
pub record RepliesFull {P : Type 0} (rules : Rules) (old : ManagedHeap P) (m d refs nums : ℕ)
    (new : ManagedHeap P) : Type 0 where
  pub usable : IsUsable rules new
  pub history : AddsHeapEntry rules old m (c.New d refs nums) r.Full new
  pub places : mutators_of_heap new ≡ mutators_of_heap old
  pub births : (k : ℕ) → heap_births_at new k ≡ heap_births_at old k
  pub collections : collections_made new ≤ collections_made old + 2
  pub full : new.full ≡ old.full + 1
  pub room : (w : PlainWorld P) → new.world ≡ Some w
      → Fits rules (heap_of_world w) (size_of refs nums) → ⊥

-- The object is allocated in the epoch, which goes on.
pub record AllocatesInEpoch {P : Type 0} (old : ManagedHeap P) (m d refs nums : ℕ) (n : Name)
    (new : ManagedHeap P) : Type 0 where
  pub before : PlainWorld P
  pub here : old.world ≡ Some before
  pub after : PlainWorld P
  pub there : new.world ≡ Some after
  pub allocates : Allocates before m d refs nums n after
  pub nursery : new.nursery ≡ old.nursery
  pub full : new.full ≡ old.full

-- The epoch has no room for an object of this size of the mutator at place m. The heap is as
-- before.
pub record FindsNoRoom {P : Type 0} (rules : Rules) (old : ManagedHeap P) (m size : ℕ)
    (new : ManagedHeap P) : Type 0 where
  pub before : PlainWorld P
  pub here : old.world ≡ Some before
  pub after : PlainWorld P
  pub there : new.world ≡ Some after
  pub refuses : Refuses before m size after
  pub same : IsAsBefore rules old new

-- the words in use after the last collection, if one was made
abbrev pub kept_by : Option Note → ℕ → ℕ
kept_by None used = used
kept_by (Some note) used = note.kept_words

-- the words in use after a need of this size has this reply
abbrev pub used_for : Reply → ℕ → ℕ → ℕ
used_for (r.New n) size used = capped (2 ^ 64 - 1) (used + size)
used_for _ size used = used

-- The allocation of the mutator at place m is served at a stop: at once if the object fits, else
-- after the collections that the plan asks for. It is refused only if the object does not fit after
-- a full one. The next epoch begins with what the stop left.
pub record ServesAtStop {P : Type 0} (rules : Rules) (old : ManagedHeap P) (m d refs nums : ℕ)
    (reply : Reply) (new : ManagedHeap P) : Type 0 where
  pub before : StoppedHeap P
  pub ends : EndsWith rules old before
  pub after : StoppedHeap P
  pub serves : (t : Setting) (now : Moment) → HeapStandsAt rules before t now
      → (next : Moment) × ServesNeed t (m + 1) d refs nums now next
      × (next.done ≡ now.done ++ entry (m + 1) (c.New d refs nums) reply ∷ [])
      × HeapStandsAt rules after t next
  -- the words in use are those that the last collection kept, with the object's
  pub note : Option Note
  pub noted : NotesLast rules before after note
  pub used : words_used new ≡ used_for reply (size_of refs nums) (kept_by note (words_used old))
  pub begins : BeginsWith rules after new

-- The epoch had no room for the object, so a stop served it.
pub record StopsFor {P : Type 0} (rules : Rules) (old : ManagedHeap P) (m d refs nums : ℕ)
    (reply : Reply) (new : ManagedHeap P) : Type 0 where
  pub searched : ManagedHeap P
  pub search : FindsNoRoom rules old m (size_of refs nums) searched
  pub serves : ServesAtStop rules searched m d refs nums reply new

-- The heap was lost in a collection: a stop made one, since an object of this size did not fit.
pub record IsLostInCollection {P : Type 0} (rules : Rules) (old : ManagedHeap P) (size : ℕ)
    (new : ManagedHeap P) : Type 0 where
  pub before : StoppedHeap P
  pub ends : EndsWith rules old before
  pub room : Fits rules (heap_state before.heap) size → ⊥
  pub lost : IsLost new

-- Memory ran out at a stop for an object of this size. Without a collection the heap is as it was.
abbrev pub RunsOutAtStop : {P : Type 0} → Rules → ManagedHeap P → ℕ → ManagedHeap P → Type 0
RunsOutAtStop rules old size new = IsAsBefore rules old new ⊎ IsLostInCollection rules old size new

-- The epoch had no room, so the allocation came to a stop, and memory ran out there.
pub record RunsOut {P : Type 0} (rules : Rules) (old : ManagedHeap P) (m refs nums : ℕ)
    (new : ManagedHeap P) : Type 0 where
  pub searched : ManagedHeap P
  pub search : FindsNoRoom rules old m (size_of refs nums) searched
  pub left : RunsOutAtStop rules searched (size_of refs nums) new

-- one fact for a full heap, the other if memory ran out
abbrev pub MatchRefused : Type 0 → Type 0 → Refused → Type 0
MatchRefused P Q Full = P
MatchRefused P Q OutOfMemory = Q

-- A full collection was made. It adds no entry, so each register holds what it held. The words in
-- use are those that it kept.
pub record CollectsAll {P : Type 0} (rules : Rules) (old : ManagedHeap P) (note : Note)
    (new : ManagedHeap P) : Type 0 where
  pub usable : IsUsable rules new
  pub history : KeepsEntries rules old new
  pub places : mutators_of_heap new ≡ mutators_of_heap old
  pub births : (k : ℕ) → heap_births_at new k ≡ heap_births_at old k
  pub nursery : new.nursery ≡ old.nursery
  pub full : new.full ≡ old.full + 1
  pub used : words_used new ≡ note.kept_words

-- one fact for an object placed, the other for a full heap
abbrev pub MatchAnswer : (Name → Type 0) → Type 0 → Placed → Type 0
MatchAnswer P Q (placed.Placed n) = P n
MatchAnswer P Q (placed.HeapFull size) = Q

-- the words in use after a need of this size was served
abbrev pub used_with : Placed → ℕ → ℕ → ℕ
used_with (placed.Placed n) size used = capped (2 ^ 64 - 1) (used + size)
used_with (placed.HeapFull words) size used = used

-- The epoch ended, a full collection was made, of which this is the note, and the next epoch began
-- with what it left.
pub record CollectsAtStop {P : Type 0} (rules : Rules) (old : ManagedHeap P) (note : Note)
    (new : ManagedHeap P) : Type 0 where
  pub before : StoppedHeap P
  pub ends : EndsWith rules old before
  pub after : StoppedHeap P
  pub collected : HasCollected rules FullCollection before after note
  pub makes : (t : Setting) (now : Moment) → HeapStandsAt rules before t now
      → (late : Moment) × MakesCollection t FullCollection now late
      × HeapStandsAt rules after t late
  pub begins : BeginsWith rules after new

-- The heap is empty, and has this many blocks.
abbrev pub IsEmpty : {P : Type 0} → ManagedHeap P → ℕ → Type 0
IsEmpty {P} h blocks = (w : PlainWorld P) → h.world ≡ Some w
    → heap_of_world w ≡ without_stop (empty_heap blocks)
