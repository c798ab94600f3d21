-- Sessions: a run of the ideal heap in epochs, each with a stop at its end, and the heaps at the
-- stops.
use Rattle.std.specs.Prelude.{◌≡◌, ◌≢◌, ℕ, ◌+◌, ◌<◌, ◌≤◌, ◌⊎◌, ◌↔◌, Bool, true, false, IsTrue, Option, Some, None, List}
use Rattle.std.specs.Prelude.{[], ◌∷◌, ◌++◌, map, filter, length}
use Rattle.std.specs.List.{range_with_len, AllByRecursion, Any, list_all}
use Rattle.heap_layout.specs.Zones.{BlockWords, first, block_at, offset_at, IsAddress}
use Rattle.heap_layout.specs.Blocks.{code_of}
use Rattle.heap_layout.specs.declared.block.BlockWord.{BlockWord}
use Rattle.heap_layout.specs.declared.block.Kind.{Kind}
use Rattle.heap_layout.specs.declared.block.Kind.TheVariants as kinds
use Rattle.ideal_heap.specs.declared.name.Name.{Name}
use Rattle.ideal_heap.specs.declared.command.Command.{Command}
use Rattle.ideal_heap.specs.declared.command.Command.TheVariants as c
use Rattle.ideal_heap.specs.declared.reply.Reply.TheVariants as r
use Rattle.ideal_heap.specs.Commands.{is_meet, is_gc, size_wanted}
use Rattle.ideal_heap.specs.Ideal as ideal
use Rattle.ideal_heap.specs.Runs.{Entry, is_full, IsRun, heap_after_run, IsOrderPrefix, IsOrder, next_of, IsMutator}
use Rattle.object_model.specs.declared.collect.Collect.{Collect}
use Rattle.object_model.specs.declared.collect.Collect.TheVariants.{Nursery, Full}
use Rattle.object_model.specs.Objects.{HeapState, empty_heap, HasKind, block_word, is_pinned, is_unlogged, IsHeld}
use Rattle.object_model.specs.Objects.{name_at, refs_at, nums_at, size_at, size_of, word_at, shape_code, blocks_for}
use Rattle.object_model.specs.Graphs.{MutatorState, new_mutator, numbers_of, roots_of, Represents}
use Rattle.object_model.specs.Lawful.{IsLawful}
use Rattle.sessions.specs.Plans.{Rules}
use Rattle.sessions.specs.Fitting.{Fits, HasHole, HasSomeHole, LiesInHole, HasCellFor, IsFreeRun, class_for, free_of}
use Rattle.sessions.specs.Fitting.{allowance_of}
use Rattle.sessions.specs.Collecting.{IsCollection, first_collection, Remembers, is_logged_under}
use Rattle.object_model.specs.declared.shape.TheConstants.{MAX_MEDIUM_WORDS, COLLECTOR_OFFSET, SHAPE_OFFSET}

-- the parameters of a session
pub record Setting : Type 0 where
  pub rules : Rules
  pub blocks : ℕ
  -- the number of tracing workers
  pub workers : ℕ
  pub traces : List (List Command)

-- the mutators of the traces, counted from 1
abbrev pub traced_mutators : Setting → List ℕ
traced_mutators t = range_with_len 1 (length t.traces)

-- the state of a session between two epochs, or between two steps of a stop
pub record Moment : Type 0 where
  pub heap : HeapState
  pub mutators : List MutatorState
  pub done : List Entry
  -- the numbers of nursery and full collections so far
  pub nursery : ℕ
  pub full : ℕ

-- the state in which a session begins
abbrev pub first_moment : Setting → Moment
first_moment t = record {
  heap = empty_heap t.blocks;
  mutators = map new_mutator (traced_mutators t);
  done = [];
  nursery = 0;
  full = 0;
}

-- the ideal heap of the run so far
abbrev pub ideal_at : Moment → ideal.IdealHeap
ideal_at now = heap_after_run ideal.empty now.done

-- the next command of mutator m, None at the end of its trace
abbrev pub next_in : Setting → Moment → ℕ → Option Command
next_in t now m = next_of t.traces now.done m

-- The heap is lawful and remembers its young references. With the mutators, which are those of the
-- traces, it represents the ideal heap of the run.
pub record IsSound (t : Setting) (now : Moment) : Type 0 where
  pub lawful : IsLawful now.heap
  pub remembers : Remembers t.rules now.heap
  pub represents : Represents now.heap now.mutators (ideal_at now)
  pub listed : numbers_of now.mutators ≡ traced_mutators t

-- Why a mutator's part of an epoch ends: it is at `gc`, at `meet`, at the end of its trace or at a
-- need, or mutator m raised a stop (Raised m).
pub data Cause : Type 0 where
  AtGc : Cause
  AtMeet : Cause
  AtEnd : Cause
  AtNeed : Cause
  Raised : ℕ → Cause

abbrev pub is_at_gc : Cause → Bool
is_at_gc AtGc = true
is_at_gc AtMeet = false
is_at_gc AtEnd = false
is_at_gc AtNeed = false
is_at_gc (Raised m) = false

abbrev pub is_at_need : Cause → Bool
is_at_need AtGc = false
is_at_need AtMeet = false
is_at_need AtEnd = false
is_at_need AtNeed = true
is_at_need (Raised m) = false

-- a need: the mutator's next command is this `new`, which the stop serves
abbrev pub Needs : Setting → Moment → ℕ → ℕ → ℕ → ℕ → Type 0
Needs t now m d refs nums = next_in t now m ≡ Some (c.New d refs nums)

-- the mutator's next command agrees with the cause; only a mutator at `gc` or at a need raises a
-- stop
abbrev pub EndsBy : Setting → Moment → (ℕ → Cause) → ℕ → Cause → Type 0
EndsBy t now ends m AtGc = next_in t now m ≡ Some c.Gc
EndsBy t now ends m AtMeet = next_in t now m ≡ Some c.Meet
EndsBy t now ends m AtEnd = next_in t now m ≡ None
EndsBy t now ends m AtNeed = (d : ℕ) × (refs : ℕ) × (nums : ℕ) × Needs t now m d refs nums
EndsBy t now ends m (Raised by) = (next_in t now m ≢ None) × IsMutator t.traces by
    × ((is_at_gc (ends by) ≡ true) ⊎ (is_at_need (ends by) ≡ true))

-- an entry that a part may have: no `gc`, no `meet`, no reply `full`, and no `new` of a large
-- object
pub record IsOfPart (e : Entry) : Type 0 where
  pub gc : is_gc e.command ≡ false
  pub meet : is_meet e.command ≡ false
  pub full : is_full e.reply ≡ false
  pub small : size_wanted e.command ≤ MAX_MEDIUM_WORDS

-- some entry allocates the object of this name
abbrev pub HasBirth : List Entry → Name → Type 0
HasBirth part n = Any (λ e. e.reply ≡ r.New n) part

-- the entry allocates the object of this name, with `refs` references and `nums` numbers
pub record IsBirthOf (n : Name) (refs nums : ℕ) (e : Entry) : Type 0 where
  pub register : ℕ
  pub command : e.command ≡ c.New register refs nums
  pub reply : e.reply ≡ r.New n

-- An object at address a leaves no room before it unused: it begins at the start of a hole that was
-- there, at the start of a block that was Free, or directly after another object of its block. In
-- cells each object has its own.
abbrev pub LeavesNoGap : Kind → HeapState → HeapState → ℕ → Type 0
LeavesNoGap fill old new a = (fill ≡ kinds.Cells)
    ⊎ HasHole fill old (block_at new.blocks a) (offset_at new.blocks a) (size_at new a)
    ⊎ (HasKind old (block_at new.blocks a) kinds.Free × (offset_at new.blocks a ≡ 0))
    ⊎ ((x : ℕ) × IsHeld new x × (block_at new.blocks x ≡ block_at new.blocks a)
    × (x + size_at new x ≡ a))

-- an object allocated in a part; it lies in a hole of the heap at the start of the epoch, or in a
-- block that was Free
pub record IsBirth (rules : Rules) (old : HeapState) (part : List Entry) (new : HeapState) (a : ℕ)
    : Type 0 where
  pub entry : Any (IsBirthOf (name_at new a) (refs_at new a) (nums_at new a)) part
  pub place : HasKind old (block_at new.blocks a) kinds.Free
      ⊎ LiesInHole rules.fill old (block_at new.blocks a) (offset_at new.blocks a) (size_at new a)
  pub packed : LeavesNoGap rules.fill old new a
  pub cell : HasCellFor rules.fill new (block_at new.blocks a) (offset_at new.blocks a)
      (size_at new a)
  pub unclaimed : word_at new (a + COLLECTOR_OFFSET) ≡ 0
  pub unmarked : IsTrue (is_unlogged new a) → ⊥

-- a `put` of the part stored into the object of this name
pub record StoresInto (h : ideal.IdealHeap) (part : List Entry) (n : Name) : Type 0 where
  pub prefix : List Entry
  pub entry : Entry
  pub rest : List Entry
  pub s : ℕ
  pub i : ℕ
  pub v : ℕ
  pub whole : part ≡ prefix ++ entry ∷ rest
  pub command : entry.command ≡ c.Put s i v
  pub stored : entry.reply ≡ r.Done
  pub into : (heap_after_run h prefix).registers entry.mutator s ≡ Some n

-- The heap `new` and the mutators at the stop of an epoch. Before the epoch, the heap was `old` and
-- represented h. The epoch ran the part.
pub record Stopped (rules : Rules) (numbers : List ℕ) (old : HeapState) (h : ideal.IdealHeap)
    (part : List Entry)
    (new : HeapState) (ms : List MutatorState) : Type 0 where
  pub listed : numbers_of ms ≡ numbers
  pub lawful : IsLawful new
  pub remembers : Remembers rules new
  pub represents : Represents new ms (heap_after_run h part)
  pub blocks : new.blocks ≡ old.blocks
  pub number : new.number ≡ old.number
  pub base : new.base ≡ old.base
  -- each object held before is still held, with its name, shape and collector word
  pub stays : (a : ℕ) → IsHeld old a → IsHeld new a
      × ((i : ℕ) → i < 3 → word_at new (a + i) ≡ word_at old (a + i))
  -- the other held objects are exactly those that the part allocated
  pub births : (a : ℕ) → IsHeld new a → IsHeld old a ⊎ IsBirth rules old part new a
  pub all_held : (n : Name) → HasBirth part n → (a : ℕ) × IsHeld new a × (name_at new a ≡ n)
  pub logs : (a : ℕ) → IsTrue (is_logged_under rules new a)
      → IsTrue (is_logged_under rules old a) ⊎ StoresInto h part (name_at new a)
  pub taken : free_of old ≤ free_of new + allowance_of rules.reserve old
  -- a block that was Free may get the kind that mutators fill; the other block words are unchanged
  pub in_block : (k : ℕ) → k < old.blocks
      → (HasKind old k kinds.Free × HasKind new k rules.fill)
      ⊎ (block_word new k ≡ block_word old k)
  -- a block that was Free and is not contains an object
  pub used : (k : ℕ) → HasKind old k kinds.Free → (HasKind new k kinds.Free → ⊥)
      → (a : ℕ) × IsHeld new a × (block_at new.blocks a ≡ k)

-- no Free block is left, or fewer blocks of the allowance are left than there are mutators
abbrev pub ExhaustsAllowance : Setting → HeapState → HeapState → Type 0
ExhaustsAllowance t old new = (free_of new ≡ 0)
    ⊎ (allowance_of t.rules.reserve old + 1 + free_of new ≤ free_of old + length t.traces)

-- the part of an epoch: the commands up to the stop, where each mutator ends for its cause
pub record RunsPart (t : Setting) (before : Moment) (ends : ℕ → Cause) (now : Moment) : Type 0 where
  pub part : List Entry
  pub done : now.done ≡ before.done ++ part
  pub runs : IsRun (ideal_at before) part
  pub each : AllByRecursion IsOfPart part
  pub causes : (m : ℕ) → IsMutator t.traces m → EndsBy t now ends m (ends m)
  pub stopped : Stopped t.rules (traced_mutators t) before.heap (ideal_at before) part now.heap
      now.mutators
  pub counts : (now.nursery ≡ before.nursery) × (now.full ≡ before.full)
  -- a small need ends a part only if the allowance is exhausted
  pub needs : (m d refs nums : ℕ) → IsMutator t.traces m → ends m ≡ AtNeed
      → Needs t now m d refs nums
      → size_of refs nums ≤ MAX_MEDIUM_WORDS → ExhaustsAllowance t before.heap now.heap

-- the numbers of nursery and full collections after one more collection
abbrev pub counts_after : Collect → Moment → ℕ × ℕ
counts_after Nursery m = (m.nursery + 1, m.full)
counts_after Full m = (m.nursery, m.full + 1)

-- the number of a mutator, and how many objects it has allocated
abbrev pub birth_count : MutatorState → ℕ × ℕ
birth_count m = (m.number, m.births)

-- one collection, which adds no entry
pub record MakesCollection (t : Setting) (collect : Collect) (before now : Moment) : Type 0 where
  pub collection : IsCollection t.rules t.workers collect before.heap
      (roots_of before.mutators) now.heap
      (roots_of now.mutators)
  pub mutators : map birth_count now.mutators ≡ map birth_count before.mutators
  pub done : now.done ≡ before.done
  pub counts : (now.nursery, now.full) ≡ counts_after collect before
  pub sound : IsSound t now

-- replies that leave the heap unchanged
pub record OnlyReplies (es : List Entry) (before now : Moment) : Type 0 where
  pub rest : now ≡ record before { done = before.done ++ es }
  pub runs : IsRun (ideal_at before) es

-- each of these mutators gets the reply `ok` to the command
abbrev pub all_done : Command → List ℕ → List Entry
all_done command ms = map (λ m. record { mutator = m; command = command; reply = r.Done }) ms

-- the first step of a stop: one full collection for all mutators at `gc`
abbrev pub CollectsFor : Setting → List ℕ → Moment → Moment → Type 0
CollectsFor t [] before now = now ≡ before
CollectsFor t (m ∷ ms) before now = (mid : Moment) × MakesCollection t Full before mid
    × OnlyReplies (all_done c.Gc (m ∷ ms)) mid now

-- A small or medium object is placed in the first hole with room in the lowest block that has one.
-- If there is none, it is placed at the start of the lowest Free block.
pub record PlacesSmall (rules : Rules) (old : HeapState) (a size : ℕ) : Type 0 where
  pub spot : HasHole rules.fill old (block_at old.blocks a) (offset_at old.blocks a) size
      ⊎ (HasKind old (block_at old.blocks a) kinds.Free × (offset_at old.blocks a ≡ 0)
      × (HasSomeHole rules.fill old size → ⊥))
  pub lowest : (k from : ℕ) → HasHole rules.fill old k from size
      → (block_at old.blocks a < k)
      ⊎ ((block_at old.blocks a ≡ k) × (offset_at old.blocks a ≤ from))
  pub lowest_free : HasKind old (block_at old.blocks a) kinds.Free → (k : ℕ)
      → HasKind old k kinds.Free
      → block_at old.blocks a ≤ k

-- a large object is placed in the lowest run of Free blocks
pub record PlacesLarge (old : HeapState) (a size : ℕ) : Type 0 where
  pub start : offset_at old.blocks a ≡ 0
  pub run : IsFreeRun old (block_at old.blocks a) (blocks_for size)
  pub lowest : (k : ℕ) → IsFreeRun old k (blocks_for size) → block_at old.blocks a ≤ k

-- the block word of a kind and class, without owner
abbrev pub block_of_kind : Kind → ℕ → BlockWord
block_of_kind kind class = record { kind = kind; class = class; owner = 0 }

-- A Free block that is used gets the kind that mutators fill and the class for the size.
-- All other block words are unchanged.
pub record UsesBlock (rules : Rules) (old new : HeapState) (used size : ℕ) : Type 0 where
  pub free : HasKind old used kinds.Free
      → block_word new used ≡ code_of (block_of_kind rules.fill (class_for rules.fill size))
  pub hole : (HasKind old used kinds.Free → ⊥) → block_word new used ≡ block_word old used
  pub others : (k : ℕ) → k < old.blocks → k ≢ used → block_word new k ≡ block_word old k

-- The first block of a run becomes a head with the length of the run, the others become tails.
-- All other block words are unchanged.
pub record UsesRun (old new : HeapState) (used n : ℕ) : Type 0 where
  pub head : block_word new used ≡ code_of (block_of_kind kinds.LargeHead n)
  pub tails : (j : ℕ) → 0 < j → j < n
      → block_word new (used + j) ≡ code_of (block_of_kind kinds.LargeTail 0)
  pub others : (k : ℕ) → k < old.blocks → (k < used) ⊎ (used + n ≤ k)
      → block_word new k ≡ block_word old k

-- A new object at address a: its references are nil, its numbers 0, and of its bits only the start
-- bit is set. The objects held before keep their words and bits.
pub record AddsObject (old new : HeapState) (a refs nums : ℕ) : Type 0 where
  pub held : IsHeld new a
  pub fresh : IsHeld old a → ⊥
  pub others : (x : ℕ) → x ≢ a → IsHeld old x ↔ IsHeld new x
  pub shape : word_at new (a + SHAPE_OFFSET) ≡ shape_code refs nums
  pub blank : (i : ℕ) → 2 ≤ i → i < size_of refs nums → word_at new (a + i) ≡ 0
  pub unmarked : (IsTrue (is_pinned new a) → ⊥) × (IsTrue (is_unlogged new a) → ⊥)
  pub words : (x i : ℕ) → IsHeld old x → i < size_at old x
      → word_at new (x + i) ≡ word_at old (x + i)
  pub bits : (x : ℕ) → IsHeld old x → (is_pinned new x ≡ is_pinned old x)
      × (is_unlogged new x ≡ is_unlogged old x)

-- no word before the block words changes, and of the heap only words of the n blocks from `used` on
-- change
pub record ChangesBlocks (old new : HeapState) (used n : ℕ) : Type 0 where
  pub front : (i : ℕ) → i < first old.blocks BlockWords → word_at new i ≡ word_at old i
  pub elsewhere : (i : ℕ) → IsAddress old.blocks i
      → (block_at old.blocks i < used) ⊎ (used + n ≤ block_at old.blocks i)
      → word_at new i ≡ word_at old i

-- a `new` that is placed at a stop
pub record Places (t : Setting) (m d refs nums : ℕ) (before now : Moment) : Type 0 where
  pub fits : Fits t.rules before.heap (size_of refs nums)
  pub place : ℕ
  pub object : AddsObject before.heap now.heap place refs nums
  pub small : size_of refs nums ≤ MAX_MEDIUM_WORDS
      → PlacesSmall t.rules before.heap place (size_of refs nums)
      × UsesBlock t.rules before.heap now.heap (block_at before.heap.blocks place)
      (size_of refs nums)
      × ChangesBlocks before.heap now.heap (block_at before.heap.blocks place) 1
  pub large : MAX_MEDIUM_WORDS < size_of refs nums
      → PlacesLarge before.heap place (size_of refs nums)
      × UsesRun before.heap now.heap (block_at before.heap.blocks place)
      (blocks_for (size_of refs nums))
      × ChangesBlocks before.heap now.heap (block_at before.heap.blocks place)
      (blocks_for (size_of refs nums))
  pub layout : (now.heap.blocks ≡ before.heap.blocks) × (now.heap.number ≡ before.heap.number)
      × (now.heap.base ≡ before.heap.base)
  pub counts : (now.nursery ≡ before.nursery) × (now.full ≡ before.full)
  pub done : now.done ≡ before.done ++ (record {
    mutator = m;
    command = c.New d refs nums;
    reply = r.New (name_at now.heap place);
  }) ∷ []
  pub runs : IsRun ideal.empty now.done
  pub sound : IsSound t now

-- the entry of a refused `new`
abbrev pub refused_entry : ℕ → ℕ → ℕ → ℕ → Entry
refused_entry m d refs nums = record { mutator = m; command = c.New d refs nums; reply = r.Full }

-- what precedes the full collection for a need: nothing, or a nursery collection after which the
-- size does not fit
abbrev pub FirstTry : Setting → ℕ → Collect → Moment → Moment → Type 0
FirstTry t size Full before now = now ≡ before
FirstTry t size Nursery before now = MakesCollection t Nursery before now
    × (Fits t.rules now.heap size → ⊥)

-- A need is served at once if it fits. If not, the collection to try first is made, and then a full
-- one if it still does not fit. It is refused only if it does not fit after the full collection
-- made for it.
pub data ServesNeed (t : Setting) (m d refs nums : ℕ) (before now : Moment) : Type 0 where
  at_once : Places t m d refs nums before now → ServesNeed t m d refs nums before now
  after_nursery : (mid : Moment) → (Fits t.rules before.heap (size_of refs nums) → ⊥)
      → first_collection t.rules before.heap ≡ Nursery
      → MakesCollection t Nursery before mid → Places t m d refs nums mid now
      → ServesNeed t m d refs nums before now
  after_full : (mid late : Moment) → (Fits t.rules before.heap (size_of refs nums) → ⊥)
      → FirstTry t (size_of refs nums) (first_collection t.rules before.heap) before mid
      → MakesCollection t Full mid late → Places t m d refs nums late now
      → ServesNeed t m d refs nums before now
  refused : (mid late : Moment) → (Fits t.rules before.heap (size_of refs nums) → ⊥)
      → FirstTry t (size_of refs nums) (first_collection t.rules before.heap) before mid
      → MakesCollection t Full mid late → (Fits t.rules late.heap (size_of refs nums) → ⊥)
      → OnlyReplies (refused_entry m d refs nums ∷ []) late now
      → ServesNeed t m d refs nums before now

-- the second step of a stop: each need is served, in ascending order of the mutators
abbrev pub ServesAll : Setting → List ℕ → Moment → Moment → Type 0
ServesAll t [] before now = now ≡ before
ServesAll t (m ∷ ms) before now =
    (d : ℕ) × (refs : ℕ) × (nums : ℕ) × (mid : Moment) × Needs t before m d refs nums
    × ServesNeed t m d refs nums before mid × ServesAll t ms mid now

abbrev pub is_at_meet : Option Command → Bool
is_at_meet None = false
is_at_meet (Some command) = is_meet command

-- at `meet`, or at the end of the trace
abbrev pub is_waiting : Option Command → Bool
is_waiting None = true
is_waiting (Some command) = is_meet command

-- the last step of a stop: if each mutator is at `meet` or has ended, each `meet` gets its reply
abbrev pub MeetsIf : Bool → List ℕ → Moment → Moment → Type 0
MeetsIf true ms before now = OnlyReplies (all_done c.Meet ms) before now
MeetsIf false ms before now = now ≡ before

abbrev pub Meets : Setting → Moment → Moment → Type 0
Meets t before now =
    MeetsIf (list_all (λ m. is_waiting (next_in t before m)) (traced_mutators t))
    (filter (λ m. is_at_meet (next_in t before m)) (traced_mutators t)) before now

-- one more epoch: its part, and the three steps of its stop
pub record IsEpoch (t : Setting) (before now : Moment) : Type 0 where
  pub ends : ℕ → Cause
  pub stop : Moment
  pub part : RunsPart t before ends stop
  pub collected : Moment
  pub gc : CollectsFor t (filter (λ m. is_at_gc (ends m)) (traced_mutators t)) stop collected
  pub served : Moment
  pub needs : ServesAll t (filter (λ m. is_at_need (ends m)) (traced_mutators t)) collected served
  pub meet : Meets t served now
  pub prefix : IsOrderPrefix t.traces now.done

-- the states that sessions of a setting reach after some number of epochs
pub data InSession (t : Setting) : Moment → Type 0 where
  begun : InSession t (first_moment t)
  longer : (before : Moment) {now : Moment} → InSession t before → IsEpoch t before now
      → InSession t now

-- the last state of a session in which every command of the traces has its reply
pub record IsWhole (t : Setting) (last : Moment) : Type 0 where
  pub session : InSession t last
  pub order : IsOrder t.traces last.done
