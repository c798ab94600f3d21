-- The invariants of an epoch: what holds after each step, if mutators make only steps that they may
-- make.
use Rattle.heap_layout.specs.declared.layout.TheConstants.{BLOCK_LINES, BUDGET_WORD, STOP_WORD}
use Rattle.ideal_heap.specs.declared.command.TheConstants.{MAX_MUTATORS, MAX_REFS, MAX_NUMS}
use Rattle.object_model.specs.declared.shape.TheConstants.{MAX_MEDIUM_WORDS, COLLECTOR_OFFSET, SHAPE_OFFSET}
use Rattle.std.specs.Prelude.{◌≡◌, ℕ, ◌+◌, ◌<◌, ◌≤◌, ◌^◌, ◌⊎◌, true, false, IsTrue, List, length}
use Rattle.std.specs.List.{Contains}
use Rattle.heap_layout.specs.Blocks.{IsValidWord, code_of}
use Rattle.ideal_heap.specs.declared.name.Name.{Name}
use Rattle.ideal_heap.specs.Names.{name}
use Rattle.object_model.specs.Objects.{HeapState, word_at, block_word, line_marked, is_unlogged, IsHeld, size_at}
use Rattle.object_model.specs.Objects.{size_of}
use Rattle.object_model.specs.Lawful.{IsLawful, FreeBlockIsClear}
use Rattle.object_model.specs.Graphs.{numbers_of}
use Rattle.sessions.specs.Collecting.{Remembers}
use Rattle.mutator_core.specs.declared.state.Local.{Local}
use Rattle.mutator_core.specs.declared.state.Loaded.{Loaded}
use Rattle.mutator_core.specs.declared.state.Extent.{Extent}
use Rattle.mutator_core.specs.declared.state.OwnedBlock.{OwnedBlock}
use Rattle.mutator_core.specs.declared.state.Unpublished.{Unpublished}
use Rattle.mutator_core.specs.Machine.{Epoch, birth_word, found_code}
use Rattle.mutator_core.specs.Guards.{IsPlaceOfMutator, IsAvailable, BeginsRegion}
use Rattle.sessions.specs.Plans.{has_holes}

-- an epoch may begin: the heap is lawful and remembers its young references, no stop is raised, and
-- no ticket is drawn
pub record EpochMayBegin (p : Epoch) : Type 0 where
  pub lawful : IsLawful p.before
  pub remembers : Remembers p.rules p.before
  pub fills : IsTrue (has_holes p.rules.fill)
  pub stop : word_at p.before STOP_WORD ≡ 0
  pub tickets : word_at p.before BUDGET_WORD ≡ 0
  pub few : length p.mutators ≤ MAX_MUTATORS

-- The block word has this mutator as owner. As the epoch began, the block was Free, or of the same
-- kind and class and without an owner.
pub record IsOwned (p : Epoch) (s : HeapState) (number : ℕ) (o : OwnedBlock) : Type 0 where
  pub inside : o.block < s.blocks
  pub somebody : 0 < number
  pub valid : IsValidWord (record { kind = p.rules.fill; class = o.class; owner = number })
  pub word : block_word s o.block
      ≡ code_of (record { kind = p.rules.fill; class = o.class; owner = number })
  pub before : (block_word p.before o.block ≡ found_code p o.class true)
      ⊎ (block_word p.before o.block ≡ found_code p o.class false)

-- an object that this mutator allocated: it is held at a permitted place, not claimed, and its
-- unlog bit is clear
pub record IsMade (p : Epoch) (s : HeapState) (blocks : List OwnedBlock) (x : Extent) : Type 0 where
  pub held : IsHeld s x.address
  pub same : size_at s x.address ≡ x.size
  pub place : IsPlaceOfMutator p blocks x.address x.size
  pub unclaimed : word_at s (x.address + COLLECTOR_OFFSET) ≡ 0
  pub unmarked : IsTrue (is_unlogged s x.address) → ⊥

-- the unpublished object is small, lies at a permitted place, begins a region or follows an object
-- there, and the words stored so far are its initial words
pub record IsUnpublished (p : Epoch) (s : HeapState) (n : Name) (blocks : List OwnedBlock)
    (made : List Extent)
    (u : Unpublished) : Type 0 where
  pub few_births : n.birth < 2 ^ 32
  pub few_refs : u.refs ≤ MAX_REFS
  pub few_nums : u.nums ≤ MAX_NUMS
  pub small : size_of u.refs u.nums ≤ MAX_MEDIUM_WORDS
  pub most : u.written ≤ size_of u.refs u.nums
  pub available : IsAvailable p blocks made u.address (size_of u.refs u.nums)
  pub region : BeginsRegion p made u.address (size_of u.refs u.nums)
  pub words : (k : ℕ) → k < u.written → word_at s (u.address + k) ≡ birth_word n u.refs u.nums k

-- one mutator's blocks, objects and loaded words agree with the heap
pub record Knows (p : Epoch) (s : HeapState) (number births : ℕ) (blocks : List OwnedBlock)
    (made : List Extent)
    (u : Unpublished) (shape collector : Loaded) (logged : ℕ) : Type 0 where
  pub owned : (o : OwnedBlock) → Contains blocks o → IsOwned p s number o
  pub objects : (x : Extent) → Contains made x → IsMade p s blocks x
  pub regions : (x : Extent) → Contains made x → BeginsRegion p made x.address x.size
  pub unpublished : 0 < u.address → IsUnpublished p s (name number (births + 1)) blocks made u
  pub header : 0 < shape.at → IsHeld s shape.at × (word_at s (shape.at + SHAPE_OFFSET) ≡ shape.word)
  pub age : 0 < collector.at → IsHeld s collector.at
      × (word_at s (collector.at + 2) ≡ collector.word)
  pub cleared : 0 < logged → IsTrue (is_unlogged s logged) → ⊥

-- the same of a mutator's state
abbrev pub KnowsItsState : Epoch → HeapState → Local → Type 0
KnowsItsState p s l =
    Knows p s l.number l.births l.owned l.made l.unpublished l.shape l.collector l.logged

-- the heap and the mutators during an epoch
pub record IsInEpoch (p : Epoch) (s : HeapState) (locals : ℕ → Local) : Type 0 where
  pub numbers : (m : ℕ) → (locals m).number ≡ m
  pub knows : (m : ℕ) → KnowsItsState p s (locals m)
  -- each object held as the epoch began is held with the same name, shape and collector word;
  -- mutators made the others
  pub stays : (a : ℕ) → IsHeld p.before a → IsHeld s a
      × ((i : ℕ) → i < 3 → word_at s (a + i) ≡ word_at p.before (a + i))
  pub births : (a : ℕ) → IsHeld s a → IsHeld p.before a
      ⊎ ((m : ℕ) × Contains (locals m).made (record { address = a; size = size_at s a }))
  pub free : (k : ℕ) → FreeBlockIsClear s k
  -- a block has the word that it had as the epoch began, or a mutator owns it; line bits are
  -- unchanged
  pub blocks : (k : ℕ) → k < s.blocks → (block_word s k ≡ block_word p.before k)
      ⊎ ((m : ℕ) × (o : OwnedBlock) × Contains (locals m).owned o × (o.block ≡ k))
  pub members : (m : ℕ) (o : OwnedBlock) → Contains (locals m).owned o
      → Contains (numbers_of p.mutators) m
  pub lines : (k line : ℕ) → k < s.blocks → line < BLOCK_LINES
      → line_marked s k line ≡ line_marked p.before k line
  -- unlog bits are only cleared, and references to young objects are remembered
  pub unlogs : (a : ℕ) → IsTrue (is_unlogged s a) → IsTrue (is_unlogged p.before a)
  pub remembers : Remembers p.rules s
