-- The release of all blocks of a row, one after another.
use Rattle.std.specs.Prelude.{◌≡◌, ◌≢◌, ◌↔◌, ℕ, ◌+◌, ◌*◌, ◌<◌, ◌^◌, ◌&&◌, Bool, IsTrue, false, length, Some, List}
use Rattle.heap_layout.specs.Zones.{LineWords, bit_of, block_at}
use Rattle.heap_layout.specs.declared.layout.TheConstants.{BLOCK_BIT_WORDS, BLOCK_LINES}
use Rattle.heap_layout.specs.declared.block.Kind.TheVariants as kinds
use Rattle.object_model.specs.declared.collect.Collect.{Collect}
use Rattle.object_model.specs.Objects.{HeapState, HasKind, word_at, owner_at, line_marked, is_start, is_unlogged}
use Rattle.object_model.specs.Objects.{IsHeld, size_at}
use Rattle.object_model.specs.Lines.{TouchesLine}
use Rattle.object_model.specs.Ages.{is_survivor, Lives}
use Rattle.object_model.specs.Lawful.{LineBitsAreExact}
use Rattle.block_sweeps.specs.Sweeping.{IsMetadata, InBlock, Sweeps}
use Rattle.side_meta.specs.BitWords.{has_bit}
use Rattle.side_meta.specs.declared.word.TheConstants.{BITS_PER_WORD}
use Rattle.block_sweeps.specs.WordSweeps.{start_word, unlog_word, address_of}
use Rattle.sessions.specs.Plans.{Rules}
use Rattle.sessions.specs.Collecting.{is_evacuated}
use Rattle.trace_core.specs.Setups.{Setup, blocks, size, stays_old}
use Rattle.trace_core.specs.Machine.{Event}
use Rattle.trace_core.specs.Traces.{heap_after, target_of}
use Rattle.plan_api.specs.Releasing.{Releases, IsReleased, is_kept_kind, word_after}

-- The blocks below n were released, in order: the row was s and is now the last state.
pub data ReleasesBelow (r : Rules) (c : Collect) (base : ℕ) (s : HeapState) : HeapState → ℕ
    → Type 0 where
  none : ReleasesBelow r c base s s 0
  one_more : {mid new : HeapState} {n : ℕ} → ReleasesBelow r c base s mid n → n < s.blocks
      → Releases r c base mid new n → ReleasesBelow r c base s new (n + 1)

-- The blocks of s below n are released in s', and no word but metadata of blocks changed. A tail of
-- a large run is released with the run's first block.
pub record AreReleased (r : Rules) (c : Collect) (base : ℕ) (s s' : HeapState) (n : ℕ)
    : Type 0 where
  pub blocks : s'.blocks ≡ s.blocks
  pub extent : length s'.words ≡ length s.words
  pub each : (k : ℕ) → k < n → k < s.blocks → (HasKind s k kinds.LargeTail → ⊥)
      → IsReleased r c base s s' k
  pub others : (i : ℕ) → ((k : ℕ) → k < s.blocks → IsMetadata s.blocks k i → ⊥)
      → word_at s' i ≡ word_at s i
  pub fit : ((i : ℕ) → word_at s i < 2 ^ 64) → (i : ℕ) → word_at s' i < 2 ^ 64

-- the heap with this row after a collection with these numbers
abbrev pub with_numbers : HeapState → ℕ → ℕ → HeapState
with_numbers s number base = record {
  words = s.words;
  blocks = s.blocks;
  number = number;
  base = base;
}

-- The unlog bits of block k show what lives in it: an object that is held there lives if and only
-- if its unlog bit is set.
abbrev pub UnlogBitsMarkSurvivors : ℕ → HeapState → ℕ → Type 0
UnlogBitsMarkSurvivors base s k = (a : ℕ) → InBlock s k a → IsHeld s a → Lives base s a
    ↔ IsTrue (is_unlogged s a)

-- so does word i of unlog bits: of its bits exactly those of objects that live are set
abbrev pub UnlogWordMarksSurvivors : ℕ → HeapState → ℕ → Type 0
UnlogWordMarksSurvivors base s i = (j : ℕ) → j < BITS_PER_WORD → has_bit (unlog_word s i) j
    ≡ (has_bit (start_word s i) j && is_survivor s base (address_of s i j))

-- The tracing began with no line bit set, and marked each line that a target touches.
pub record LinesOfTargetsAreMarked (p : Setup) (es : List Event) : Type 0 where
  pub clear : (k line : ℕ) → k < blocks p → line < BLOCK_LINES → line_marked p.before k line ≡ false
  pub all : (x t n : ℕ) → target_of p es x ≡ Some t → n < BLOCK_LINES * blocks p
      → TouchesLine (blocks p) t (size p x) n
      → IsTrue (bit_of (blocks p) LineWords (heap_after p es).words n)

-- The tracing began with exact line bits, as that of a nursery collection does, and marked each
-- line that the target of a claimed object touches. Old objects are not claimed, and stay.
pub record LinesOfClaimedAreMarked (p : Setup) (es : List Event) : Type 0 where
  pub exact : (k : ℕ) → k < blocks p → LineBitsAreExact p.before k
  pub all : (x t n : ℕ) → target_of p es x ≡ Some t → stays_old p x ≡ false
      → n < BLOCK_LINES * blocks p → TouchesLine (blocks p) t (size p x) n
      → IsTrue (bit_of (blocks p) LineWords (heap_after p es).words n)

-- Each object that is held in block k lives: none died or moved away.
abbrev pub LosesNothing : ℕ → HeapState → ℕ → Type 0
LosesNothing base s k = (a : ℕ) → InBlock s k a → IsHeld s a → Lives base s a

-- Block k was swept, and has the word of its release. Something in it lives, and each object left
-- in it has its unlog bit. So it is released, but for the line bits of an Immix block.
pub record SweepsSome (r : Rules) (c : Collect) (base : ℕ) (s s' : HeapState) (k : ℕ) : Type 0 where
  pub sweeps : Sweeps base (word_after r c s k) s s' k
  pub object : ℕ
  pub here : InBlock s k object
  pub lives : Lives base s object
  pub unlogs : (a : ℕ) → InBlock s' k a → is_unlogged s' a ≡ is_start s' a

-- the start bits of block k differ from its unlog bits, in this word
pub record DiffersInSome (s : HeapState) (k : ℕ) : Type 0 where
  pub index : ℕ
  pub inside : index < BLOCK_BIT_WORDS
  pub differ : start_word s (BLOCK_BIT_WORDS * k + index)
      ≢ unlog_word s (BLOCK_BIT_WORDS * k + index)

-- an object that lives begins in block k and touches this line of it
pub record LivesOnLine (base : ℕ) (s : HeapState) (k line : ℕ) : Type 0 where
  pub object : ℕ
  pub lives : Lives base s object
  pub here : block_at s.blocks object ≡ k
  pub touches : TouchesLine s.blocks object (size_at s object) (BLOCK_LINES * k + line)

-- The line bits of block k, if it is an Immix block, are those of the lines that what lives in it
-- touches.
abbrev pub LineBitsMarkSurvivors : ℕ → HeapState → ℕ → Type 0
LineBitsMarkSurvivors base s k = HasKind s k kinds.Immix → (line : ℕ) → line < BLOCK_LINES
    → IsTrue (line_marked s k line) ↔ ∥ LivesOnLine base s k line ∥₁

-- The flag is that of block k, whether it was evacuated, if it is Bump, Young, Mature or Kept and
-- has no owner. A block that a worker took for copies has one. Of these kinds the rules ask the
-- block's kind alone, which no tracing changes.
abbrev pub FlagShowsEvacuation : Rules → Collect → HeapState → ℕ → Bool → Type 0
FlagShowsEvacuation r c s k flag = IsTrue (is_kept_kind s k) → owner_at s k ≡ 0
    → is_evacuated r c s k ≡ flag
