-- Where a new object may be written, and how that changes objects, block words and line bits.
use Rattle.std.specs.Prelude.{◌≡◌, ◌≢◌, ℕ, ◌+◌, ◌*◌, ◌<◌, ◌≤◌, ◌⊎◌, ◌^◌, IsTrue, length, slice_set}
use Rattle.heap_layout.specs.Zones.{BlockWords, LineWords, StartBits, first, bit_of, block_start, IsAddress}
use Rattle.heap_layout.specs.Blocks.{code_of}
use Rattle.heap_layout.specs.declared.layout.TheConstants.{BLOCK_LINES}
use Rattle.heap_layout.specs.declared.block.BlockWord.{BlockWord}
use Rattle.heap_layout.specs.declared.block.Kind.TheVariants as kinds
use Rattle.ideal_heap.specs.declared.name.Name.{Name}
use Rattle.ideal_heap.specs.Names.{IsName}
use Rattle.object_model.specs.Objects.{HeapState, with_words, word_at, block_word, HasKind, IsHeld, IsInExtent, name_at}
use Rattle.object_model.specs.Objects.{size_of, blocks_for}
use Rattle.object_model.specs.Lawful.{LiesInBlock, IsClear}
use Rattle.object_model.specs.Lines.{TouchesLine}
use Rattle.object_model.specs.Changes.{WritesObject}
use Rattle.ideal_heap.specs.declared.command.TheConstants.{MAX_REFS, MAX_NUMS}
use Rattle.object_model.specs.declared.shape.TheConstants.{MAX_MEDIUM_WORDS}

-- The words from a on are free for an object of this name and shape: no held object has one of
-- them, or has the name.
pub record IsVacant (s : HeapState) (a : ℕ) (n : Name) (refs nums : ℕ) : Type 0 where
  pub address : IsAddress s.blocks a
  pub named : IsName n
  pub few_refs : refs ≤ MAX_REFS
  pub few_nums : nums ≤ MAX_NUMS
  pub apart : (x i : ℕ) → IsHeld s x → IsInExtent s x i → (i < a) ⊎ (a + size_of refs nums ≤ i)
  pub fresh : (x : ℕ) → IsHeld s x → name_at s x ≢ n

-- A new small or medium object of this name and shape may be written at a.
pub record IsRoom (s : HeapState) (a : ℕ) (n : Name) (refs nums : ℕ) : Type 0 where
  pub vacant : IsVacant s a n refs nums
  pub small : size_of refs nums ≤ MAX_MEDIUM_WORDS
  pub place : LiesInBlock s a (size_of refs nums)

-- A new large object of this name and shape may be written at the start of block k: the blocks that
-- it needs are Free and clear, and no held object has the name.
pub record IsLargeRoom (s : HeapState) (k : ℕ) (n : Name) (refs nums : ℕ) : Type 0 where
  pub named : IsName n
  pub few_refs : refs ≤ MAX_REFS
  pub few_nums : nums ≤ MAX_NUMS
  pub large : MAX_MEDIUM_WORDS < size_of refs nums
  pub inside : k + blocks_for (size_of refs nums) ≤ s.blocks
  pub free : (j : ℕ) → j < blocks_for (size_of refs nums) → HasKind s (k + j) kinds.Free
  pub clear : (j : ℕ) → j < blocks_for (size_of refs nums) → IsClear s (k + j)
  pub fresh : (x : ℕ) → IsHeld s x → name_at s x ≢ n

-- the heap with this word for block k
abbrev pub with_block : HeapState → ℕ → BlockWord → HeapState
with_block s k word =
    with_words s (slice_set s.words (first s.blocks BlockWords + k) (code_of word))

-- The line bit of each line that an object of `size` words at a touches is set. All else is
-- unchanged.
pub record MarksLinesOfBirth (old new : HeapState) (a size : ℕ) : Type 0 where
  pub blocks : new.blocks ≡ old.blocks
  pub number : new.number ≡ old.number
  pub base : new.base ≡ old.base
  pub extent : length new.words ≡ length old.words
  pub words : (i : ℕ) → word_at new i < 2 ^ 64
  pub marked : (line : ℕ) → TouchesLine old.blocks a size line
      → IsTrue (bit_of old.blocks LineWords new.words line)
  pub others : (line : ℕ) → line < BLOCK_LINES * old.blocks
      → (TouchesLine old.blocks a size line → ⊥)
      → bit_of old.blocks LineWords new.words line ≡ bit_of old.blocks LineWords old.words line
  pub rest : (i : ℕ) → (i < first old.blocks LineWords) ⊎ (first old.blocks StartBits ≤ i)
      → word_at new i ≡ word_at old i

-- Blocks k to k + n - 1 become a large run: a head and n - 1 tails. All else is unchanged.
pub record MakesRun (old new : HeapState) (k n : ℕ) : Type 0 where
  pub blocks : new.blocks ≡ old.blocks
  pub number : new.number ≡ old.number
  pub base : new.base ≡ old.base
  pub extent : length new.words ≡ length old.words
  pub head : block_word new k ≡ code_of (record { kind = kinds.LargeHead; class = n; owner = 0 })
  pub tails : (j : ℕ) → 0 < j → j < n
      → block_word new (k + j) ≡ code_of (record { kind = kinds.LargeTail; class = 0; owner = 0 })
  pub others : (i : ℕ) → (i < first old.blocks BlockWords + k)
      ⊎ (first old.blocks BlockWords + k + n ≤ i)
      → word_at new i ≡ word_at old i

-- The blocks that the object needs, from k on, become a large run. Then the object is written at
-- its start.
pub record WritesLargeObject (old new : HeapState) (k : ℕ) (n : Name) (refs nums : ℕ) : Type 0 where
  pub between : HeapState
  pub run : MakesRun old between k (blocks_for (size_of refs nums))
  pub object : WritesObject between new (block_start old.blocks k) n refs nums
