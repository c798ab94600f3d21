-- The heap invariant: when a heap is lawful. Each part is a relation of its own.
use Rattle.std.specs.Prelude.{◌≡◌, ◌≢◌, ℕ, ◌+◌, ◌*◌, ◌%◌, ◌^◌, ◌<◌, ◌≤◌, Bool, ◌&&◌, ◌||◌, IsTrue, List, length, nat_lt}
use Rattle.std.specs.Prelude.{slice_index, EachIndex}
use Rattle.std.specs.List.{range_with_len, list_any}
use Rattle.heap_layout.specs.Zones.{row_words, block_at, offset_at, block_start, IsAddress}
use Rattle.heap_layout.specs.declared.block.Kind.TheVariants as kinds
use Rattle.heap_layout.specs.Blocks.{is_block_code}
use Rattle.ideal_heap.specs.Names.{IsName}
use Rattle.object_model.specs.Objects.{HeapState, word_at, global_at, block_word, has_kind, HasKind, class_at, owner_at}
use Rattle.object_model.specs.Objects.{line_marked, is_start, is_pinned, is_unlogged, IsHeld, name_at, refs_at, nums_at}
use Rattle.object_model.specs.Objects.{size_at, number_at, target_at, ref_at, is_reference, IsInExtent, IsInExtentOf}
use Rattle.object_model.specs.Objects.{cell_words, blocks_for}
use Rattle.heap_layout.specs.declared.layout.TheConstants.{BLOCK_LINES, BLOCK_WORDS, MAX_BLOCKS, GLOBALS, MIN_BLOCKS}
use Rattle.ideal_heap.specs.declared.command.TheConstants.{MAX_REFS, MAX_NUMS}
use Rattle.object_model.specs.Lines.{TouchesLine}
use Rattle.object_model.specs.declared.shape.TheConstants.{MAX_MEDIUM_WORDS}

-- The row has as many words as its layout, each of 64 bits, and the last full collection is no
-- later than the last one.
pub record IsRow (s : HeapState) : Type 0 where
  pub least : MIN_BLOCKS ≤ s.blocks
  pub most : s.blocks ≤ MAX_BLOCKS
  pub extent : length s.words ≡ row_words s.blocks
  pub words : (i : ℕ) → word_at s i < 2 ^ 64
  pub base : s.base ≤ s.number

-- the first two words at a are an object's name and shape
pub record HasObject (s : HeapState) (a : ℕ) : Type 0 where
  pub name : IsName (name_at s a)
  pub refs : refs_at s a ≤ MAX_REFS
  pub nums : nums_at s a ≤ MAX_NUMS

-- The first three words at a are an object's header. The collector word has the number of a past
-- collection, and then the address a, or the number 0.
pub record HasHeader (s : HeapState) (a : ℕ) : Type 0 where
  pub object : HasObject s a
  pub number : number_at s a ≤ s.number
  pub target : 0 < number_at s a → target_at s a ≡ a

-- block k is of a kind that holds small and medium objects
abbrev pub has_small : HeapState → ℕ → Bool
has_small s k = has_kind s k kinds.Bump || has_kind s k kinds.Young || has_kind s k kinds.Mature
    || has_kind s k kinds.Immix || has_kind s k kinds.Cells || has_kind s k kinds.Kept

-- An object of this size at a lies at the start of a cell that is large enough, within the block.
pub record LiesInCell (s : HeapState) (a size : ℕ) : Type 0 where
  pub start : offset_at s.blocks a % cell_words (class_at s (block_at s.blocks a)) ≡ 0
  pub room : size ≤ cell_words (class_at s (block_at s.blocks a))
  pub within : offset_at s.blocks a + cell_words (class_at s (block_at s.blocks a)) ≤ BLOCK_WORDS

-- A small or medium object of this size at a lies within one block, of a kind that holds such
-- objects.
pub record LiesInBlock (s : HeapState) (a size : ℕ) : Type 0 where
  pub address : IsAddress s.blocks a  -- not a word of the side metadata
  pub within : offset_at s.blocks a + size ≤ BLOCK_WORDS
  pub kind : IsTrue (has_small s (block_at s.blocks a))
  pub cell : HasKind s (block_at s.blocks a) kinds.Cells → LiesInCell s a size

-- Blocks k to k + n - 1 are a large run: a head whose class is n, and n - 1 tails.
pub record IsRunOfBlocks (s : HeapState) (k n : ℕ) : Type 0 where
  pub head : HasKind s k kinds.LargeHead
  pub class : class_at s k ≡ n
  pub inside : k + n ≤ s.blocks
  pub tails : (j : ℕ) → 0 < j → j < n → HasKind s (k + j) kinds.LargeTail

-- A large object of this size at a begins at word 0 of a run of as many blocks as it needs.
pub record LiesInRun (s : HeapState) (a size : ℕ) : Type 0 where
  pub address : IsAddress s.blocks a
  pub start : offset_at s.blocks a ≡ 0
  pub run : IsRunOfBlocks s (block_at s.blocks a) (blocks_for size)

-- An object of this size may lie at a: a small or medium one within a block, a large one in a run.
pub record Lies (s : HeapState) (a size : ℕ) : Type 0 where
  pub small : size ≤ MAX_MEDIUM_WORDS → LiesInBlock s a size
  pub large : MAX_MEDIUM_WORDS < size → LiesInRun s a size

-- The object at a can be read: it is held, has a name and a shape, and ends within the row. The
-- rest of the row is left open.
pub record IsReadable (s : HeapState) (a : ℕ) : Type 0 where
  pub extent : length s.words ≡ row_words s.blocks
  pub held : IsHeld s a
  pub object : HasObject s a
  pub inside : a + size_at s a ≤ row_words s.blocks

-- Block k and the held objects that begin in it can be read.
pub record IsReadableBlock (s : HeapState) (k : ℕ) : Type 0 where
  pub extent : length s.words ≡ row_words s.blocks
  pub block : k < s.blocks
  pub code : IsTrue (is_block_code (block_word s k))
  pub objects : (a : ℕ) → IsHeld s a → block_at s.blocks a ≡ k
      → HasObject s a × Lies s a (size_at s a)

-- a reference field may hold v: nil, or the address of a held object
abbrev pub IsRefField : HeapState → ℕ → Type 0
IsRefField s v = IsTrue (is_reference v) → IsHeld s v

-- a register or a global may hold v: nil, or the address of a held object
abbrev pub IsRoot : HeapState → ℕ → Type 0
IsRoot s v = v ≢ 0 → IsHeld s v

-- each of these values is nil or the address of a held object
abbrev pub AreRoots : HeapState → List ℕ → Type 0
AreRoots s roots = EachIndex roots (λ i. IsRoot s (slice_index roots i))

-- block k is in a run that begins before it
abbrev pub is_in_run : HeapState → ℕ → Bool
is_in_run s k =
    list_any (λ h. has_kind s h kinds.LargeHead && nat_lt k (h + class_at s h)) (range_with_len 0 k)

-- the heap invariant for objects, references and names
pub record HasLawfulObjects (s : HeapState) : Type 0 where
  pub headers : (a : ℕ) → IsHeld s a → HasHeader s a
  -- pin and unlog bits are set only at held objects
  pub marks : (a : ℕ) → IsTrue (is_pinned s a || is_unlogged s a) → IsHeld s a
  pub lies : (a : ℕ) → IsHeld s a → Lies s a (size_at s a)
  -- no word belongs to two objects
  pub apart : (a x i : ℕ) → IsHeld s a → IsHeld s x → IsInExtent s a i → IsInExtent s x i → a ≡ x
  pub heads : (k : ℕ) → HasKind s k kinds.LargeHead → IsHeld s (block_start s.blocks k)
      × (MAX_MEDIUM_WORDS < size_at s (block_start s.blocks k))
  pub tails : (k : ℕ) → HasKind s k kinds.LargeTail → IsTrue (is_in_run s k)
  pub references : (a i : ℕ) → IsHeld s a → i < refs_at s a → IsRefField s (ref_at s a i)
  pub globals : (g : ℕ) → g < GLOBALS → IsRoot s (global_at s g)
  pub names : (a x : ℕ) → IsHeld s a → IsHeld s x → name_at s a ≡ name_at s x → a ≡ x

-- Block k is clear: no held object has a word in it, and none of its line, start, pin and unlog
-- bits is set.
pub record IsClear (s : HeapState) (k : ℕ) : Type 0 where
  pub empty : (a i : ℕ) → IsHeld s a → IsInExtent s a i → block_at s.blocks i ≢ k
  pub lines : (line : ℕ) → line < BLOCK_LINES → IsTrue (line_marked s k line) → ⊥
  pub marks : (a : ℕ) → block_at s.blocks a ≡ k
      → IsTrue (is_start s a || is_pinned s a || is_unlogged s a) → ⊥

abbrev pub FreeBlockIsClear : HeapState → ℕ → Type 0
FreeBlockIsClear s k = HasKind s k kinds.Free → IsClear s k

-- a held object touches this line of block k
pub record IsTouched (s : HeapState) (k line : ℕ) : Type 0 where
  pub object : ℕ
  pub held : IsHeld s object
  pub touches : TouchesLine s.blocks object (size_at s object) (BLOCK_LINES * k + line)

-- A line bit of an Immix block is set if and only if a held object touches the line.
pub record LineBitsAreExact (s : HeapState) (k : ℕ) : Type 0 where
  pub marked : (line : ℕ) → HasKind s k kinds.Immix → line < BLOCK_LINES
      → IsTrue (line_marked s k line)
      → ∥ IsTouched s k line ∥₁
  pub touched : (line : ℕ) → HasKind s k kinds.Immix → line < BLOCK_LINES → IsTouched s k line
      → IsTrue (line_marked s k line)

-- The row, and its objects, references and names, are well formed. Owners, line bits and the codes
-- of block words are left open, so this also holds while mutators fill blocks that they own.
pub record IsWellFormed (s : HeapState) : Type 0 where
  pub row : IsRow s
  pub objects : HasLawfulObjects s

-- the word of block k is a code, and the block has no owner
pub record IsUnowned (s : HeapState) (k : ℕ) : Type 0 where
  pub code : IsTrue (is_block_code (block_word s k))
  pub owner : owner_at s k ≡ 0

-- the heap invariant without its part on line bits
pub record IsLawfulButLines (s : HeapState) : Type 0 where
  pub order : IsWellFormed s
  pub blocks : (k : ℕ) → k < s.blocks → IsUnowned s k
  pub free : (k : ℕ) → FreeBlockIsClear s k

-- the heap invariant
pub record IsLawful (s : HeapState) : Type 0 where
  pub but_lines : IsLawfulButLines s
  pub lines : (k : ℕ) → LineBitsAreExact s k

-- each held object lies where one of its size may lie
abbrev pub AllLie : HeapState → Type 0
AllLie s = (a : ℕ) → IsHeld s a → Lies s a (size_at s a)

-- no held object has one of the `size` words from a on
abbrev pub MeetsNoObject : HeapState → ℕ → ℕ → Type 0
MeetsNoObject s a size = (x i : ℕ) → IsHeld s x → IsInExtent s x i → IsInExtentOf a size i → ⊥
