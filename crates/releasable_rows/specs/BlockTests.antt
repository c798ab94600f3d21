-- What tests of a block's words find. Addresses in a block are given by their offsets.
use Rattle.heap_layout.specs.declared.layout.TheConstants.{BLOCK_WORDS}
use Rattle.std.specs.Prelude.{◌≡◌, ℕ, ◌+◌, ◌*◌, ◌%◌, ◌<◌, ◌≤◌, ◌||◌, IsTrue, false}
use Rattle.heap_layout.specs.Zones.{block_start}
use Rattle.heap_layout.specs.declared.block.Kind.TheVariants as kinds
use Rattle.object_model.specs.Objects.{HeapState, HasKind, line_marked, is_start, is_pinned, is_unlogged, size_at}
use Rattle.object_model.specs.Objects.{blocks_for}
use Rattle.object_model.specs.Lawful.{HasObject}
use Rattle.object_model.specs.declared.shape.TheConstants.{MAX_MEDIUM_WORDS}

-- the address of word o of block k
abbrev pub word_in_block : HeapState → ℕ → ℕ → ℕ
word_in_block s k o = block_start s.blocks k + o

-- no address from `from` on, before `to`, has a start, pin or unlog bit
abbrev pub HasNoMark : HeapState → ℕ → ℕ → Type 0
HasNoMark s from to = (a : ℕ) → from ≤ a → a < to
    → IsTrue (is_start s a || is_pinned s a || is_unlogged s a) → ⊥

-- no line of block k is marked
abbrev pub HasNoLine : HeapState → ℕ → Type 0
HasNoLine s k = (line : ℕ) → line < 256 → IsTrue (line_marked s k line) → ⊥

-- the blocks from block `from` on, before block `to`, are later blocks of large runs
abbrev pub AreTails : HeapState → ℕ → ℕ → Type 0
AreTails s from to = (j : ℕ) → from ≤ j → j < to → HasKind s j kinds.LargeTail

-- An object of this size at offset o of block k has a name and a shape, is no large one, and lies
-- after `end`.
pub record IsNext (s : HeapState) (k o end next : ℕ) : Type 0 where
  pub object : HasObject s (word_in_block s k o)
  pub small : size_at s (word_in_block s k o) ≤ MAX_MEDIUM_WORDS
  pub after : end ≤ o
  pub ends : next ≡ o + size_at s (word_in_block s k o)

-- The objects of block k before offset o end at `end`, those up to it at `next`. A pin or unlog bit
-- at o is an object's.
pub record ObjectsGoOn (s : HeapState) (k o end next : ℕ) : Type 0 where
  pub object : IsTrue (is_start s (word_in_block s k o)) → IsNext s k o end next
  pub none : is_start s (word_in_block s k o) ≡ false → next ≡ end
  pub inside : next ≤ BLOCK_WORDS
  pub marks : IsTrue (is_pinned s (word_in_block s k o) || is_unlogged s (word_in_block s k o))
      → IsTrue (is_start s (word_in_block s k o))

-- The objects of block k that begin before offset `to` have names and shapes, are no large ones,
-- share no word, and end at `end` at most, in the block. Pin and unlog bits before `to` are those
-- of objects.
pub record HoldsSmall (s : HeapState) (k to end : ℕ) : Type 0 where
  pub object : (o : ℕ) → o < to → IsTrue (is_start s (word_in_block s k o))
      → HasObject s (word_in_block s k o)
  pub small : (o : ℕ) → o < to → IsTrue (is_start s (word_in_block s k o))
      → size_at s (word_in_block s k o) ≤ MAX_MEDIUM_WORDS
  pub ends : (o : ℕ) → o < to → IsTrue (is_start s (word_in_block s k o))
      → o + size_at s (word_in_block s k o) ≤ end
  pub apart : (o p : ℕ) → o < p → p < to → IsTrue (is_start s (word_in_block s k o))
      → IsTrue (is_start s (word_in_block s k p)) → o + size_at s (word_in_block s k o) ≤ p
  pub marks : (o : ℕ) → o < to
      → IsTrue (is_pinned s (word_in_block s k o) || is_unlogged s (word_in_block s k o))
      → IsTrue (is_start s (word_in_block s k o))
  pub inside : end ≤ BLOCK_WORDS

-- an object of this size at offset o has a cell of its own, of `cell` words
pub record IsInCell (cell o size : ℕ) : Type 0 where
  pub start : o % cell ≡ 0
  pub room : size ≤ cell
  pub within : o + cell ≤ BLOCK_WORDS

-- each object of block k that begins before offset `to` has a cell of its own, of `cell` words
abbrev pub AreInCells : HeapState → ℕ → ℕ → ℕ → Type 0
AreInCells s k cell to = (o : ℕ) → o < to → IsTrue (is_start s (word_in_block s k o))
    → IsInCell cell o (size_at s (word_in_block s k o))

-- Block k and the n - 1 blocks after it hold one large object, which begins at word 0.
pub record HoldsLarge (s : HeapState) (k n : ℕ) : Type 0 where
  pub inside : k + n ≤ s.blocks
  pub start : IsTrue (is_start s (block_start s.blocks k))
  pub object : HasObject s (block_start s.blocks k)
  pub large : MAX_MEDIUM_WORDS < size_at s (block_start s.blocks k)
  pub class : blocks_for (size_at s (block_start s.blocks k)) ≡ n
  pub tails : AreTails s (k + 1) (k + n)
  pub rest : HasNoMark s (block_start s.blocks k + 1) (block_start s.blocks k + BLOCK_WORDS * n)
