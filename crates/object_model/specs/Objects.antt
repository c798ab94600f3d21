-- The state of a heap, and how blocks, bits, globals and objects are read from its row of words.
use Rattle.std.specs.Prelude.{ℕ, ◌+◌, ◌-◌, ◌*◌, ◌/◌, ◌%◌, ◌<◌, ◌≤◌, Bool, ◌&&◌, not, List, [], ◌∷◌, map, replicate}
use Rattle.std.specs.Prelude.{slice_index, nat_eq, nat_lt, IsTrue, if◌then◌else◌, count_by}
use Rattle.std.specs.List.{range_with_len}
use Rattle.forward_word.specs.CollectorWords.{number_in, target_in}
use Rattle.heap_layout.specs.Zones.{row_words, first, Globals, BlockWords, LineWords, StartBits, PinBits, UnlogBits}
use Rattle.heap_layout.specs.Zones.{bit_of, address_bit, IsAddress}
use Rattle.heap_layout.specs.declared.block.Kind.{Kind}
use Rattle.heap_layout.specs.declared.block_codes.TheConstants.{CLASS_UNIT, OWNER_UNIT}
use Rattle.heap_layout.specs.declared.layout.Layout.{Layout}
use Rattle.heap_layout.specs.declared.layout.TheConstants.{BLOCK_LINES, BLOCK_WORDS, LINE_WORDS}
use Rattle.heap_layout.specs.Blocks.{kind_code}
use Rattle.ideal_heap.specs.declared.name.Name.{Name}
use Rattle.ideal_heap.specs.Names.{name_of}
use Rattle.ideal_heap.specs.Ideal.{Record, Field, Nil, At}
use Rattle.object_model.specs.declared.row.Row.{Row}
use Rattle.object_model.specs.declared.shape.TheConstants.{COLLECTOR_OFFSET, HEADER_WORDS, NUMS_UNIT, SHAPE_OFFSET}

-- The state of a heap: its row of words, how many blocks it has, and the numbers of the last
-- collection and of the last full one that reclaimed (the base), 0 before the first.
pub record HeapState : Type 0 where
  pub words : List ℕ
  pub blocks : ℕ
  pub number : ℕ
  pub base : ℕ

-- the heap with these words, layout and numbers
abbrev pub state_over : List ℕ → Layout → ℕ → ℕ → HeapState
state_over words layout number base = record {
  words = words;
  blocks = layout.blocks;
  number = number;
  base = base;
}

-- the heap that these words show under a layout, where its numbers do not matter
abbrev pub shown : List ℕ → Layout → HeapState
shown words layout = state_over words layout 0 0

abbrev pub state_of : Row → HeapState
state_of r = state_over r.words r.layout r.number r.base

-- the empty heap of b blocks: a row of zeros
abbrev pub empty_heap : ℕ → HeapState
empty_heap b = record { words = replicate (row_words b) 0; blocks = b; number = 0; base = 0 }

-- the same heap with other words
abbrev pub with_words : HeapState → List ℕ → HeapState
with_words s words = record s { words = words }

abbrev pub word_at : HeapState → ℕ → ℕ
word_at s i = slice_index s.words i

abbrev pub global_at : HeapState → ℕ → ℕ
global_at s g = word_at s (first s.blocks Globals + g)

-- the word of block k, and its parts: kind, class and owner
abbrev pub block_word : HeapState → ℕ → ℕ
block_word s k = word_at s (first s.blocks BlockWords + k)

-- block k is in the heap, and has this kind
abbrev pub has_kind : HeapState → ℕ → Kind → Bool
has_kind s k kind = nat_lt k s.blocks && nat_eq (block_word s k % CLASS_UNIT) (kind_code kind)

abbrev pub HasKind : HeapState → ℕ → Kind → Type 0
HasKind s k kind = IsTrue (has_kind s k kind)

abbrev pub class_at : HeapState → ℕ → ℕ
class_at s k = block_word s k / CLASS_UNIT % 256

abbrev pub owner_at : HeapState → ℕ → ℕ
owner_at s k = block_word s k / OWNER_UNIT

-- the bit of this line of block k, counted from 0
abbrev pub line_marked : HeapState → ℕ → ℕ → Bool
line_marked s k line = bit_of s.blocks LineWords s.words (BLOCK_LINES * k + line)

-- the start, pin and unlog bit of an address
abbrev pub is_start : HeapState → ℕ → Bool
is_start s a = address_bit s.blocks StartBits s.words a

abbrev pub is_pinned : HeapState → ℕ → Bool
is_pinned s a = address_bit s.blocks PinBits s.words a

abbrev pub is_unlogged : HeapState → ℕ → Bool
is_unlogged s a = address_bit s.blocks UnlogBits s.words a

-- An object is held at a: a is an address of the heap, and its start bit is set.
pub record IsHeld (s : HeapState) (a : ℕ) : Type 0 where
  pub address : IsAddress s.blocks a
  pub start : IsTrue (is_start s a)

-- the size in words of an object with this shape
abbrev pub size_of : ℕ → ℕ → ℕ
size_of refs nums = HEADER_WORDS + refs + nums

-- the word that encodes a shape
abbrev pub shape_code : ℕ → ℕ → ℕ
shape_code refs nums = refs + NUMS_UNIT * nums

-- The parts of the object at a: name, shape, size, the number and the target in its collector word,
-- references, numbers.
abbrev pub name_at : HeapState → ℕ → Name
name_at s a = name_of (word_at s a)

abbrev pub refs_at : HeapState → ℕ → ℕ
refs_at s a = word_at s (a + SHAPE_OFFSET) % NUMS_UNIT

abbrev pub nums_at : HeapState → ℕ → ℕ
nums_at s a = word_at s (a + SHAPE_OFFSET) / NUMS_UNIT

abbrev pub size_at : HeapState → ℕ → ℕ
size_at s a = size_of (refs_at s a) (nums_at s a)

abbrev pub number_at : HeapState → ℕ → ℕ
number_at s a = number_in (word_at s (a + COLLECTOR_OFFSET))

abbrev pub target_at : HeapState → ℕ → ℕ
target_at s a = target_in (word_at s (a + COLLECTOR_OFFSET))

abbrev pub ref_at : HeapState → ℕ → ℕ → ℕ
ref_at s a i = word_at s (a + HEADER_WORDS + i)

abbrev pub num_at : HeapState → ℕ → ℕ → ℕ
num_at s a j = word_at s (a + HEADER_WORDS + refs_at s a + j)

-- word i belongs to an object of this size at a
pub record IsInExtentOf (a size i : ℕ) : Type 0 where
  pub from : a ≤ i
  pub below : i < a + size

-- word i belongs to the object at a
abbrev pub IsInExtent : HeapState → ℕ → ℕ → Type 0
IsInExtent s a i = IsInExtentOf a (size_at s a) i

-- the word of a reference field refers to an object: it is not nil
abbrev pub is_reference : ℕ → Bool
is_reference v = not (nat_eq v 0)

-- the ideal field that the word of a reference field represents
abbrev pub field_of_word : HeapState → ℕ → Field
field_of_word s v = if is_reference v then At (name_at s v) else Nil

-- the ideal record that the object at a represents
abbrev pub record_at : HeapState → ℕ → Record
record_at s a = record {
  refs = map (λ i. field_of_word s (ref_at s a i)) (range_with_len 0 (refs_at s a));
  nums = map (λ j. num_at s a j) (range_with_len 0 (nums_at s a));
}

-- the size in words of a cell, by its class
abbrev pub cell_words : ℕ → ℕ
cell_words class =
    slice_index (4 ∷ 6 ∷ 8 ∷ 12 ∷ 16 ∷ 24 ∷ 32 ∷ 48 ∷ 64 ∷ 96 ∷ 128 ∷ 192 ∷ 256 ∷ 384 ∷ 512
    ∷ 768 ∷ 1024
    ∷ 1536 ∷ 2048 ∷ []) class

-- how many blocks, and how many lines, an object of `size` words needs
abbrev pub blocks_for : ℕ → ℕ
blocks_for size = (size + (BLOCK_WORDS - 1)) / BLOCK_WORDS

abbrev pub lines_for : ℕ → ℕ
lines_for size = (size + (LINE_WORDS - 1)) / LINE_WORDS

-- how many blocks pass a test
abbrev pub block_count : HeapState → (ℕ → Bool) → ℕ
block_count s test = count_by test (range_with_len 0 s.blocks)
