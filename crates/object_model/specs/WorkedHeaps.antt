-- Worked heaps: four blocks with one object at the first address, and heaps that are built from
-- blocks and objects.
use Rattle.std.specs.Prelude.{ℕ, ◌+◌, ◌*◌, ◌-◌, ◌/◌, ◌%◌, ◌^◌, Bool, true, false, ◌&&◌, if◌then◌else◌, nat_eq, nat_le}
use Rattle.std.specs.Prelude.{nat_lt, List, ◌∷◌, ◌++◌, length, map, replicate, sum_by, slice_index, slice_set}
use Rattle.std.specs.List.{range_with_len, list_any}
use Rattle.forward_word.specs.CollectorWords.{collector_word}
use Rattle.heap_layout.specs.Zones.{row_words, first, Globals, BlockWords, LineWords, StartBits, PinBits, UnlogBits}
use Rattle.heap_layout.specs.Zones.{HeapWords}
use Rattle.heap_layout.specs.Blocks.{code_of}
use Rattle.heap_layout.specs.declared.block.BlockWord.{BlockWord}
use Rattle.heap_layout.specs.declared.block.Kind.{Kind}
use Rattle.ideal_heap.specs.declared.name.Name.{Name}
use Rattle.ideal_heap.specs.Names.{name, name_code}
use Rattle.object_model.specs.Objects.{HeapState, empty_heap, with_words, size_of, shape_code}
use Rattle.object_model.specs.Births.{with_block}
use Rattle.side_meta.specs.declared.word.TheConstants.{BITS_PER_WORD}

-- the word of a block without an owner
abbrev pub unowned : Kind → ℕ → BlockWord
unowned kind class = record { kind = kind; class = class; owner = 0 }

-- block 0 has this kind and class, and blocks 1 to 3 are Free
abbrev pub one_block : Kind → ℕ → HeapState
one_block kind class = with_block (empty_heap 4) 0 (unowned kind class)

-- the heap with these bits for the first 64 lines
abbrev pub with_lines : HeapState → ℕ → HeapState
with_lines s bits = with_words s (slice_set s.words 22 bits)

-- the heap with mutator 1's first object, of `nums` numbers and no references: its start bit, name
-- and shape
abbrev pub with_first_object : HeapState → ℕ → HeapState
with_first_object s nums =
    with_words s (slice_set (slice_set (slice_set s.words 38 1) 806 33) 807 (65536 * nums))

-- An object of a built heap: its block and its offset in it, its name, the words of its fields, the
-- number of the collection that last met it (0 for none), and its pin and unlog bits.
pub record WorkedObject : Type 0 where
  pub block : ℕ
  pub offset : ℕ
  pub name : Name
  pub refs : List ℕ
  pub nums : List ℕ
  pub number : ℕ
  pub pinned : Bool
  pub unlogged : Bool

-- an object of mutator 1 with these references and `nums` zeros, neither pinned nor unlogged
abbrev pub plain_object : ℕ → ℕ → ℕ → List ℕ → ℕ → ℕ → WorkedObject
plain_object block offset birth refs nums number = record {
  block = block;
  offset = offset;
  name = name 1 birth;
  refs = refs;
  nums = replicate nums 0;
  number = number;
  pinned = false;
  unlogged = false;
}

-- What a heap is built from: the words of its blocks, its objects, its globals, and its numbers.
pub record WorkedHeap : Type 0 where
  pub blocks : List BlockWord
  pub objects : List WorkedObject
  pub globals : List ℕ
  pub number : ℕ
  pub base : ℕ

-- how many words precede the object in the blocks, and how many it has
abbrev pub words_before : WorkedObject → ℕ
words_before o = 4096 * o.block + o.offset

abbrev pub worked_size : WorkedObject → ℕ
worked_size o = size_of (length o.refs) (length o.nums)

-- the words of an object at the address: name, shape, collector word, references, numbers
abbrev pub object_words : ℕ → WorkedObject → List ℕ
object_words a o =
    name_code o.name ∷ shape_code (length o.refs) (length o.nums)
    ∷ (if nat_eq o.number 0 then 0 else collector_word o.number a) ∷ o.refs ++ o.nums

-- word i of the heap's blocks, where the first is at the address
abbrev pub object_word : ℕ → List WorkedObject → ℕ → ℕ
object_word start objects i = sum_by
    (λ o. if nat_le (words_before o) i then slice_index (object_words (start + words_before o) o)
    (i - words_before o) else 0)
    objects

-- word i of a zone with a bit for each word of the heap, set where an object that passes the test
-- begins
abbrev pub mark_word : (WorkedObject → Bool) → List WorkedObject → ℕ → ℕ
mark_word test objects i = sum_by
    (λ o. if test o && nat_eq (words_before o / BITS_PER_WORD) i
    then 2 ^ (words_before o % BITS_PER_WORD) else 0) objects

-- the object has a word in this line, counted from the first line of the heap
abbrev pub touches_line : ℕ → WorkedObject → Bool
touches_line line o = nat_lt (words_before o) (16 * (line + 1))
    && nat_lt (16 * line) (words_before o + worked_size o)

-- word i of the line bits: set where an object of an Immix block has a word in the line
abbrev pub line_word : List BlockWord → List WorkedObject → ℕ → ℕ
line_word blocks objects i =
    if nat_eq (slice_index (map code_of blocks) (i / 4) % 256) 4 then
    sum_by (λ l. if list_any (touches_line (BITS_PER_WORD * i + l)) objects then 2 ^ l else 0)
    (range_with_len 0 BITS_PER_WORD) else 0

-- word i of the row, of b blocks
abbrev pub built_word : WorkedHeap → ℕ → ℕ → ℕ
built_word h b i =
    if nat_lt i (first b Globals) then 0
    else if nat_lt i (first b BlockWords) then slice_index h.globals (i - first b Globals)
    else if nat_lt i (first b LineWords) then slice_index (map code_of h.blocks)
    (i - first b BlockWords)
    else if nat_lt i (first b StartBits) then line_word h.blocks h.objects (i - first b LineWords)
    else if nat_lt i (first b PinBits) then mark_word (λ o. true) h.objects (i - first b StartBits)
    else if nat_lt i (first b UnlogBits) then mark_word (λ o. o.pinned) h.objects
    (i - first b PinBits)
    else if nat_lt i (first b HeapWords) then mark_word (λ o. o.unlogged) h.objects
    (i - first b UnlogBits)
    else object_word (first b HeapWords) h.objects (i - first b HeapWords)

-- the heap that is built from blocks and objects
abbrev pub build_heap : WorkedHeap → HeapState
build_heap h = record {
  words = map (built_word h (length h.blocks)) (range_with_len 0 (row_words (length h.blocks)));
  blocks = length h.blocks;
  number = h.number;
  base = h.base;
}
