-- The zones of a heap's row of words. b is the number of blocks. Indexes and sizes are in words.
use Rattle.std.specs.Prelude.{ℕ, ◌≡◌, length, ◌+◌, ◌*◌, ◌-◌, ◌/◌, ◌%◌, ◌<◌, ◌≤◌, List, slice_index, nat_eq, nat_le}
use Rattle.std.specs.Prelude.{nat_lt, ◌&&◌, Bool}
use Rattle.std.specs.Int.{bit_at}
use Rattle.heap_layout.specs.declared.layout.Layout.{Layout}
use Rattle.heap_layout.specs.declared.layout.TheConstants.{STOP_WORD, BUDGET_WORD, BLOCK_BIT_WORDS}
use Rattle.heap_layout.specs.declared.layout.TheConstants.{BLOCK_LINE_BIT_WORDS, BLOCK_WORDS, LINE_WORDS, GLOBALS}

-- the parts of the row, in order
pub data Zone : Type 0 where
  StopWord : Zone
  BudgetWord : Zone
  Globals : Zone
  BlockWords : Zone
  LineWords : Zone
  StartBits : Zone
  PinBits : Zone
  UnlogBits : Zone
  HeapWords : Zone

-- the first index of a zone
abbrev pub first : ℕ → Zone → ℕ
first b StopWord = STOP_WORD
first b BudgetWord = BUDGET_WORD
first b Globals = 2
first b BlockWords = 18
first b LineWords = 18 + b
first b StartBits = 18 + 5 * b
first b PinBits = 18 + 69 * b
first b UnlogBits = 18 + 133 * b
first b HeapWords = 18 + 197 * b

-- the number of words of a zone
abbrev pub extent : ℕ → Zone → ℕ
extent b StopWord = 1
extent b BudgetWord = 1
extent b Globals = GLOBALS
extent b BlockWords = b
extent b LineWords = BLOCK_LINE_BIT_WORDS * b
extent b StartBits = BLOCK_BIT_WORDS * b
extent b PinBits = BLOCK_BIT_WORDS * b
extent b UnlogBits = BLOCK_BIT_WORDS * b
extent b HeapWords = BLOCK_WORDS * b

-- the number of words of the row
abbrev pub row_words : ℕ → ℕ
row_words b = 18 + 4293 * b

-- the words are a whole row of this layout
abbrev pub IsRowOf : Layout → List ℕ → Type 0
IsRowOf layout words = length words ≡ row_words layout.blocks

-- the index i lies in the zone
pub record InZone (b : ℕ) (z : Zone) (i : ℕ) : Type 0 where
  pub from : first b z ≤ i
  pub below : i < first b z + extent b z

-- the first address of the heap
abbrev pub heap_of : ℕ → ℕ
heap_of b = first b HeapWords

-- a is an address: the index of a word of the heap
pub record IsAddress (b a : ℕ) : Type 0 where
  pub from : heap_of b ≤ a
  pub below : a < row_words b

-- the block of an address, its offset in the block, and its line, counted from the first line of
-- the heap
abbrev pub block_at : ℕ → ℕ → ℕ
block_at b a = (a - heap_of b) / BLOCK_WORDS

abbrev pub offset_at : ℕ → ℕ → ℕ
offset_at b a = (a - heap_of b) % BLOCK_WORDS

abbrev pub line_at : ℕ → ℕ → ℕ
line_at b a = (a - heap_of b) / LINE_WORDS

-- the first address of block k
abbrev pub block_start : ℕ → ℕ → ℕ
block_start b k = heap_of b + BLOCK_WORDS * k

-- bit n of a zone, in the row w: bit n mod 64 of the zone's word n / 64
abbrev pub bit_of : ℕ → Zone → List ℕ → ℕ → Bool
bit_of b z w n = nat_eq (bit_at (slice_index w (first b z + n / 64)) (n % 64)) 1

-- the bit of an address in a zone with a bit for each word of the heap; false if the index is no
-- address
abbrev pub address_bit : ℕ → Zone → List ℕ → ℕ → Bool
address_bit b z w a = nat_le (heap_of b) a && nat_lt a (row_words b) && bit_of b z w (a - heap_of b)
