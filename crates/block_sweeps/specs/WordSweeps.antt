-- Sweeps of words of start bits: what becomes of each bit of a word.
use Rattle.std.specs.Prelude.{◌≡◌, ℕ, ◌+◌, ◌*◌, ◌<◌, ◌⊎◌, ◌&&◌, Bool, IsTrue, List, length}
use Rattle.side_meta.specs.BitWords.{has_bit}
use Rattle.heap_layout.specs.Zones.{row_words, first, StartBits, PinBits, UnlogBits}
use Rattle.object_model.specs.Objects.{HeapState, word_at}
use Rattle.object_model.specs.Ages.{is_survivor}
pub use Rattle.object_model.specs.BitWords.{address_of}
use Rattle.block_sweeps.specs.Sweeping.{IsAmong, ChangesOnly}
use Rattle.heap_layout.specs.declared.layout.TheConstants.{BLOCK_BIT_WORDS}
use Rattle.side_meta.specs.declared.word.TheConstants.{BITS_PER_WORD}

-- the object at a survived collection `base` or a later one, by the words alone
abbrev pub survives : List ℕ → ℕ → ℕ → Bool
survives words base a =
    is_survivor (record { words = words; blocks = 0; number = 0; base = 0 }) base a

-- word i of start, pin and unlog bits
abbrev pub start_word : HeapState → ℕ → ℕ
start_word s i = word_at s (first s.blocks StartBits + i)

abbrev pub pin_word : HeapState → ℕ → ℕ
pin_word s i = word_at s (first s.blocks PinBits + i)

abbrev pub unlog_word : HeapState → ℕ → ℕ
unlog_word s i = word_at s (first s.blocks UnlogBits + i)

-- word n has start, pin or unlog bits, of those from index `from` on
abbrev pub IsMarkAmong : ℕ → ℕ → ℕ → ℕ → Type 0
IsMarkAmong b from count n = IsAmong (first b StartBits + from) count n
    ⊎ IsAmong (first b PinBits + from) count n
    ⊎ IsAmong (first b UnlogBits + from) count n

-- Word i of start bits may be swept: its objects' collector words are words of the row, and pin and
-- unlog bits are set only at its objects.
pub record MaySweep (s : HeapState) (i : ℕ) : Type 0 where
  pub extent : length s.words ≡ row_words s.blocks
  pub inside : i < BLOCK_BIT_WORDS * s.blocks
  pub objects : (j : ℕ) → j < BITS_PER_WORD → IsTrue (has_bit (start_word s i) j)
      → address_of s i j + 2 < row_words s.blocks
  pub pins : (j : ℕ) → j < BITS_PER_WORD → IsTrue (has_bit (pin_word s i) j)
      → IsTrue (has_bit (start_word s i) j)
  pub unlogs : (j : ℕ) → j < BITS_PER_WORD → IsTrue (has_bit (unlog_word s i) j)
      → IsTrue (has_bit (start_word s i) j)

-- Words of start bits were swept: of the `count` words from index `from` on, a start bit is left
-- where an object survived, and pin and unlog bits only there.
pub record SweepsWords (base from count : ℕ) (s s' : HeapState) : Type 0 where
  pub starts : (i j : ℕ) → IsAmong from count i → j < BITS_PER_WORD
      → has_bit (start_word s' i) j
      ≡ (has_bit (start_word s i) j && is_survivor s base (address_of s i j))
  pub pins : (i j : ℕ) → IsAmong from count i → j < BITS_PER_WORD
      → has_bit (pin_word s' i) j ≡ (has_bit (pin_word s i) j && has_bit (start_word s' i) j)
  pub unlogs : (i j : ℕ) → IsAmong from count i → j < BITS_PER_WORD
      → has_bit (unlog_word s' i) j ≡ (has_bit (unlog_word s i) j && has_bit (start_word s' i) j)
  pub rest : ChangesOnly (IsMarkAmong s.blocks from count) s s'
