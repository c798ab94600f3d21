-- Free cells that begin at the addresses of one word of start bits.
use Rattle.std.specs.Prelude.{◌≡◌, ℕ, ◌+◌, ◌*◌, ◌/◌, ◌<◌, ◌≤◌, IsTrue}
use Rattle.std.specs.Int.{bit_at}
use Rattle.heap_layout.specs.Zones.{block_start}
use Rattle.object_model.specs.Objects.{HeapState, is_start}
use Rattle.side_meta.specs.declared.word.TheConstants.{BITS_PER_WORD}

-- Bit n of the word is clear, and a cell of `size` words begins there, if one begins at `bit`.
pub record IsClearStart (starts size bit n : ℕ) : Type 0 where
  pub index : ℕ
  pub start : n ≡ bit + index * size
  pub inside : n < BITS_PER_WORD
  pub clear : bit_at starts n ≡ 0

-- n is the first such bit
pub record IsFirstClear (starts size bit n : ℕ) : Type 0 where
  pub found : IsClearStart starts size bit n
  pub first : (m : ℕ) → IsClearStart starts size bit m → n ≤ m

-- there is no such bit
abbrev pub HasNoneClear : ℕ → ℕ → ℕ → Type 0
HasNoneClear starts size bit = (n : ℕ) → IsClearStart starts size bit n → ⊥

-- No object begins at offset x of block k, whose start bit is in one word with that of offset `at`.
-- A cell of `size` words begins at x, if one begins at `at`.
pub record IsBeside (s : HeapState) (k size at x : ℕ) : Type 0 where
  pub index : ℕ
  pub start : x ≡ at + index * size
  pub inside : x < BITS_PER_WORD * (at / BITS_PER_WORD + 1)
  pub free : IsTrue (is_start s (block_start s.blocks k + x)) → ⊥

-- x is the first such offset
pub record IsFirstBeside (s : HeapState) (k size at x : ℕ) : Type 0 where
  pub found : IsBeside s k size at x
  pub first : (y : ℕ) → IsBeside s k size at y → x ≤ y

-- there is no such offset
abbrev pub HasNoneBeside : HeapState → ℕ → ℕ → ℕ → Type 0
HasNoneBeside s k size at = (x : ℕ) → IsBeside s k size at x → ⊥
