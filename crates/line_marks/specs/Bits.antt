-- First and last bits, and runs of clear bits, in a list of words.
use Rattle.heap_layout.specs.declared.layout.TheConstants.{BLOCK_LINES}
use Rattle.std.specs.Prelude.{◌≡◌, ℕ, ◌+◌, ◌*◌, ◌-◌, ◌/◌, ◌%◌, ◌<◌, ◌≤◌, ◌⊎◌, Bool, true, false, List, length}
use Rattle.std.specs.Prelude.{slice_index, nat_eq}
use Rattle.std.specs.Int.{bit_at}
use Rattle.side_meta.specs.declared.word.TheConstants.{BITS_PER_WORD}

-- bit n of a list of words: bit n mod 64 of word n / 64
abbrev pub bit_in : List ℕ → ℕ → Bool
bit_in words n = nat_eq (bit_at (slice_index words (n / BITS_PER_WORD)) (n % BITS_PER_WORD)) 1

-- n is the lowest set bit of the word at or after bit `from`
pub record IsFirstSet (word from n : ℕ) : Type 0 where
  pub after : from ≤ n
  pub inside : n < BITS_PER_WORD
  pub set : bit_at word n ≡ 1
  pub others : (m : ℕ) → from ≤ m → m < n → bit_at word m ≡ 0

-- no bit at or after bit `from` is set
abbrev pub HasNoneSet : ℕ → ℕ → Type 0
HasNoneSet word from = (m : ℕ) → from ≤ m → m < BITS_PER_WORD → bit_at word m ≡ 0

-- n is the first bit with this value at or after bit `from`
pub record IsFirstBit (words : List ℕ) (value : Bool) (from n : ℕ) : Type 0 where
  pub after : from ≤ n
  pub inside : n < BITS_PER_WORD * length words
  pub is : bit_in words n ≡ value
  pub others : (m : ℕ) → from ≤ m → m < n → bit_in words m ≡ value → ⊥

-- no bit at or after bit `from` has this value
abbrev pub HasNoBit : List ℕ → Bool → ℕ → Type 0
HasNoBit words value from = (m : ℕ) → from ≤ m → m < BITS_PER_WORD * length words
    → bit_in words m ≡ value → ⊥

-- n is the last set bit
pub record IsLastBit (words : List ℕ) (n : ℕ) : Type 0 where
  pub inside : n < BITS_PER_WORD * length words
  pub set : bit_in words n ≡ true
  pub others : (m : ℕ) → m < BITS_PER_WORD * length words → bit_in words m ≡ true → m ≤ n

-- in words with a bit for each line of a block, the run of clear bits that contains bit x ends
-- before bit `end`
pub record IsRunEnd (words : List ℕ) (x end : ℕ) : Type 0 where
  pub after : x < end
  pub inside : end ≤ BLOCK_LINES
  pub clear : (m : ℕ) → x ≤ m → m < end → bit_in words m ≡ false
  pub set : end < BLOCK_LINES → bit_in words end ≡ true

-- in words with a bit for each line of a block, the `needed` bits from x on are clear
pub record IsClearFrom (words : List ℕ) (x needed : ℕ) : Type 0 where
  pub inside : x + needed ≤ BLOCK_LINES
  pub clear : (m : ℕ) → x ≤ m → m < x + needed → bit_in words m ≡ false

-- The bits from x up to `end` are the first run of at least `needed` clear bits, among the bits at
-- or after `from`.
pub record IsFirstClearRun (words : List ℕ) (from needed x end : ℕ) : Type 0 where
  pub after : from ≤ x
  pub room : x + needed ≤ end
  pub inside : end ≤ BLOCK_LINES
  pub clear : (m : ℕ) → x ≤ m → m < end → bit_in words m ≡ false
  pub begins : (x ≡ from) ⊎ ((0 < x) × (bit_in words (x - 1) ≡ true))
  pub ends : end < BLOCK_LINES → bit_in words end ≡ true
  pub first : (y : ℕ) → from ≤ y → y < x → IsClearFrom words y needed → ⊥

-- there is no run of `needed` clear bits at or after bit `from`
abbrev pub HasNoClearRun : List ℕ → ℕ → ℕ → Type 0
HasNoClearRun words from needed = (y : ℕ) → from ≤ y → IsClearFrom words y needed → ⊥
