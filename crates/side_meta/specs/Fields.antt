-- Fields of bits in a row of words.
use Rattle.std.specs.Prelude.{◌≡◌, ◌≢◌, ℕ, ◌+◌, ◌*◌, ◌-◌, ◌/◌, ◌%◌, ◌^◌, ◌<◌, ◌≤◌, ◌⊎◌, Bool, List, length, slice_index}
use Rattle.std.specs.Prelude.{nat_eq}
use Rattle.std.specs.Int.{bit_at}
use Rattle.side_meta.specs.declared.spec.Spec.{Spec}
use Rattle.side_meta.specs.declared.word.TheConstants.{BITS_PER_WORD}

-- the number of bits of a field
abbrev pub field_bits : Spec → ℕ
field_bits s = 2 ^ s.log_bits

-- the region of an address, counted from the first region
abbrev pub field_index : Spec → ℕ → ℕ
field_index s a = (a - s.heap) / 2 ^ s.log_region

-- the index of the word that contains the field of an address, and the index of its lowest bit in
-- that word
abbrev pub place_word : Spec → ℕ → ℕ
place_word s a = s.zone + field_index s a * field_bits s / BITS_PER_WORD

abbrev pub place_shift : Spec → ℕ → ℕ
place_shift s a = field_index s a * field_bits s % BITS_PER_WORD

-- the value of the field of an address in the row w
abbrev pub field_value : List ℕ → Spec → ℕ → ℕ
field_value w s a = slice_index w (place_word s a) / 2 ^ place_shift s a % 2 ^ field_bits s

-- whether the lowest bit of an address's field is 1; if the field has one bit, this is the whole
-- field
abbrev pub is_set : List ℕ → Spec → ℕ → Bool
is_set w s a = nat_eq (bit_at (slice_index w (place_word s a)) (place_shift s a)) 1

-- Only bits of the field of a changed.
pub record ChangesField (old new : List ℕ) (s : Spec) (a : ℕ) : Type 0 where
  pub len : length new ≡ length old
  -- the other words, and the other bits of the same word, are unchanged
  pub words : (i : ℕ) → i ≢ place_word s a → slice_index new i ≡ slice_index old i
  pub bits : (k : ℕ) → k < BITS_PER_WORD
      → (k < place_shift s a) ⊎ (place_shift s a + field_bits s ≤ k)
      → bit_at (slice_index new (place_word s a)) k ≡ bit_at (slice_index old (place_word s a)) k
  -- hence the fields of other regions are unchanged
  pub fields : (x : ℕ) → field_index s x ≢ field_index s a
      → field_value new s x ≡ field_value old s x
