-- The bits of a word, and the addresses that start bits are of.
use Rattle.std.proofs.Common.{◌≡◌, ℕ, ◌+◌, ◌*◌, ◌%◌, ◌^◌, ◌<◌, ◌∙◌, sym, ap, subst, arith, w64, IsTrue, nat_eq, bit_and}
use Rattle.std.specs.Int.{bit_at, bit_not}
use Rattle.std.proofs.lemmas.Bool.{eq-eqb, eqb-true}
use Rattle.heap_layout.specs.Zones.{StartBits, first, heap_of, block_start}
use Rattle.object_model.specs.Objects.{HeapState, word_at, is_start}
use Rattle.side_meta.proofs.BitWords.{one-shifted}
use Rattle.object_model.proofs.WordReads.{without-less, bit-there}

-- the word without bit b
abbrev pub without : ℕ → ℕ → ℕ
without rest b = bit_and rest (bit_not w64 (1 * 2 ^ b % 2 ^ 64))

-- it is less, if the bit was set
pub cleared-less : (rest b : ℕ) → b < 64 → bit_at rest b ≡ 1 → without rest b < rest
cleared-less rest b low set = subst (λ (n : ℕ). bit_and rest (bit_not w64 n) < rest) (sym (one-shifted b low)) (without-less rest b low set)

-- the word of start bits number `index` of block k
abbrev pub start_word : HeapState → ℕ → ℕ → ℕ
start_word s k index = word_at s (first s.blocks StartBits + 64 * k + index)

module _ (s : HeapState) (k index : ℕ) (there : k < s.blocks) (within : index < 64) where
  abbrev starts : ℕ
  starts = start_word s k index

  start-is : (i : ℕ) → i < 64 → is_start s (block_start s.blocks k + (64 * index + i)) ≡ nat_eq (bit_at starts i) 1
  start-is i small =
      let at : block_start s.blocks k + (64 * index + i) ≡ heap_of s.blocks + 64 * (64 * k + index) + i = omega arith in
      let word : first s.blocks StartBits + (64 * k + index) ≡ first s.blocks StartBits + 64 * k + index = omega arith in
      ap (is_start s) at ∙ bit-there s.blocks StartBits s.words (64 * k + index) i (omega arith) small ∙ ap (λ j. nat_eq (bit_at (word_at s j) i) 1) word

  pub start-set : (i : ℕ) → i < 64 → bit_at starts i ≡ 1 → IsTrue (is_start s (block_start s.blocks k + (64 * index + i)))
  start-set i small set = start-is i small ∙ eq-eqb (bit_at starts i) 1 set

  pub start-bit : (i : ℕ) → i < 64 → IsTrue (is_start s (block_start s.blocks k + (64 * index + i))) → bit_at starts i ≡ 1
  start-bit i small start = eqb-true (bit_at starts i) 1 (sym (start-is i small) ∙ start)
