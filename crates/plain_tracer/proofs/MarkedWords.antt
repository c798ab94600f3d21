-- What each word of line bits gains as an object's lines are marked.
use Rattle.std.proofs.Common.{◌≡◌, ℕ, ◌+◌, ◌*◌, ◌-◌, ◌/◌, ◌%◌, ◌^◌, ◌<◌, ◌≤◌, ◌⊎◌, inl, inr, nat_eq, max, sym, ap, ◌∙◌, arith, List, slice_index, bit_or}
use Rattle.std.specs.Int.{bit_at}
use Rattle.std.specs.Int.Bits.{bit_xor}
use Rattle.std.proofs.lemmas.Bool.{cases_eq, cases_lt, eq-eqb, eqb-true}
use Rattle.std.proofs.lemmas.Nat.Bits.{bit_at_or, bit_at_xor, bit_at-lt, bit_at_above, same_from_bits}
use Rattle.heap_layout.specs.Zones.{LineWords, heap_of, first, line_at, bit_of}
use Rattle.object_model.specs.Objects.{HeapState}
use Rattle.object_model.specs.Lines.{TouchesLine}
use Rattle.object_model.proofs.Lines.{first-line, last-line}
use Rattle.line_bits.specs.LineMarks.{MarksLines}

-- a row of b blocks with these words
abbrev pub over : ℕ → List ℕ → HeapState
over b words = record { words = words; blocks = b; number = 0; base = 0 }

abbrev pub Marked : ℕ → ℕ → ℕ → List ℕ → List ℕ → Type 0
Marked b a n old new = MarksLines (over b old) (over b new) a n

-- word w of the line bits, and the bits that it gains
abbrev pub line_word : ℕ → List ℕ → ℕ → ℕ
line_word b words w = slice_index words (first b LineWords + w)

abbrev pub gained : ℕ → List ℕ → List ℕ → ℕ → ℕ
gained b old new w = bit_xor (line_word b old w) (line_word b new w)

-- bit j of word w is that of line 64 w + j
line-bit : (b : ℕ) (words : List ℕ) (w j : ℕ) → j < 64 → bit_of b LineWords words (64 * w + j) ≡ nat_eq (bit_at (line_word b words w) j) 1
line-bit b words w j small =
    let word : (64 * w + j) / 64 ≡ w = omega arith in
    let place : (64 * w + j) % 64 ≡ j = omega arith in
    ap (λ i. nat_eq (bit_at (slice_index words (first b LineWords + i)) ((64 * w + j) % 64)) 1) word
    ∙ ap (λ i. nat_eq (bit_at (line_word b words w) i) 1) place

module _ (b a n : ℕ) (old new : List ℕ) (is : Marked b a n old new) (fit : (i : ℕ) → slice_index old i < 2 ^ 64) where
  abbrev was : ℕ → ℕ
  was w = line_word b old w

  abbrev now : ℕ → ℕ
  now w = line_word b new w

  kept-bit : (w j : ℕ) → bit_at (was w) j ≡ 1 → bit_at (now w) j ≡ 1
  kept-bit w j set = elim (cases_lt j 64) as (λ _. bit_at (now w) j ≡ 1) [
    | inl small ↦ eqb-true (bit_at (now w) j) 1 (sym (line-bit b new w j small) ∙ is.kept (64 * w + j) (line-bit b old w j small ∙ eq-eqb (bit_at (was w) j) 1 set))
    | inr high ↦ absurd (omega (arith, set, bit_at_above (was w) 64 j (fit (first b LineWords + w)) high))
  ]

  -- a bit that is set later was set before, or is that of a touched line
  set-bit : (w j : ℕ) → bit_at (now w) j ≡ 1 → (bit_at (was w) j ≡ 1) ⊎ ((j < 64) × TouchesLine b a n (64 * w + j))
  set-bit w j set = elim (cases_lt j 64) as (λ _. (bit_at (was w) j ≡ 1) ⊎ ((j < 64) × TouchesLine b a n (64 * w + j))) [
    | inl small ↦ elim (is.only (64 * w + j) (line-bit b new w j small ∙ eq-eqb (bit_at (now w) j) 1 set)) as (λ _. (bit_at (was w) j ≡ 1) ⊎ ((j < 64) × TouchesLine b a n (64 * w + j))) [
      | inl before ↦ inl (eqb-true (bit_at (was w) j) 1 (sym (line-bit b old w j small) ∙ before))
      | inr touches ↦ inr (small, touches)
    ]
    | inr high ↦ absurd (omega (arith, set, bit_at_above (now w) 64 j (is.fit fit (first b LineWords + w)) high))
  ]

  -- each bit that a word gains is that of a touched line
  pub gained-touches : (w j : ℕ) → bit_at (gained b old new w) j ≡ 1 → (j < 64) × TouchesLine b a n (64 * w + j)
  gained-touches w j set =
      let sum : bit_at (gained b old new w) j ≡ (bit_at (was w) j + bit_at (now w) j) % 2 = bit_at_xor (was w) (now w) j in
      elim (cases_eq (bit_at (was w) j) 1) as (λ _. (j < 64) × TouchesLine b a n (64 * w + j)) [
        | inl before ↦ absurd (omega (arith, before, kept-bit w j before, sum, set))
        | inr clear ↦ elim (set-bit w j (omega (arith, sum, set, bit_at-lt (was w) j, bit_at-lt (now w) j))) as (λ _. (j < 64) × TouchesLine b a n (64 * w + j)) [
          | inl before ↦ absurd (clear before)
          | inr touches ↦ touches
        ]
      ]

  -- the word with them
  pub with-gained : (w : ℕ) → bit_or (was w) (gained b old new w) ≡ now w
  with-gained w = same_from_bits (bit_or (was w) (gained b old new w)) (now w) (λ j.
      let joined : bit_at (bit_or (was w) (gained b old new w)) j ≡ max (bit_at (was w) j) (bit_at (gained b old new w) j) = bit_at_or (was w) (gained b old new w) j in
      let sum : bit_at (gained b old new w) j ≡ (bit_at (was w) j + bit_at (now w) j) % 2 = bit_at_xor (was w) (now w) j in
      let low : bit_at (was w) j < 2 = bit_at-lt (was w) j in
      let least : bit_at (now w) j < 2 = bit_at-lt (now w) j in
      elim (cases_eq (bit_at (was w) j) 1) as (λ _. bit_at (bit_or (was w) (gained b old new w)) j ≡ bit_at (now w) j) [
        | inl before ↦ omega (arith, before, kept-bit w j before, joined, sum)
        | inr clear ↦ omega arith
      ])

  -- a word is as it was, unless it is a line word from that of the first line to that of the last line that is touched
  pub other-word : heap_of b ≤ a → (i : ℕ) → (first b LineWords + line_at b a / 64 ≤ i → i < first b LineWords + (line_at b (a + n - 1) / 64 + 1) → ⊥)
      → slice_index new i ≡ slice_index old i
  other-word inside i outside = is.others i (λ has.
      let from : line_at b a ≤ has.line = first-line b a n has.line inside has.touches in
      let to : has.line ≤ line_at b (a + n - 1) = last-line b a n has.line inside has.touches in
      let word : i ≡ first b LineWords + has.line / 64 = has.word in
      outside (omega arith) (omega arith))
