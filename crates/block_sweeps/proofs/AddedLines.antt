-- Bits are set in a list of words, one word after another.
use Rattle.std.proofs.Common.{◌≡◌, ◌≢◌, refl, ℕ, ◌+◌, ◌*◌, ◌-◌, ◌/◌, ◌%◌, ◌<◌, ◌≤◌, ◌⊎◌, inl, inr, sym, ap, ◌∙◌, arith, IsTrue, nat_eq, min, List, length, slice_index, slice_set, bit_or, get_or-set_other, get_or-set_same, length-set}
use Rattle.line_bits.specs.LineMarks.{IsFromTo}
use Rattle.std.specs.Int.{bit_at}
use Rattle.std.proofs.lemmas.Bool.{cases_eq, cases_lt, eq-eqb, eqb-true}
use Rattle.std.proofs.lemmas.Nat.Bits.{bit_at_or, bit_at-lt}
use Rattle.block_sweeps.specs.Touches.{AddsLines, has_line}

pub adds-both : (A B C : ℕ → Type 0) (old mid new : List ℕ) → AddsLines A old mid → AddsLines B mid new
    → ((n : ℕ) → C n → A n ⊎ B n) → ((n : ℕ) → A n → C n) → ((n : ℕ) → B n → C n) → AddsLines C old new
adds-both A B C old mid new one two parts of-one of-two = record {
  extent = two.extent ∙ one.extent;
  added = λ n is. elim (parts n is) as (λ _. IsTrue (has_line new n)) [ inl a ↦ two.kept n (one.added n a) | inr b ↦ two.added n b ];
  kept = λ n is. two.kept n (one.kept n is);
  only = λ n is. elim (two.only n is) as (λ _. IsTrue (has_line old n) ⊎ C n) [
    | inl before ↦ elim (one.only n before) as (λ _. IsTrue (has_line old n) ⊎ C n) [ inl was ↦ inl was | inr a ↦ inr (of-one n a) ]
    | inr b ↦ inr (of-two n b)
  ];
}

pub adds-same : (A B : ℕ → Type 0) (old new : List ℕ) → AddsLines A old new → ((n : ℕ) → B n → A n) → ((n : ℕ) → A n → B n) → AddsLines B old new
adds-same A B old new adds of-new of-old = record {
  extent = adds.extent;
  added = λ n is. adds.added n (of-new n is);
  kept = adds.kept;
  only = λ n is. elim (adds.only n is) as (λ _. IsTrue (has_line old n) ⊎ B n) [ inl was ↦ inl was | inr a ↦ inr (of-old n a) ];
}

-- the bits of a mask are set in one word
pub record IsMasked (word mask n : ℕ) : Type 0 where
  pub here : n / 64 ≡ word
  pub bit : bit_at mask (n % 64) ≡ 1

module _ (lines : List ℕ) (word mask : ℕ) (there : word < length lines) where
  abbrev value : ℕ
  value = bit_or (slice_index lines word) mask

  abbrev new : List ℕ
  new = slice_set lines word value

  own : (n : ℕ) → n / 64 ≡ word → slice_index new (n / 64) ≡ value
  own n here = ap (slice_index new) here ∙ get_or-set_same lines word value 0 there

  other : (n : ℕ) → n / 64 ≢ word → has_line new n ≡ has_line lines n
  other n away = ap (λ v. nat_eq (bit_at v (n % 64)) 1) (get_or-set_other lines word (n / 64) value 0 away)

  old-bit : (n : ℕ) → n / 64 ≡ word → IsTrue (has_line lines n) → bit_at (slice_index lines word) (n % 64) ≡ 1
  old-bit n here was = ap (λ i. bit_at (slice_index lines i) (n % 64)) (sym here) ∙ eqb-true (bit_at (slice_index lines (n / 64)) (n % 64)) 1 was

  new-bit : (n : ℕ) → n / 64 ≡ word → bit_at value (n % 64) ≡ 1 → IsTrue (has_line new n)
  new-bit n here set = eq-eqb (bit_at (slice_index new (n / 64)) (n % 64)) 1 (ap (λ v. bit_at v (n % 64)) (own n here) ∙ set)

  kept : (n : ℕ) → IsTrue (has_line lines n) → IsTrue (has_line new n)
  kept n was = elim (cases_eq (n / 64) word) as (λ _. IsTrue (has_line new n)) [
    | inl here ↦ new-bit n here (omega (arith, old-bit n here was, bit_at_or (slice_index lines word) mask (n % 64), bit_at-lt mask (n % 64)))
    | inr away ↦ other n away ∙ was
  ]

  from-mask : (n : ℕ) → n / 64 ≡ word → bit_at value (n % 64) ≡ 1 → IsTrue (has_line lines n) ⊎ IsMasked word mask n
  from-mask n here set = elim (cases_eq (bit_at mask (n % 64)) 1) as (λ _. IsTrue (has_line lines n) ⊎ IsMasked word mask n) [
    | inl bit ↦ inr (record { here = here; bit = bit })
    | inr clear ↦ inl (
        (let was : bit_at (slice_index lines word) (n % 64) ≡ 1 = omega (arith, bit_at_or (slice_index lines word) mask (n % 64), bit_at-lt mask (n % 64), bit_at-lt (slice_index lines word) (n % 64)) in
        eq-eqb (bit_at (slice_index lines (n / 64)) (n % 64)) 1 (ap (λ i. bit_at (slice_index lines i) (n % 64)) here ∙ was)))
  ]

  only : (n : ℕ) → IsTrue (has_line new n) → IsTrue (has_line lines n) ⊎ IsMasked word mask n
  only n is = elim (cases_eq (n / 64) word) as (λ _. IsTrue (has_line lines n) ⊎ IsMasked word mask n) [
    | inl here ↦ from-mask n here (sym (ap (λ v. bit_at v (n % 64)) (own n here)) ∙ eqb-true (bit_at (slice_index new (n / 64)) (n % 64)) 1 is)
    | inr away ↦ inl (sym (other n away) ∙ is)
  ]

  pub adds-word : AddsLines (IsMasked word mask) lines new
  adds-word = record {
    extent = length-set lines word value;
    added = λ n is. new-bit n is.here (omega (arith, is.bit, bit_at_or (slice_index lines word) mask (n % 64), bit_at-lt (slice_index lines word) (n % 64)));
    kept = kept;
    only = only;
  }

-- n is one of the numbers `from` to `to`, and lies in a word before this one
pub record IsBefore (from to word n : ℕ) : Type 0 where
  pub among : IsFromTo from to n
  pub before : n < 64 * word

-- one word more of a run of bits
pub adds-more : (old lines : List ℕ) (from to word low high mask : ℕ) → word < length lines → from / 64 ≤ word → word < to / 64 + 1
    → low ≡ from - 64 * word → high ≡ min (to - 64 * word) 63
    → ((k : ℕ) → IsFromTo low high k → bit_at mask k ≡ 1) → ((k : ℕ) → bit_at mask k ≡ 1 → IsFromTo low high k)
    → AddsLines (IsBefore from to word) old lines
    → AddsLines (IsBefore from to (word + 1)) old (slice_set lines word (bit_or (slice_index lines word) mask))
adds-more old lines from to word low high mask there after below low-is high-is set only adds =
    adds-both (IsBefore from to word) (IsMasked word mask) (IsBefore from to (word + 1)) old lines (slice_set lines word (bit_or (slice_index lines word) mask)) adds
    (adds-word lines word mask there)
    (λ n is. elim (cases_lt n (64 * word)) as (λ _. IsBefore from to word n ⊎ IsMasked word mask n) [
      | inl earlier ↦ inl (record { among = is.among; before = earlier })
      | inr here ↦ inr (let less : n < 64 * (word + 1) = is.before in let start : from ≤ n = is.among.after in let end : n ≤ to = is.among.most in
          record { here = (omega arith); bit = set (n % 64) (record { after = (omega arith); most = (omega arith) }) })
    ])
    (λ n is. record { among = is.among; before = (let less : n < 64 * word = is.before in omega arith) })
    (λ n is. let run = only (n % 64) is.bit in let start : low ≤ n % 64 = run.after in let end : n % 64 ≤ high = run.most in let here : n / 64 ≡ word = is.here in
    record { among = record { after = (omega arith); most = (omega arith) }; before = (omega arith) })

-- no bit of the run lies before its first word
adds-none : (lines : List ℕ) (from to : ℕ) → AddsLines (IsBefore from to (from / 64)) lines lines
adds-none lines from to = record {
  extent = refl;
  added = λ n is. let after : from ≤ n = is.among.after in let before : n < 64 * (from / 64) = is.before in absurd (omega arith);
  kept = λ n is. is;
  only = λ n is. inl is;
}

-- a run that lies in one word
pub adds-in-word : (lines : List ℕ) (from to mask : ℕ) → from / 64 < length lines → from / 64 ≡ to / 64
    → ((k : ℕ) → IsFromTo (from % 64) (to % 64) k → bit_at mask k ≡ 1) → ((k : ℕ) → bit_at mask k ≡ 1 → IsFromTo (from % 64) (to % 64) k)
    → AddsLines (IsFromTo from to) lines (slice_set lines (from / 64) (bit_or (slice_index lines (from / 64)) mask))
adds-in-word lines from to mask there same set only =
    adds-same (IsBefore from to (from / 64 + 1)) (IsFromTo from to) lines (slice_set lines (from / 64) (bit_or (slice_index lines (from / 64)) mask))
    (adds-more lines lines from to (from / 64) (from % 64) (to % 64) mask there (omega arith) (omega arith) (omega arith) (omega arith) set only (adds-none lines from to))
    (λ n is. record { among = is; before = (let most : n ≤ to = is.most in omega arith) })
    (λ n is. is.among)
