-- The search for a free cell.
use Rattle.std.proofs.Common.{◌≡◌, refl, sym, ◌∙◌, ap, ℕ, ◌+◌, ◌*◌, ◌/◌, ◌%◌, ◌<◌, ◌≤◌, min, inl, inr, arith, true, false, List, mul-le-mul_right}
use Rattle.std.proofs.Math.Nat.{le-div_iff_mul-le}
use Rattle.std.proofs.lemmas.Bool.{cases_eq, true≢false}
use Rattle.std.proofs.lemmas.Grind.{div_ceil_times}
use Rattle.line_marks.specs.Bits.{bit_in}
use Rattle.plan_api.specs.Cells.{IsClearCell, IsFirstCell, HasNoClearCell}

module _ (starts : List ℕ) (words from index : ℕ) (some : 0 < words)
    (searched : (x : ℕ) → from ≤ x → (cell : IsClearCell starts words x) → index ≤ cell.index) where
  within : (x : ℕ) → (cell : IsClearCell starts words x) → cell.index + 1 ≤ 4096 / words
  within x cell =
      let inside : x + words ≤ 4096 = cell.inside in
      let start : x ≡ cell.index * words = cell.start in
      (le-div_iff_mul-le {k = words} {x = cell.index + 1} {y = 4096} some).1 (let e : (cell.index + 1) * words ≡ cell.index * words + words = omega arith in omega arith)

  pub first-cell : from / words + min 1 (from % words) ≤ index → index < 4096 / words → bit_in starts (index * words) ≡ false → IsFirstCell starts words from (index * words)
  first-cell past below clear = record {
    cell = record {
      index = index;
      start = refl;
      inside = (let more = (le-div_iff_mul-le {k = words} {x = index + 1} {y = 4096} some).0 (let less : index + 1 ≤ 4096 / words = omega arith in less) in let e : (index + 1) * words ≡ index * words + words = omega arith in omega arith);
      clear = clear;
    };
    after = (let times = (div_ceil_times from words some).0 in let more = mul-le-mul_right {m = from / words + min 1 (from % words)} {n = index} words past in omega arith);
    first = λ x later cell. (let more = mul-le-mul_right {m = index} {n = cell.index} words (searched x later cell) in let start : x ≡ cell.index * words = cell.start in omega arith);
  }

  pub cell-past : bit_in starts (index * words) ≡ true → (x : ℕ) → from ≤ x → (cell : IsClearCell starts words x) → index + 1 ≤ cell.index
  cell-past set x later cell = elim (cases_eq index cell.index) as (λ _. index + 1 ≤ cell.index) [
    | inl e ↦ absurd (true≢false (sym set ∙ ap (λ i. bit_in starts (i * words)) e ∙ ap (bit_in starts) (sym cell.start) ∙ cell.clear))
    | inr other ↦ (let least : index ≤ cell.index = searched x later cell in omega arith)
  ]

  pub no-cell : 4096 / words ≤ index → HasNoClearCell starts words from
  no-cell past x later cell = (let least : index ≤ cell.index = searched x later cell in let more = within x cell in omega arith)
