-- A run of bits is set in a word by a mask.
use Rattle.std.proofs.Common.{◌≡◌, ℕ, ◌^◌, ◌<◌, ◌⊎◌, inl, inr, arith, IsTrue, bit_or, refl, sym, ◌∙◌, ap, subst, List, length, slice_index, slice_set}
use Rattle.side_meta.specs.BitWords.{has_bit}
use Rattle.std.specs.Int.{bit_at}
use Rattle.std.proofs.lemmas.Bool.{cases_eq, eq-eqb, eqb-true}
use Rattle.std.proofs.lemmas.Nat.Bits.{bit_at_or, bit_at-lt}
use Rattle.std.proofs.lemmas.List.{get_or-set_same, get_or-set_other}
use Rattle.std.proofs.Math.ListN.{length-set}
use Rattle.line_bits.specs.LineMarks.{SetsRun, IsFromTo}

-- the mask has exactly the bits `low` to `high`
module _ (low high mask : ℕ) (inside : (k : ℕ) → IsFromTo low high k → bit_at mask k ≡ 1) (outside : (k : ℕ) → bit_at mask k ≡ 1 → IsFromTo low high k) (word : ℕ) where
  abbrev value : ℕ
  value = bit_or word mask

  pub added : (k : ℕ) → IsFromTo low high k → IsTrue (has_bit value k)
  added k run = eq-eqb (bit_at value k) 1 (omega (arith, inside k run, bit_at_or word mask k, bit_at-lt word k))

  pub kept : (k : ℕ) → IsTrue (has_bit word k) → IsTrue (has_bit value k)
  kept k was = eq-eqb (bit_at value k) 1 (omega (arith, eqb-true (bit_at word k) 1 was, bit_at_or word mask k, bit_at-lt mask k))

  pub only : (k : ℕ) → IsTrue (has_bit value k) → IsTrue (has_bit word k) ⊎ IsFromTo low high k
  only k is = elim (cases_eq (bit_at mask k) 1) as (λ _. IsTrue (has_bit word k) ⊎ IsFromTo low high k) [
    | inl set ↦ inr (outside k set)
    | inr clear ↦ inl (eq-eqb (bit_at word k) 1 (omega (arith, eqb-true (bit_at value k) 1 is, bit_at_or word mask k, bit_at-lt mask k, bit_at-lt word k)))
  ]

  module _ (old : List ℕ) (index : ℕ) (read : word ≡ slice_index old index) where
    sets : (new : List ℕ) → slice_index new index ≡ value → length new ≡ length old → ((i : ℕ) → (i ≡ index → ⊥) → slice_index new i ≡ slice_index old i)
        → (((i : ℕ) → slice_index old i < 2 ^ 64) → (i : ℕ) → slice_index new i < 2 ^ 64) → SetsRun old new index low high
    sets new now extent others fit = record {
      extent = extent;
      added = λ k run. subst (λ (w : ℕ). IsTrue (has_bit w k)) (sym now) (added k run);
      kept = λ k was. subst (λ (w : ℕ). IsTrue (has_bit w k)) (sym now) (kept k (subst (λ (w : ℕ). IsTrue (has_bit w k)) (sym read) was));
      only = λ k is. subst (λ (w : ℕ). IsTrue (has_bit w k) ⊎ IsFromTo low high k) read (only k (subst (λ (w : ℕ). IsTrue (has_bit w k)) now is));
      others = others;
      fit = fit;
    }

    pub changed : (new : List ℕ) → index < length old → new ≡ slice_set old index value → ((i : ℕ) → slice_index new i < 2 ^ 64) → SetsRun old new index low high
    changed new there is fit = sets new (ap (λ l. slice_index l index) is ∙ get_or-set_same old index value 0 there) (ap length is ∙ length-set old index value)
        (λ i other. ap (λ l. slice_index l i) is ∙ get_or-set_other old index i value 0 other) (λ _. fit)

    pub unchanged : value ≡ word → SetsRun old old index low high
    unchanged same = sets old (sym read ∙ sym same) refl (λ i other. refl) (λ fit. fit)
