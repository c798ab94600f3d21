-- Words whose bits differ.
use Rattle.std.proofs.Common.{◌≡◌, ◌≢◌, ℕ, ◌+◌, ◌%◌, ◌<◌, ◌≤◌, inl, inr, refl, sym, ap, ◌∙◌, subst, arith, max, bit_or, bit_xor}
use Rattle.std.specs.Int.{bit_at}
use Rattle.std.proofs.lemmas.Bool.{cases_eq}
use Rattle.std.proofs.lemmas.Nat.Bits.{bit_at_or, bit_at_xor, bit_at-lt, bit_at-zero, same_from_bits}

-- what is set in neither of two words is set in none
or-zero : (a b : ℕ) → bit_or a b ≡ 0 → (a ≡ 0) × (b ≡ 0)
or-zero a b none =
    let both : (i : ℕ) → max (bit_at a i) (bit_at b i) ≡ 0 = λ i. sym (bit_at_or a b i) ∙ ap (λ v. bit_at v i) none ∙ bit_at-zero i in (
      same_from_bits a 0 (λ i. (let is : bit_at a i ≡ 0 = omega (arith, both i) in is) ∙ sym (bit_at-zero i)),
      same_from_bits b 0 (λ i. (let is : bit_at b i ≡ 0 = omega (arith, both i) in is) ∙ sym (bit_at-zero i)),
    )

xor-zero : (a b : ℕ) → bit_xor a b ≡ 0 → a ≡ b
xor-zero a b none = same_from_bits a b (λ i.
    let sum : (bit_at a i + bit_at b i) % 2 ≡ 0 = sym (bit_at_xor a b i) ∙ ap (λ v. bit_at v i) none ∙ bit_at-zero i in
    omega (arith, sum, bit_at-lt a i, bit_at-lt b i))

xor-same : (a : ℕ) → bit_xor a a ≡ 0
xor-same a = same_from_bits (bit_xor a a) 0 (λ i. bit_at_xor a a i ∙ (let even : (bit_at a i + bit_at a i) % 2 ≡ 0 = omega arith in even) ∙ sym (bit_at-zero i))

-- The bits are 0 if and only if the words of two runs are the same from one index on, before another.
pub record AreDifferences (these those : ℕ → ℕ) (from to bits : ℕ) : Type 0 where
  pub none : bits ≡ 0 → (i : ℕ) → from ≤ i → i < to → these i ≡ those i
  pub some : (bits ≡ 0 → ⊥) → (i : ℕ) × (from ≤ i) × (i < to) × (these i ≢ those i)

module _ (these those : ℕ → ℕ) (from : ℕ) where
  pub differ-first : AreDifferences these those from from 0
  differ-first = record {
    none = λ is i after below. absurd (omega (arith, after, below));
    some = λ not. absurd (not refl);
  }

  pub differ-next : (to bits : ℕ) → from ≤ to → AreDifferences these those from to bits
      → AreDifferences these those from (to + 1) (bit_or bits (bit_xor (these to) (those to)))
  differ-next to bits order are =
      let this : ℕ = these to in
      let that : ℕ = those to in record {
        none = λ is i after below.
            let parts = or-zero bits (bit_xor this that) is in
            elim (cases_eq i to) as (λ _. these i ≡ those i) [
              | inl last ↦ subst (λ j. these j ≡ those j) (sym last) (xor-zero this that parts.1)
              | inr other ↦ are.none parts.0 i after (omega (arith, below, other))
            ];
        some = λ not. elim (cases_eq this that) as (λ _. (i : ℕ) × (from ≤ i) × (i < to + 1) × (these i ≢ those i)) [
          | inl same ↦
              let zero : bit_xor this that ≡ 0 = ap (λ v. bit_xor v that) same ∙ xor-same that in
              let found = are.some (λ is. not (ap (λ v. bit_or v (bit_xor this that)) is ∙ ap (bit_or 0) zero)) in
              (found.0, found.1, omega (arith, found.2), found.3)
          | inr apart ↦ (to, order, omega arith, apart)
        ];
      }
