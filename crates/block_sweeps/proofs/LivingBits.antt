-- Start bits of a word, without those of dead objects.
use Rattle.std.proofs.Common.{◌≡◌, ◌≢◌, ℕ, ◌<◌, inl, inr, sym, ap, ◌∙◌, w64, arith, Bool, true, false, ◌&&◌, ◌||◌, IsTrue, nat_eq}
use Rattle.side_meta.specs.BitWords.{has_bit}
use Rattle.std.proofs.lemmas.Bool.{cases_eq}
use Rattle.std.proofs.lemmas.Nat.Bits.{bit_at_clear_same, bit_at_clear_other}
use Rattle.block_sweeps.proofs.TouchedWords.{without}

has-same : (n b : ℕ) → b < 64 → has_bit (without n b) b ≡ false
has-same n b low = ap (λ v. nat_eq v 1) (bit_at_clear_same w64 n b low)

has-other : (n b j : ℕ) → b < 64 → j < 64 → j ≢ b → has_bit (without n b) j ≡ has_bit n j
has-other n b j low small other = ap (λ v. nat_eq v 1) (bit_at_clear_other w64 n b low j small other)

-- One bit more is known: the lowest of those that are left.
module _ (alive : ℕ → Bool) (starts living rest b : ℕ) (low : b < 64)
    (within : (j : ℕ) → j < 64 → IsTrue (has_bit rest j) → IsTrue (has_bit starts j))
    (known : (j : ℕ) → j < 64 → has_bit living j ≡ (has_bit starts j && (has_bit rest j || alive j))) where
  pub rest-within : (j : ℕ) → j < 64 → IsTrue (has_bit (without rest b) j) → IsTrue (has_bit starts j)
  rest-within j small set = elim (cases_eq j b) as (λ _. IsTrue (has_bit starts j)) [
    | inl same ↦ absurd (let wrong : false ≡ true = sym (has-same rest b low) ∙ ap (has_bit (without rest b)) (sym same) ∙ set in cc)
    | inr other ↦ within j small (sym (has-other rest b j low small other) ∙ set)
  ]

  abbrev Known : ℕ → ℕ → Type 0
  Known n j = has_bit n j ≡ (has_bit starts j && (has_bit (without rest b) j || alive j))

  pub with-living : IsTrue (alive b) → (j : ℕ) → j < 64 → Known living j
  with-living lives j small = elim (cases_eq j b) as (λ _. Known living j) [
    | inl same ↦
        (let before = known j small in
        let lives-here : alive j ≡ true = ap alive same ∙ lives in grind arith)
    | inr other ↦ known j small ∙ ap (λ x. has_bit starts j && (x || alive j)) (sym (has-other rest b j low small other))
  ]

  pub without-dead : alive b ≡ false → (j : ℕ) → j < 64 → Known (without living b) j
  without-dead dies j small = elim (cases_eq j b) as (λ _. Known (without living b) j) [
    | inl same ↦
        (let gone : has_bit (without living b) j ≡ false = ap (has_bit (without living b)) same ∙ has-same living b low in
        let left : has_bit (without rest b) j ≡ false = ap (has_bit (without rest b)) same ∙ has-same rest b low in
        let dead : alive j ≡ false = ap alive same ∙ dies in
        grind arith)
    | inr other ↦ has-other living b j low small other ∙ known j small
        ∙ ap (λ x. has_bit starts j && (x || alive j)) (sym (has-other rest b j low small other))
  ]
