-- Fields of 1 to 64 bits, side by side in words of 64.
use Rattle.std.proofs.Common.{◌≡◌, ◌≢◌, sym, subst, ℕ, ◌+◌, ◌*◌, ◌/◌, ◌%◌, ◌^◌, ◌≤◌, ◌⊎◌, inl, inr, arith}
use Rattle.std.proofs.lemmas.Bool.{cases_eq, cases_lt}

-- a fact for each binary logarithm of a field's bits
pub at_each : (P : ℕ → Type 0) → P 0 → P 1 → P 2 → P 3 → P 4 → P 5 → P 6 → (l : ℕ) → l ≤ 6 → P l
at_each P p0 p1 p2 p3 p4 p5 p6 l most =
    elim (cases_eq l 0) as (λ _. P l) [
      | inl e ↦ subst P (sym e) p0
      | inr n0 ↦ elim (cases_eq l 1) as (λ _. P l) [
        | inl e ↦ subst P (sym e) p1
        | inr n1 ↦ elim (cases_eq l 2) as (λ _. P l) [
          | inl e ↦ subst P (sym e) p2
          | inr n2 ↦ elim (cases_eq l 3) as (λ _. P l) [
            | inl e ↦ subst P (sym e) p3
            | inr n3 ↦ elim (cases_eq l 4) as (λ _. P l) [
              | inl e ↦ subst P (sym e) p4
              | inr n4 ↦ elim (cases_eq l 5) as (λ _. P l) [
                | inl e ↦ subst P (sym e) p5
                | inr n5 ↦ let e : l ≡ 6 = omega arith in subst P (sym e) p6
              ]
            ]
          ]
        ]
      ]
    ]

-- a field does not extend past the end of its word
pub in_word : (l : ℕ) → l ≤ 6 → (f : ℕ) → f * 2 ^ l % 64 + 2 ^ l ≤ 64
in_word = at_each (λ l. (f : ℕ) → f * 2 ^ l % 64 + 2 ^ l ≤ 64)
    (λ f. omega arith) (λ f. omega arith) (λ f. omega arith) (λ f. omega arith) (λ f. omega arith) (λ f. omega arith) (λ f. omega arith)

-- two fields of a word share no bit
abbrev pub Apart : ℕ → Type 0
Apart l = (f g : ℕ) → f ≢ g → f * 2 ^ l / 64 ≡ g * 2 ^ l / 64
    → (f * 2 ^ l % 64 + 2 ^ l ≤ g * 2 ^ l % 64) ⊎ (g * 2 ^ l % 64 + 2 ^ l ≤ f * 2 ^ l % 64)

pub apart : (l : ℕ) → l ≤ 6 → Apart l
apart = at_each Apart
    (λ f g other same. elim (cases_lt f g) as (λ _. (f * 1 % 64 + 1 ≤ g * 1 % 64) ⊎ (g * 1 % 64 + 1 ≤ f * 1 % 64)) [ inl h ↦ inl (omega arith) | inr h ↦ inr (omega arith) ])
    (λ f g other same. elim (cases_lt f g) as (λ _. (f * 2 % 64 + 2 ≤ g * 2 % 64) ⊎ (g * 2 % 64 + 2 ≤ f * 2 % 64)) [ inl h ↦ inl (omega arith) | inr h ↦ inr (omega arith) ])
    (λ f g other same. elim (cases_lt f g) as (λ _. (f * 4 % 64 + 4 ≤ g * 4 % 64) ⊎ (g * 4 % 64 + 4 ≤ f * 4 % 64)) [ inl h ↦ inl (omega arith) | inr h ↦ inr (omega arith) ])
    (λ f g other same. elim (cases_lt f g) as (λ _. (f * 8 % 64 + 8 ≤ g * 8 % 64) ⊎ (g * 8 % 64 + 8 ≤ f * 8 % 64)) [ inl h ↦ inl (omega arith) | inr h ↦ inr (omega arith) ])
    (λ f g other same. elim (cases_lt f g) as (λ _. (f * 16 % 64 + 16 ≤ g * 16 % 64) ⊎ (g * 16 % 64 + 16 ≤ f * 16 % 64)) [ inl h ↦ inl (omega arith) | inr h ↦ inr (omega arith) ])
    (λ f g other same. elim (cases_lt f g) as (λ _. (f * 32 % 64 + 32 ≤ g * 32 % 64) ⊎ (g * 32 % 64 + 32 ≤ f * 32 % 64)) [ inl h ↦ inl (omega arith) | inr h ↦ inr (omega arith) ])
    (λ f g other same. elim (cases_lt f g) as (λ _. (f * 64 % 64 + 64 ≤ g * 64 % 64) ⊎ (g * 64 % 64 + 64 ≤ f * 64 % 64)) [ inl h ↦ inl (omega arith) | inr h ↦ inr (omega arith) ])
