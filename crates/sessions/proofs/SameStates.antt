-- Mutators with sixteen registers each are known by their numbers, births and registers in a row.
use Rattle.std.proofs.Common.{◌≡◌, refl, sym, ◌∙◌, ap, ℕ, arith, List, [], ◌∷◌, ◌++◌, length, map}
use Rattle.std.specs.List.{AllByRecursion}
use Rattle.object_model.specs.Graphs.{MutatorState, roots_of}
use Rattle.sessions.specs.Sessions.{birth_count}

-- two lists of sixteen in front of the same list
abbrev head_or : ℕ → List ℕ → ℕ
head_or d [] = d
head_or d (x ∷ xs) = x

abbrev tail_of : List ℕ → List ℕ
tail_of [] = []
tail_of (x ∷ xs) = xs

front-same : (xs ys us vs : List ℕ) → length xs ≡ length ys → xs ++ us ≡ ys ++ vs → (xs ≡ ys) × (us ≡ vs)
front-same [] [] us vs many e = (refl, e)
front-same [] (y ∷ ys) us vs many e = absurd (omega (arith, many))
front-same (x ∷ xs) [] us vs many e = absurd (omega (arith, many))
front-same (x ∷ xs) (y ∷ ys) us vs many e =
    let rest = front-same xs ys us vs (omega (arith, many)) (ap tail_of e) in
    (ap (λ (z : ℕ). z ∷ xs) (ap (head_or 0) e) ∙ ap (λ (zs : List ℕ). y ∷ zs) rest.0, rest.1)

abbrev pub first_count : ℕ × ℕ → List (ℕ × ℕ) → ℕ × ℕ
first_count d [] = d
first_count d (x ∷ xs) = x

abbrev pub other_counts : List (ℕ × ℕ) → List (ℕ × ℕ)
other_counts [] = []
other_counts (x ∷ xs) = xs

state-same : (m n : MutatorState) → birth_count m ≡ birth_count n → m.registers ≡ n.registers → m ≡ n
state-same m n counts registers =
    ap (λ (k : ℕ). record { number = k; births = m.births; registers = m.registers }) (ap (λ (p : ℕ × ℕ). p.0) counts)
    ∙ ap (λ (k : ℕ). record { number = n.number; births = k; registers = m.registers }) (ap (λ (p : ℕ × ℕ). p.1) counts)
    ∙ ap (λ (l : List ℕ). record { number = n.number; births = n.births; registers = l }) registers

abbrev pub HaveRegisters : List MutatorState → Type 0
HaveRegisters ms = AllByRecursion (λ m. length m.registers ≡ 16) ms

pub states-same : (ms ns : List MutatorState) → map birth_count ms ≡ map birth_count ns → roots_of ms ≡ roots_of ns → HaveRegisters ms → HaveRegisters ns → ms ≡ ns
states-same [] [] counts roots each other = refl
states-same [] (n ∷ ns) counts roots each other = absurd (let many : 0 ≡ length (map birth_count (n ∷ ns)) = ap length counts in omega (arith, many))
states-same (m ∷ ms) [] counts roots each other = absurd (let many : length (map birth_count (m ∷ ms)) ≡ 0 = ap length counts in omega (arith, many))
states-same (m ∷ ms) (n ∷ ns) counts roots each other =
    let parts = front-same m.registers n.registers (roots_of ms) (roots_of ns) (each.0 ∙ sym other.0) roots in
    ap (λ (x : MutatorState). x ∷ ms) (state-same m n (ap (first_count (0, 0)) counts) parts.0)
    ∙ ap (λ (xs : List MutatorState). n ∷ xs) (states-same ms ns (ap other_counts counts) parts.1 each.1 other.1)
