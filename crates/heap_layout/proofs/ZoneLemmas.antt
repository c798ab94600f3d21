-- Laws of the zones, for proofs about indexes of the row.
use Rattle.std.proofs.Common.{ℕ, ◌<◌, ◌≤◌, ◌+◌, ◌*◌, ◌≡◌, inl, inr, arith}
use Rattle.std.proofs.lemmas.Bool.{cases_lt}
use Rattle.heap_layout.specs.Zones.{Zone, StopWord, BudgetWord, Globals, BlockWords, LineWords, StartBits, PinBits, UnlogBits, HeapWords, InZone, row_words}

-- i lies in a zone
abbrev Found : ℕ → ℕ → Type 0
Found b i = (z : Zone) × InZone b z i

-- the index lies below the end of a zone, or from there on
split : (b i end : ℕ) → (i < end → Found b i) → (end ≤ i → Found b i) → Found b i
split b i end below above = elim (cases_lt i end) as (λ _. Found b i) [ inl h ↦ below h | inr h ↦ above h ]

-- each index of the row lies in a zone
pub cover : (b i : ℕ) → i < row_words b → Found b i
cover b i within =
    split b i 1 (λ h. (StopWord, record { from = omega arith; below = omega arith })) (λ a.
    split b i 2 (λ h. (BudgetWord, record { from = omega arith; below = omega arith })) (λ a.
    split b i 18 (λ h. (Globals, record { from = omega arith; below = omega arith })) (λ a.
    split b i (18 + b) (λ h. (BlockWords, record { from = omega arith; below = omega arith })) (λ a.
    split b i (18 + 5 * b) (λ h. (LineWords, record { from = omega arith; below = omega arith })) (λ a.
    split b i (18 + 69 * b) (λ h. (StartBits, record { from = omega arith; below = omega arith })) (λ a.
    split b i (18 + 133 * b) (λ h. (PinBits, record { from = omega arith; below = omega arith })) (λ a.
    split b i (18 + 197 * b) (λ h. (UnlogBits, record { from = omega arith; below = omega arith })) (λ a.
    (HeapWords, record { from = omega arith; below = omega arith })))))))))

-- an index lies in one zone alone
pub apart : (b i : ℕ) (y z : Zone) → InZone b y i → InZone b z i → y ≡ z
apart b i y z p q = grind arith

-- an index of a zone is an index of the row
pub in-zone_inside : (b i : ℕ) (z : Zone) → InZone b z i → i < row_words b
in-zone_inside b i z p = grind arith
