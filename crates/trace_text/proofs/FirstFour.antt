-- A word of four bytes or more, by its first four.
use Rattle.std.proofs.Common.{◌≡◌, refl, sym, ◌∙◌, ap, ℕ, ◌+◌, ◌<◌, ◌≤◌, arith, inl, inr, List, [], ◌∷◌, ◌++◌, length, get_or, take, drop, append_assoc, w32}
use Rattle.std.specs.Int.{from_le_bytes, to_le_bytes}
use Rattle.std.proofs.lemmas.Bool.{cases_lt}
use Rattle.std.proofs.lemmas.List.{take-append-drop, get_or-take, get_or_past, length-drop, length-take-le, drop-drop}
use Rattle.std.proofs.lemmas.Nat.{le_bytes_4}

pub four_are : (xs : List ℕ) → 4 ≤ length xs → get_or xs 0 0 ∷ get_or xs 1 0 ∷ get_or xs 2 0 ∷ get_or xs 3 0 ∷ [] ≡ take 4 xs
four_are [] long = absurd (omega arith)
four_are (a ∷ []) long = absurd (omega arith)
four_are (a ∷ b ∷ []) long = absurd (omega arith)
four_are (a ∷ b ∷ c ∷ []) long = absurd (omega arith)
four_are (a ∷ b ∷ c ∷ d ∷ xs) long = refl

bytes_of : (xs : List ℕ) (n : ℕ) → 4 ≤ length xs → ((i : ℕ) → get_or xs i 0 < 256) → n ≡ from_le_bytes w32 (take 4 xs) → to_le_bytes w32 n ≡ take 4 xs
bytes_of xs n long bytes is =
    let size = length-take-le 4 xs long in
    le_bytes_4 (take 4 xs) n size (λ i. elim (cases_lt i 4) [
      | inl inside ↦ omega (arith, get_or-take 4 xs i 0 inside, bytes i)
      | inr outside ↦ omega (arith, get_or_past (take 4 xs) i 0 (omega (arith, size)))
    ]) is

-- texts that begin with the same four bytes, and go on alike
pub begins_alike : (text word : List ℕ) (m n : ℕ) → 4 ≤ length text → 4 ≤ length word → ((i : ℕ) → get_or text i 0 < 256) → ((i : ℕ) → get_or word i 0 < 256)
    → m ≡ from_le_bytes w32 (take 4 text) → n ≡ from_le_bytes w32 (take 4 word) → m ≡ n → (xs ys : List ℕ) → xs ≡ drop 4 text → ys ≡ drop 4 word → xs ≡ ys ++ drop (length ys) xs
    → text ≡ word ++ drop (length word) text
begins_alike text word m n long enough bytes others one two same xs ys there here begun =
    let after : drop 4 text ≡ drop 4 word ++ drop (length (drop 4 word)) (drop 4 text) =
    sym there ∙ begun ∙ ap (λ l. l ++ drop (length l) xs) here ∙ ap (λ l. drop 4 word ++ drop (length (drop 4 word)) l) there in
    let front : take 4 text ≡ take 4 word = sym (bytes_of text m long bytes one) ∙ ap (to_le_bytes w32) same ∙ bytes_of word n enough others two in
    let size : 4 + length (drop 4 word) ≡ length word = omega (arith, length-drop 4 word) in
    let rest : drop (length (drop 4 word)) (drop 4 text) ≡ drop (length word) text = drop-drop (length (drop 4 word)) 4 text ∙ ap (λ k. drop k text) size in
    sym (take-append-drop 4 text) ∙ ap (λ x. x ++ drop 4 text) front ∙ ap (λ x. take 4 word ++ x) (after ∙ ap (λ x. drop 4 word ++ x) rest)
    ∙ sym (append_assoc (take 4 word) (drop 4 word) (drop (length word) text)) ∙ ap (λ x. x ++ drop (length word) text) (take-append-drop 4 word)
