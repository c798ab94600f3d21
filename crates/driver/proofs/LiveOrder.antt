-- The line on live objects does not go by their order.
use Rattle.std.proofs.Common.{◌≡◌, refl, sym, ◌∙◌, ap, ap₂, subst, ℕ, ◌+◌, ◌<◌, ◌≤◌, ◌^◌, arith, List, [], ◌∷◌, ◌++◌, length, slice_index_or}
use Rattle.std.specs.Prelude.{codes, sum_by}
use Rattle.std.specs.Fmt.{decimal}
use Rattle.std.specs.List.Sorted.{IsPermutation}
use Rattle.std.proofs.lemmas.Bool.{eqb-true}
use Rattle.std.proofs.lemmas.List.Sorted.{length_permutation, sum_by-IsPermutation}
use Rattle.std.proofs.lemmas.List.Sums.{sum_by-append, sum_by-cons}
use Rattle.std.proofs.lemmas.Map.Steps.{length-le_from_distinct_below}
use Rattle.std.proofs.lemmas.Map.Views.{Contains-from_any}
use Rattle.heap_layout.specs.Zones.{row_words}
use Rattle.object_model.specs.Objects.{HeapState, IsHeld, size_at}
use Rattle.object_model.specs.Lawful.{IsLawful}
use Rattle.object_model.specs.Counting.{count_words_at}
use Rattle.heap_graph.specs.Places.{AreReached}
use Rattle.trace_text.specs.Text.{ended}
use Rattle.driver.specs.Texts.{live_line}

words-sum : (s : HeapState) (live : List ℕ) → count_words_at s live ≡ sum_by (size_at s) live
words-sum s [] = refl
words-sum s (a ∷ live) = ap (λ n. size_at s a + n) (words-sum s live) ∙ sym (sum_by-cons (size_at s) a live)

-- the words of one object more
pub words-more : (s : HeapState) (live : List ℕ) (a : ℕ) → count_words_at s (live ++ a ∷ []) ≡ count_words_at s live + size_at s a
words-more s live a =
    let all = words-sum s (live ++ a ∷ []) in
    let split = sum_by-append (size_at s) live (a ∷ []) in
    let last = sum_by-cons (size_at s) a [] in
    let none : sum_by (size_at s) [] ≡ 0 = refl in
    let before = words-sum s live in
    omega (arith, all, split, last, none, before)

pub same-line : (s : HeapState) (live other : List ℕ) → IsPermutation live other → live_line s live ≡ live_line s other
same-line s live other same =
    let line : ℕ → ℕ → List ℕ = λ n m. ended (codes "live objects " ++ decimal n ++ codes " words " ++ decimal m) in
    ap₂ line (sym (length_permutation live other same)) (words-sum s live ∙ sym (sum_by-IsPermutation (size_at s) live other same) ∙ sym (words-sum s other))

-- reached objects are fewer than the words of a row
pub reached-few : (s : HeapState) → IsLawful s → (roots reached : List ℕ) → AreReached s roots reached → length reached < 2 ^ 32
reached-few s lawful roots reached are =
    let many : length reached ≤ row_words s.blocks = length-le_from_distinct_below reached (row_words s.blocks) are.apart (λ q there.
    let place = Contains-from_any (λ x y e. eqb-true x y e) q reached there in
    let held : IsHeld s (slice_index_or reached place.0 q) = are.held place.0 q place.1 in
    subst (λ (x : ℕ). x < row_words s.blocks) place.2 held.address.below) in
    let most = lawful.but_lines.order.row.most in
    omega (arith, many, most)
