-- Words that places take, and places that have no word of others.
use Rattle.std.proofs.Common.{◌≡◌, refl, sym, ◌∙◌, ap, ℕ, zero, suc, ◌+◌, ◌<◌, ◌≤◌, arith, inl, inr, Bool, true, false, ◌||◌, not, nat_le, nat_lt, List, [], ◌∷◌, ◌++◌}
use Rattle.std.specs.Prelude.{slice_index_or}
use Rattle.std.specs.List.{All, AllByRecursion, AllPairs, list_all, range_with_len}
use Rattle.std.proofs.lemmas.Bool.{and_from, and_parts, cases_Bool, le-leb, leb-true, lt-ltb, ltb-true, not-true, or_left, or_right, true≢false}
use Rattle.std.proofs.lemmas.List.Elements.{All-from_recursion, recursion_from_All}
use Rattle.std.proofs.lemmas.List.Folds.{list_any-append}
use Rattle.std.proofs.lemmas.List.Kept.{AllPairs-cons}
use Rattle.object_model.proofs.LawfulTests.{in-range}
use Rattle.driver.specs.MapPlaces.{AreDisjoint, HasWord}
use Rattle.heap_picture.specs.declared.forms.Place.{Place}
use Rattle.heap_picture.specs.Bars.{room_of}
use Rattle.heap_picture.specs.Marks.{MarksWords, end_word, first_word, has_word, is_taken, room_words}
use Rattle.heap_picture.specs.Reading.{is_free}

-- none of the words of the place is taken
abbrev pub FreeOf : List Place → Place → Type 0
FreeOf ps p = (i : ℕ) → first_word p ≤ i → i < end_word p → is_taken ps i ≡ false

abbrev pub Apart : Place → Place → Type 0
Apart p q = AreDisjoint (room_of p) (room_of q)

pub range_passes : (p : ℕ → Bool) (n a : ℕ) → ((i : ℕ) → a ≤ i → i < a + n → p i ≡ true) → list_all p (range_with_len a n) ≡ true
range_passes p zero a each = refl
range_passes p (suc n) a each =
    and_from _ _ (each a (omega arith) (omega arith)) (range_passes p n (a + 1) (λ i from below. each i (omega (arith, from)) (omega (arith, below))))

pub free_is : (ps : List Place) (p : Place) → is_free ps p ≡ true → FreeOf ps p
free_is ps p e i from below = not-true (is_taken ps i) (in-range (λ i. not (is_taken ps i)) (first_word p) (room_words p.size) e i from below)

pub free_again : (ps : List Place) (p : Place) → FreeOf ps p → is_free ps p ≡ true
free_again ps p free = range_passes (λ i. not (is_taken ps i)) (room_words p.size) (first_word p) (λ i from below. ap not (free i from below))

-- a word of the place is taken
pub not_free : (ps : List Place) (p : Place) (i : ℕ) → first_word p ≤ i → i < end_word p → is_taken ps i ≡ true → is_free ps p ≡ false
not_free ps p i from below taken = elim (cases_Bool (is_free ps p)) as (λ _. is_free ps p ≡ false) [
  | inl free ↦ absurd (true≢false (sym taken ∙ free_is ps p free i from below))
  | inr none ↦ none
]

-- the answer of a search through marks
pub free_by : (b : Bool) (ps : List Place) (marks : List Bool) (p : Place) → MarksWords ps marks
    → (b ≡ true → (i : ℕ) → first_word p ≤ i → i < end_word p → slice_index_or marks i false ≡ false)
    → (b ≡ false → (i : ℕ) × (first_word p ≤ i) × (i < end_word p) × (slice_index_or marks i false ≡ true)) → b ≡ is_free ps p
free_by true ps marks p is free taken = sym (free_again ps p (λ i from below. sym (is i) ∙ free refl i from below))
free_by false ps marks p is free taken =
    let found = taken refl in
    sym (not_free ps p found.0 found.1 found.2 (sym (is found.0) ∙ found.3))

has_again : (i : ℕ) (p : Place) → HasWord (room_of p) i → has_word i p ≡ true
has_again i p h = and_from _ _ (le-leb (first_word p) i h.from) (lt-ltb i (end_word p) h.below)

taken_by_last : (i : ℕ) (ps : List Place) (p : Place) → has_word i p ≡ true → is_taken (ps ++ p ∷ []) i ≡ true
taken_by_last i ps p has = list_any-append (has_word i) ps (p ∷ []) ∙ or_right _ _ (or_left _ _ has)

stays_taken : (i : ℕ) (ps : List Place) (p : Place) → is_taken ps i ≡ true → is_taken (ps ++ p ∷ []) i ≡ true
stays_taken i ps p taken = list_any-append (has_word i) ps (p ∷ []) ∙ or_left _ _ taken

-- each place has no word of those before it, which come after others
abbrev pub Clear : List Place → List Place → Type 0
Clear ps [] = Unit {0}
Clear ps (p ∷ more) = FreeOf ps p × Clear (ps ++ p ∷ []) more

apart_of : (p : Place) (ps more : List Place) → ((i : ℕ) → has_word i p ≡ true → is_taken ps i ≡ true) → Clear ps more → AllByRecursion (Apart p) more
apart_of p ps [] has clear = tt
apart_of p ps (q ∷ more) has clear = (
  λ i one two. absurd (true≢false (sym (has i (has_again i p one)) ∙ clear.0 i two.from two.below)),
  apart_of p (ps ++ q ∷ []) more (λ i one. stays_taken i ps q (has i one)) clear.1,
)

pub clear_pairs : (ps more : List Place) → Clear ps more → AllPairs Apart more
clear_pairs ps [] clear = λ i j d less low. absurd (omega (arith, low))
clear_pairs ps (p ∷ more) clear =
    AllPairs-cons Apart p more (All-from_recursion (Apart p) more (apart_of p (ps ++ p ∷ []) more (λ i has. taken_by_last i ps p has) clear.1)) (clear_pairs (ps ++ p ∷ []) more clear.1)

both_false : (a b : Bool) → a ≡ false → b ≡ false → (a || (b || false)) ≡ false
both_false true b one two = one
both_false false true one two = two
both_false false false one two = refl

free_of_last : (ps : List Place) (p q : Place) → FreeOf ps q → Apart p q → FreeOf (ps ++ p ∷ []) q
free_of_last ps p q free apart i from below =
    list_any-append (has_word i) ps (p ∷ [])
    ∙ both_false (is_taken ps i) (has_word i p) (free i from below) (elim (cases_Bool (has_word i p)) as (λ _. has_word i p ≡ false) [
      | inl has ↦ (let parts = and_parts (nat_le (first_word p) i) (nat_lt i (end_word p)) has in
          absurd (apart i (record { from = leb-true (first_word p) i parts.0; below = ltb-true i (end_word p) parts.1 }) (record { from = from; below = below })))
      | inr none ↦ none
    ])

later_free : (p : Place) (ps more : List Place) → AllByRecursion (FreeOf ps) more → AllByRecursion (Apart p) more → AllByRecursion (FreeOf (ps ++ p ∷ [])) more
later_free p ps [] free apart = tt
later_free p ps (q ∷ more) free apart = (free_of_last ps p q free.0 apart.0, later_free p ps more free.1 apart.1)

first_apart : (p : Place) (more : List Place) → AllPairs Apart (p ∷ more) → All (Apart p) more
first_apart p more pairs i d low = pairs zero (suc i) d (omega arith) (omega (arith, low))

pub pairs_clear : (ps more : List Place) → AllByRecursion (FreeOf ps) more → AllPairs Apart more → Clear ps more
pairs_clear ps [] free pairs = tt
pairs_clear ps (p ∷ more) free pairs = (
  free.0,
  pairs_clear (ps ++ p ∷ []) more (later_free p ps more free.1 (recursion_from_All (Apart p) more (first_apart p more pairs)))
      (λ i j d less low. pairs (suc i) (suc j) d (omega (arith, less)) (omega (arith, low))),
)

all_free : (more : List Place) → AllByRecursion (FreeOf []) more
all_free [] = tt
all_free (p ∷ more) = (λ i from below. refl, all_free more)

pub clear_again : (more : List Place) → AllPairs Apart more → Clear [] more
clear_again more pairs = pairs_clear [] more (all_free more) pairs
