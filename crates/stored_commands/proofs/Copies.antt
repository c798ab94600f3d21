-- Lists that are copied element by element.
use Rattle.std.proofs.Common.{◌≡◌, ◌++◌, ◌∷◌, [], ◌+◌, List, Some, None, sym, ap, ◌∙◌, take, length, get_or, slice_get, inl, inr}
use Rattle.std.proofs.lemmas.List.{length-append, take_all, take_more}
use Rattle.std.proofs.lemmas.Option.{slice_get_within, slice_get_cases, get_or_from_slice_get}

-- one element more is copied
pub copied-more : {A : Type 0} (xs ys : List A) (x : A) → ys ≡ take (length ys) xs → slice_get xs (length ys) ≡ Some x → ys ++ x ∷ [] ≡ take (length (ys ++ x ∷ [])) xs
copied-more xs ys x so_far next =
    let more : take (length ys + 1) xs ≡ take (length ys) xs ++ get_or xs (length ys) x ∷ [] = take_more xs (length ys) x (slice_get_within xs (length ys) x next) in
    rw (length-append ys (x ∷ []), more, get_or_from_slice_get xs (length ys) x x next) (ap (λ l. l ++ x ∷ []) so_far)

-- all elements are copied
pub copied-all : {A : Type 0} (xs ys : List A) → ys ≡ take (length ys) xs → slice_get xs (length ys) ≡ None → ys ≡ xs
copied-all xs ys so_far past = elim (slice_get_cases xs (length ys)).1 as (λ _. ys ≡ xs) [
  | inl some ↦ let wrong : Some some.0 ≡ None = sym some.2 ∙ past in cc
  | inr none ↦ so_far ∙ take_all (length ys) xs none.0
]
