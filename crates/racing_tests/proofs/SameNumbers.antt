-- Lists whose elements have the same numbers, place by place.
use Rattle.std.proofs.Common.{◌≡◌, ◌<◌, refl, ap, ◌∙◌, arith, ℕ, suc, List, [], ◌∷◌, length, map, get_or}

pub same-numbers : {X : Type 0} (f : X → ℕ) (xs ys : List X) → length xs ≡ length ys → ((k : ℕ) (d : X) → k < length xs → f (get_or ys k d) ≡ f (get_or xs k d)) → map f ys ≡ map f xs
same-numbers f [] [] many each = refl
same-numbers f [] (y ∷ ys) many each = absurd (omega (arith, many))
same-numbers f (x ∷ xs) [] many each = absurd (omega (arith, many))
same-numbers f (x ∷ xs) (y ∷ ys) many each =
    let first : f y ≡ f x = each 0 x (omega arith) in
    let rest = same-numbers f xs ys (omega (arith, many)) (λ k d within. each (suc k) d (omega (arith, within))) in
    ap (λ (n : ℕ). n ∷ map f ys) first ∙ ap (λ (ns : List ℕ). f x ∷ ns) rest
