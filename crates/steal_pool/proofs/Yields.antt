-- The items of a list, as they are.
use Rattle.std.proofs.Common.{◌≡◌, List, [], ◌∷◌, map, refl, ap}

module _ {X : Type 0} where
  pub map-same : (xs : List X) → map (λ y. y) xs ≡ xs
  map-same [] = refl
  map-same (x ∷ xs) = ap (λ l. x ∷ l) (map-same xs)
