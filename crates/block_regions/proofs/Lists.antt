-- Lists with elements of any type.
use Rattle.std.proofs.Common.{◌≡◌, refl, sym, ◌∙◌, ap, ℕ, ◌<◌, arith, List, [], ◌∷◌, length, map, zero, suc, replicate}
use Rattle.std.specs.Prelude.{Option, Some, None, slice_get, unwrap_or}

-- an element below the length
pub get-some : {A : Type 0} (xs : List A) (k : ℕ) → k < length xs → (x : A) × (slice_get xs k ≡ Some x)
get-some [] k below = absurd (omega arith)
get-some (x ∷ xs) zero below = (x, refl)
get-some (x ∷ xs) (suc k) below = get-some xs k (let b : suc k < suc (length xs) = below in omega arith)

-- and an element that is there
pub get-below : {A : Type 0} (xs : List A) (k : ℕ) (x : A) → slice_get xs k ≡ Some x → k < length xs
get-below [] k x is = let wrong : None ≡ Some x = is in cc
get-below (y ∷ ys) zero x is = let l = length ys in omega arith
get-below (y ∷ ys) (suc k) x is = let less : k < length ys = get-below ys k x is in omega arith

pub one-element : {A : Type 0} (o : Option A) (x y : A) → o ≡ Some x → o ≡ Some y → x ≡ y
one-element o x y e f = ap (λ q. unwrap_or q x) (sym e ∙ f)

pub get-map : {A B : Type 0} (f : A → B) (xs : List A) (k : ℕ) (x : A) → slice_get xs k ≡ Some x → slice_get (map f xs) k ≡ Some (f x)
get-map f [] k x is = let wrong : None ≡ Some x = is in cc
get-map f (y ∷ ys) zero x is = ap (λ o. option_of f o) is
  where
    option_of : {A B : Type 0} (f : A → B) → Option A → Option B
    option_of f None = None
    option_of f (Some x) = Some (f x)
get-map f (y ∷ ys) (suc k) x is = get-map f ys k x is

-- an element of a list of copies
pub get-copy : {A : Type 0} (n : ℕ) (x y : A) (k : ℕ) → slice_get (replicate n x) k ≡ Some y → y ≡ x
get-copy zero x y k is = let wrong : None ≡ Some y = is in cc
get-copy (suc n) x y zero is = let e : Some x ≡ Some y = is in cc
get-copy (suc n) x y (suc k) is = get-copy n x y k is
