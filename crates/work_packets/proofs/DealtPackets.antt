-- Packets are dealt to shares in turn.
use Rattle.std.proofs.Common.{◌≡◌, ℕ, zero, suc, ◌+◌, ◌<◌, ◌≤◌, ◌^◌, List, [], ◌∷◌, ◌++◌, All, map, refl, sym, ap, ◌∙◌, subst, length, length-set, set, get_or, min, ◌-◌, inl, inr, ◌⊎◌, arith}
use Rattle.std.specs.List.{flat_map}
use Rattle.std.proofs.Math.Nat.{min-eq_left}
use Rattle.std.proofs.lemmas.List.{map-append}
use Rattle.std.proofs.lemmas.List.Elements.{All-cons, All-nil}
use Rattle.std.proofs.lemmas.List.Sorted.{IsPermutation-trans, IsPermutation-append_right, IsPermutation-sym, IsPermutation-middle}
use Rattle.std.specs.List.Sorted.{IsPermutation}
use Rattle.work_packets.specs.Shares.{AreNumberedFrom}
use Rattle.work_packets.proofs.Pieces.{piece, join, rearranged}

module _ {X Y : Type 0} where
  -- one list of a list of lists gets one element more
  pub joins : (f : X → List Y) (xs : List X) (i : ℕ) (x y : X) (z : Y) → i < length xs → x ≡ get_or xs i x → f y ≡ f x ++ z ∷ [] → IsPermutation (z ∷ flat_map f xs) (flat_map f (set xs i y))
  joins f [] i x y z lt is e = absurd (omega arith)
  joins f (a ∷ xs) zero x y z lt is e =
      let s : IsPermutation ((z ∷ []) ++ (f a ++ flat_map f xs)) ((f a ++ z ∷ []) ++ flat_map f xs) = rearranged ((z ∷ []) ∷ f a ∷ flat_map f xs ∷ []) (join (piece 0) (join (piece 1) (piece 2))) (join (join (piece 1) (piece 0)) (piece 2)) refl in
      subst (λ l. IsPermutation (z ∷ (f a ++ flat_map f xs)) (l ++ flat_map f xs)) (sym (e ∙ ap (λ u. f u ++ z ∷ []) is)) s
  joins f (a ∷ xs) (suc i) x y z lt is e =
      IsPermutation-trans _ _ _ (IsPermutation-sym _ _ (IsPermutation-middle (f a) z (flat_map f xs))) (IsPermutation-append_right (f a) _ _ (joins f xs i x y z (omega arith) is e))

-- the first `i` sizes are n + 1, the others n
abbrev pub AreDealt : ℕ → ℕ → List ℕ → Type 0
AreDealt n i [] = Unit {0}
AreDealt n zero (x ∷ xs) = (x ≡ n) × AreDealt n zero xs
AreDealt n (suc i) (x ∷ xs) = (x ≡ n + 1) × AreDealt n i xs

-- one number more
counted-more : (a : ℕ) (ns : List ℕ) (n : ℕ) → AreNumberedFrom a ns → (a + length ns < 2 ^ 32 → n ≡ a + length ns) → AreNumberedFrom a (ns ++ n ∷ [])
counted-more a [] n h is = (λ lt. let e = is (omega arith) in omega arith, tt)
counted-more a (m ∷ ns) n h is = (h.0, counted-more (a + 1) ns n h.1 (λ lt. let e = is (omega arith) in omega arith))

plus-one : (i : ℕ) → i + 1 ≡ suc i
plus-one i = omega arith

deal-one : (n i : ℕ) (xs : List ℕ) → AreDealt n i xs → i < length xs → AreDealt n (suc i) (set xs i (n + 1))
deal-one n i [] h lt = tt
deal-one n zero (x ∷ xs) h lt = (refl, h.1)
deal-one n (suc i) (x ∷ xs) h lt = (h.0, deal-one n i xs h.1 (omega arith))

dealt-size : (n i : ℕ) (xs : List ℕ) (d : ℕ) → AreDealt n i xs → i < length xs → get_or xs i d ≡ n
dealt-size n i [] d h lt = absurd (omega arith)
dealt-size n zero (x ∷ xs) d h lt = h.0
dealt-size n (suc i) (x ∷ xs) d h lt = dealt-size n i xs d h.1 (omega arith)

next-round : (n : ℕ) (xs : List ℕ) → AreDealt n (length xs) xs → AreDealt (n + 1) zero xs
next-round n [] h = tt
next-round n (x ∷ xs) h = (h.0, next-round n xs h.1)

pub none-dealt : {X : Type 0} (xs : List X) → AreDealt zero zero (map (λ x. 0) xs)
none-dealt [] = tt
none-dealt (x ∷ xs) = (refl, none-dealt xs)

pub then-even : (n i : ℕ) (xs : List ℕ) → AreDealt n i xs → All (λ x. (n ≤ x) × (x ≤ n + 1)) xs
then-even n i [] h = All-nil _
then-even n zero (x ∷ xs) h =
    let e : x ≡ n = h.0 in let here : (n ≤ x) × (x ≤ n + 1) = (omega arith, omega arith) in
    All-cons (λ x. (n ≤ x) × (x ≤ n + 1)) x xs here (then-even n zero xs h.1)
then-even n (suc i) (x ∷ xs) h =
    let e : x ≡ n + 1 = h.0 in let here : (n ≤ x) × (x ≤ n + 1) = (omega arith, omega arith) in
    All-cons (λ x. (n ≤ x) × (x ≤ n + 1)) x xs here (then-even n i xs h.1)

-- place i gets one more, and the next place is its successor or the first
pub next-dealt : (n i k : ℕ) (xs : List ℕ) → AreDealt n i xs → i < length xs → (k ≡ i + 1) ⊎ ((k ≡ 0) × (i + 1 ≡ length xs)) → (m : ℕ) × AreDealt m k (set xs i (get_or xs i 0 + 1))
next-dealt n i k xs h lt next =
    let more : AreDealt n (suc i) (set xs i (get_or xs i 0 + 1)) = subst (λ s. AreDealt n (suc i) (set xs i (s + 1))) (sym (dealt-size n i xs 0 h lt)) (deal-one n i xs h lt) in
    elim next as (λ _. (m : ℕ) × AreDealt m k (set xs i (get_or xs i 0 + 1))) [
      | inl e ↦ (n, subst (λ j. AreDealt n j (set xs i (get_or xs i 0 + 1))) (sym (e ∙ plus-one i)) more)
      | inr e ↦ (
        n + 1,
        subst (λ j. AreDealt (n + 1) j (set xs i (get_or xs i 0 + 1))) (sym e.0)
            (next-round n _ (subst (λ j. AreDealt n j (set xs i (get_or xs i 0 + 1))) (sym (plus-one i) ∙ e.1 ∙ sym (length-set xs i (get_or xs i 0 + 1))) more)),
      )
    ]

module _ {X : Type 0} where
  pub length-push : (xs : List X) (x : X) → length (xs ++ x ∷ []) ≡ length xs + 1
  length-push [] x = refl
  length-push (y ∷ xs) x = let e = length-push xs x in omega arith

-- a sum that stays below the end of `u32`
pub small-sum : (r n : ℕ) → r ≡ min (n + 1) (2 ^ 32 - 1) → n + 1 ≤ 2 ^ 32 - 1 → r ≡ n + 1
small-sum r n e le = e ∙ min-eq_left le

module _ {X : Type 0} where
  -- one element more, with the next number
  pub counted-push : (f : X → ℕ) (old new : List X) (x : X) → new ≡ old ++ x ∷ [] → AreNumberedFrom 1 (map f old) → (1 + length (map f old) < 2 ^ 32 → f x ≡ 1 + length (map f old)) → AreNumberedFrom 1 (map f new) × (length (map f new) ≡ length (map f old) + 1)
  counted-push f old new x e h is =
      let more : map f new ≡ map f old ++ f x ∷ [] = ap (map f) e ∙ map-append f old (x ∷ []) in
      (subst (AreNumberedFrom 1) (sym more) (counted-more 1 (map f old) (f x) h is), ap length more ∙ length-push (map f old) (f x))

  -- one element is replaced by one whose size is greater by one
  pub given-one : (size : X → ℕ) (xs : List X) (i : ℕ) (x y : X) → i < length xs → x ≡ get_or xs i x → size y ≡ size x + 1 → map size (set xs i y) ≡ set (map size xs) i (get_or (map size xs) i 0 + 1)
  given-one size [] i x y lt is more = absurd (omega arith)
  given-one size (a ∷ xs) zero x y lt is more = ap (λ n. n ∷ map size xs) (more ∙ ap (λ z. size z + 1) is)
  given-one size (a ∷ xs) (suc i) x y lt is more = ap (λ l. size a ∷ l) (given-one size xs i x y (omega arith) is more)
