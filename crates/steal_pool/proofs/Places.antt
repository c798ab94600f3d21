-- Lists that change place by place.
use Rattle.std.proofs.Common.{◌≡◌, ℕ, zero, suc, ◌+◌, ◌<◌, ◌≤◌, List, [], ◌∷◌, ◌++◌, All, map, length, set, get_or, refl, sym, ap, ◌∙◌, subst, append_assoc, arith}
use Rattle.std.specs.List.{AllZip, flat_map}
use Rattle.std.proofs.lemmas.List.{append-nil, length-map}
use Rattle.std.proofs.lemmas.Grind.{flat_map-append}
use Rattle.std.specs.List.Sorted.{IsPermutation}
use Rattle.std.proofs.lemmas.List.Elements.{All-cons, All-nil, All-head, All-tail, All-push}
use Rattle.std.proofs.lemmas.List.Sorted.{IsPermutation-trans, IsPermutation-append, IsPermutation-append_right, IsPermutation-append_left}
use Rattle.work_packets.proofs.Pieces.{piece, join, rearranged}

module _ {X : Type 0} (P Q : X → Type 0) where
  -- P holds of the first `i`, and Q of the others
  abbrev pub AreUpTo : ℕ → List X → Type 0
  AreUpTo i [] = Unit {0}
  AreUpTo zero (x ∷ xs) = Q x × AreUpTo zero xs
  AreUpTo (suc i) (x ∷ xs) = P x × AreUpTo i xs

  plus-one : (i : ℕ) → i + 1 ≡ suc i
  plus-one i = omega arith

  pub none-yet : (xs : List X) → All Q xs → AreUpTo zero xs
  none-yet [] h = tt
  none-yet (x ∷ xs) h = (All-head Q x xs h, none-yet xs (All-tail Q x xs h))

  pub next-place : (i : ℕ) (xs : List X) (d : X) → AreUpTo i xs → i < length xs → Q (get_or xs i d)
  next-place i [] d h lt = absurd (omega arith)
  next-place zero (x ∷ xs) d h lt = h.0
  next-place (suc i) (x ∷ xs) d h lt = next-place i xs d h.1 (omega arith)

  one-more-place : (i : ℕ) (xs : List X) (y : X) → AreUpTo i xs → P y → AreUpTo (suc i) (set xs i y)
  one-more-place i [] y h p = tt
  one-more-place zero (x ∷ xs) y h p = (p, h.1)
  one-more-place (suc i) (x ∷ xs) y h p = (h.0, one-more-place i xs y h.1 p)

  pub place-done : (i : ℕ) (xs : List X) (y : X) → AreUpTo i xs → P y → AreUpTo (i + 1) (set xs i y)
  place-done i xs y h p = subst (λ k. AreUpTo k (set xs i y)) (sym (plus-one i)) (one-more-place i xs y h p)

  pub all-done : (i : ℕ) (xs : List X) → length xs ≤ i → AreUpTo i xs → All P xs
  all-done i [] le h = All-nil P
  all-done zero (x ∷ xs) le h = absurd (omega arith)
  all-done (suc i) (x ∷ xs) le h = All-cons P x xs h.0 (all-done i xs (omega arith) h.1)

  -- from the last place down
  all-left-at : (xs : List X) → All P xs → AreUpTo (length xs) xs
  all-left-at [] h = tt
  all-left-at (x ∷ xs) h = (All-head P x xs h, all-left-at xs (All-tail P x xs h))

  pub all-to-do : (n : ℕ) (xs : List X) → n ≡ length xs → All P xs → AreUpTo n xs
  all-to-do n xs e h = subst (λ k. AreUpTo k xs) (sym e) (all-left-at xs h)

  last-place : (i : ℕ) (xs : List X) (d : X) → AreUpTo (suc i) xs → i < length xs → P (get_or xs i d)
  last-place i [] d h lt = absurd (omega arith)
  last-place zero (x ∷ xs) d h lt = h.0
  last-place (suc i) (x ∷ xs) d h lt = last-place i xs d h.1 (omega arith)

  pub place-to-do : (n i : ℕ) (xs : List X) (d : X) → n ≡ i + 1 → AreUpTo n xs → i < length xs → P (get_or xs i d)
  place-to-do n i xs d e h lt = last-place i xs d (subst (λ k. AreUpTo k xs) (e ∙ plus-one i) h) lt

  one-place-less : (i : ℕ) (xs : List X) (y : X) → AreUpTo (suc i) xs → Q y → AreUpTo i (set xs i y)
  one-place-less i [] y h q = tt
  one-place-less zero (x ∷ xs) y h q = (q, h.1)
  one-place-less (suc i) (x ∷ xs) y h q = (h.0, one-place-less i xs y h.1 q)

  pub place-left : (n i : ℕ) (xs : List X) (y : X) → n ≡ i + 1 → AreUpTo n xs → Q y → AreUpTo i (set xs i y)
  place-left n i xs y e h q = one-place-less i xs y (subst (λ k. AreUpTo k xs) (e ∙ plus-one i) h) q

  none-left-at : (xs : List X) → AreUpTo zero xs → All Q xs
  none-left-at [] h = All-nil Q
  none-left-at (x ∷ xs) h = All-cons Q x xs h.0 (none-left-at xs h.1)

  pub none-to-do : (n : ℕ) (xs : List X) → n ≡ 0 → AreUpTo n xs → All Q xs
  none-to-do n xs e h = none-left-at xs (subst (λ k. AreUpTo k xs) e h)

module _ {X : Type 0} (P : X → Type 0) where
  pub added : (old new : List X) (x : X) → new ≡ old ++ x ∷ [] → P x → All P old → All P new
  added old new x e here h = subst (All P) (sym e) (All-push P old x h here)

module _ {X Y : Type 0} (f : X → Y) where
  pub same-count : (xs ys : List X) → map f xs ≡ map f ys → length xs ≡ length ys
  same-count xs ys e = sym (length-map xs f) ∙ ap length e ∙ length-map ys f

module _ {X Y Z : Type 0} (f : X → Y) where
  map-parts : (g : Y → Z) (xs : List X) → map (λ x. g (f x)) xs ≡ map g (map f xs)
  map-parts g [] = refl
  map-parts g (x ∷ xs) = ap (λ l. g (f x) ∷ l) (map-parts g xs)

  -- what follows from f is the same where f is
  pub same-parts : (g : Y → Z) (xs ys : List X) → map f xs ≡ map f ys → map (λ x. g (f x)) xs ≡ map (λ x. g (f x)) ys
  same-parts g xs ys e = map-parts g xs ∙ ap (map g) e ∙ sym (map-parts g ys)

  flat-parts : (g : Y → List Z) (xs : List X) → flat_map (λ x. g (f x)) xs ≡ flat_map g (map f xs)
  flat-parts g [] = refl
  flat-parts g (x ∷ xs) = ap (λ l. g (f x) ++ l) (flat-parts g xs)

  pub same-flat-parts : (g : Y → List Z) (xs ys : List X) → map f xs ≡ map f ys → flat_map (λ x. g (f x)) xs ≡ flat_map (λ x. g (f x)) ys
  same-flat-parts g xs ys e = flat-parts g xs ∙ ap (flat_map g) e ∙ sym (flat-parts g ys)

module _ {X Y : Type 0} (f : X → List Y) where
  -- one list of a list of lists is another
  pub flat-set : (xs : List X) (i : ℕ) (y d : X) (ps qs : List Y) → i < length xs → IsPermutation (f (get_or xs i d) ++ ps) (f y ++ qs) → IsPermutation (flat_map f xs ++ ps) (flat_map f (set xs i y) ++ qs)
  flat-set [] i y d ps qs lt h = absurd (omega arith)
  flat-set (x ∷ xs) zero y d ps qs lt h =
      let l = flat_map f xs in
      IsPermutation-trans _ _ _ (rearranged (f x ∷ l ∷ ps ∷ []) (join (join (piece 0) (piece 1)) (piece 2)) (join (join (piece 0) (piece 2)) (piece 1)) refl)
      (IsPermutation-trans _ _ _ (IsPermutation-append_left l _ _ h)
      (rearranged (f y ∷ qs ∷ l ∷ []) (join (join (piece 0) (piece 1)) (piece 2)) (join (join (piece 0) (piece 2)) (piece 1)) refl))
  flat-set (x ∷ xs) (suc i) y d ps qs lt h =
      subst (λ l. IsPermutation l ((f x ++ flat_map f (set xs i y)) ++ qs)) (sym (append_assoc (f x) (flat_map f xs) ps))
      (subst (IsPermutation (f x ++ (flat_map f xs ++ ps))) (sym (append_assoc (f x) (flat_map f (set xs i y)) qs))
      (IsPermutation-append_right (f x) _ _ (flat-set xs i y d ps qs (omega arith) h)))

module _ {X Y : Type 0} (f : X → List Y) where
  pub flat-set-same : (xs : List X) (i : ℕ) (y d : X) → f y ≡ f (get_or xs i d) → flat_map f (set xs i y) ≡ flat_map f xs
  flat-set-same [] i y d e = refl
  flat-set-same (x ∷ xs) zero y d e = ap (λ l. l ++ flat_map f xs) e
  flat-set-same (x ∷ xs) (suc i) y d e = ap (λ l. f x ++ l) (flat-set-same xs i y d e)

module _ {A B : Type 0} (R : A → B → Type 0) where
  pub zip-more : (xs : List A) (ys : List B) (x : A) (y : B) → AllZip R xs ys → R x y → AllZip R (xs ++ x ∷ []) (ys ++ y ∷ [])
  zip-more [] [] x y h r = (r, tt)
  zip-more [] (b ∷ ys) x y h r = absurd h
  zip-more (a ∷ xs) [] x y h r = absurd h
  zip-more (a ∷ xs) (b ∷ ys) x y h r = (h.0, zip-more xs ys x y h.1 r)

module _ {S X : Type 0} (put taken : S → List X) where
  -- one deque more is emptied
  pub rest-more : (done : List S) (s : S) (rest rest' more : List X) → IsPermutation (flat_map put done) (flat_map taken done ++ rest) → IsPermutation (put s) (taken s ++ more) → rest' ≡ rest ++ more
      → IsPermutation (flat_map put (done ++ s ∷ [])) (flat_map taken (done ++ s ∷ []) ++ rest')
  rest-more done s rest rest' more h k e =
      let puts : flat_map put (done ++ s ∷ []) ≡ flat_map put done ++ put s = flat_map-append put done (s ∷ []) ∙ ap (λ l. flat_map put done ++ l) (append-nil (put s)) in
      let takes : flat_map taken (done ++ s ∷ []) ≡ flat_map taken done ++ taken s = flat_map-append taken done (s ∷ []) ∙ ap (λ l. flat_map taken done ++ l) (append-nil (taken s)) in
      let t = flat_map taken done in
      let turned : IsPermutation ((t ++ rest) ++ (taken s ++ more)) ((t ++ taken s) ++ (rest ++ more)) =
      rearranged (t ∷ rest ∷ taken s ∷ more ∷ []) (join (join (piece 0) (piece 1)) (join (piece 2) (piece 3))) (join (join (piece 0) (piece 2)) (join (piece 1) (piece 3))) refl in
      subst (λ l. IsPermutation l (flat_map taken (done ++ s ∷ []) ++ rest')) (sym puts)
      (subst (λ l. IsPermutation (flat_map put done ++ put s) (l ++ rest')) (sym takes)
      (subst (λ l. IsPermutation (flat_map put done ++ put s) ((t ++ taken s) ++ l)) (sym e)
      (IsPermutation-trans _ _ _ (IsPermutation-append _ _ _ _ h k) turned)))
