-- Two lists made of the same pieces, in another order and with other brackets, are permutations of one another.
use Rattle.std.proofs.Common.{◌≡◌, ℕ, Bool, true, false, cond, List, [], ◌∷◌, ◌++◌, refl, sym, ap, ◌∙◌, subst, append_assoc, get_or}
use Rattle.std.proofs.lemmas.List.{append-nil}
use Rattle.std.proofs.lemmas.List.Sorted.{IsPermutation-refl, IsPermutation-trans, IsPermutation-append_right, IsPermutation-append_left, IsPermutation-append_comm, IsPermutation-sym}
use Rattle.std.specs.List.Sorted.{IsPermutation}
use lib.Dec.{leb}

pub data Layout : Type 0 where
  nothing : Layout
  piece : ℕ → Layout
  join : Layout → Layout → Layout

abbrev pub flat : Layout → List ℕ
flat nothing = []
flat (piece n) = n ∷ []
flat (join a b) = flat a ++ flat b

abbrev pub insert : ℕ → List ℕ → List ℕ
insert n [] = n ∷ []
insert n (m ∷ ms) = cond (leb n m) (n ∷ m ∷ ms) (m ∷ insert n ms)

abbrev pub sorted : List ℕ → List ℕ
sorted [] = []
sorted (n ∷ ns) = insert n (sorted ns)

module _ {X : Type 0} where
  abbrev pub pieces_at : List (List X) → ℕ → List X
  pieces_at xs n = get_or xs n []

  abbrev pub laid_out : (ℕ → List X) → Layout → List X
  laid_out at nothing = []
  laid_out at (piece n) = at n
  laid_out at (join a b) = laid_out at a ++ laid_out at b

  abbrev pub in_row : (ℕ → List X) → List ℕ → List X
  in_row at [] = []
  in_row at (n ∷ ns) = at n ++ in_row at ns

  in_row-append : (at : ℕ → List X) (ns ms : List ℕ) → in_row at (ns ++ ms) ≡ in_row at ns ++ in_row at ms
  in_row-append at [] ms = refl
  in_row-append at (n ∷ ns) ms = ap (λ l. at n ++ l) (in_row-append at ns ms) ∙ sym (append_assoc (at n) (in_row at ns) (in_row at ms))

  flat-reads : (at : ℕ → List X) (s : Layout) → laid_out at s ≡ in_row at (flat s)
  flat-reads at nothing = refl
  flat-reads at (piece n) = sym (append-nil (at n))
  flat-reads at (join a b) = ap (λ l. l ++ laid_out at b) (flat-reads at a) ∙ ap (λ l. in_row at (flat a) ++ l) (flat-reads at b) ∙ sym (in_row-append at (flat a) (flat b))

  pub to_second : (a b c : List X) → IsPermutation (a ++ (b ++ c)) (b ++ (a ++ c))
  to_second a b c = subst (λ l. IsPermutation l (b ++ (a ++ c))) (append_assoc a b c) (subst (IsPermutation ((a ++ b) ++ c)) (append_assoc b a c) (IsPermutation-append_left c (a ++ b) (b ++ a) (IsPermutation-append_comm a b)))

  insert-at : (at : ℕ → List X) (n m : ℕ) (ms : List ℕ) (b : Bool) → IsPermutation (at n ++ in_row at ms) (in_row at (insert n ms)) → IsPermutation (at n ++ (at m ++ in_row at ms)) (in_row at (cond b (n ∷ m ∷ ms) (m ∷ insert n ms)))
  insert-at at n m ms true h = IsPermutation-refl _
  insert-at at n m ms false h = IsPermutation-trans _ _ _ (to_second (at n) (at m) (in_row at ms)) (IsPermutation-append_right (at m) _ _ h)

  insert-permutes : (at : ℕ → List X) (n : ℕ) (ms : List ℕ) → IsPermutation (at n ++ in_row at ms) (in_row at (insert n ms))
  insert-permutes at n [] = IsPermutation-refl _
  insert-permutes at n (m ∷ ms) = insert-at at n m ms (leb n m) (insert-permutes at n ms)

  sort-permutes : (at : ℕ → List X) (ns : List ℕ) → IsPermutation (in_row at ns) (in_row at (sorted ns))
  sort-permutes at [] = IsPermutation-refl _
  sort-permutes at (n ∷ ns) = IsPermutation-trans _ _ _ (IsPermutation-append_right (at n) _ _ (sort-permutes at ns)) (insert-permutes at n (sorted ns))

  sorted-permutes : (at : ℕ → List X) (s : Layout) → IsPermutation (laid_out at s) (in_row at (sorted (flat s)))
  sorted-permutes at s = subst (λ l. IsPermutation l (in_row at (sorted (flat s)))) (sym (flat-reads at s)) (sort-permutes at (flat s))

  sorted-returns : (at : ℕ → List X) (s : Layout) → IsPermutation (in_row at (sorted (flat s))) (laid_out at s)
  sorted-returns at s = IsPermutation-sym _ _ (sorted-permutes at s)

  -- the pieces of s and of t are the rearranged
  pub rearranged : (pieces : List (List X)) (s t : Layout) → sorted (flat s) ≡ sorted (flat t) → IsPermutation (laid_out (pieces_at pieces) s) (laid_out (pieces_at pieces) t)
  rearranged pieces s t e = let at : ℕ → List X = pieces_at pieces in
      IsPermutation-trans _ _ _ (sorted-permutes at s) (subst (λ l. IsPermutation (in_row at l) (laid_out at t)) (sym e) (sorted-returns at t))
