-- The results of a worker more.
use Rattle.std.proofs.Common.{◌≡◌, ◌∙◌, ℕ, ◌+◌, List, [], ◌∷◌, ◌++◌, map, append-nil, refl, sym, ap, arith}
use Rattle.std.specs.Prelude.{sum_by}
use Rattle.std.specs.List.{flat_map}
use Rattle.std.proofs.lemmas.List.{map-append}
use Rattle.std.proofs.lemmas.List.Concat.{flat_map-append}
use Rattle.std.proofs.lemmas.List.Sums.{sum_by-append, sum_by-cons}
use Rattle.racing_collector.specs.Accounts.{capped}

module _ {W : Type 0} where
  pub map-more : {S : Type 0} (f : W → S) (l new : List S) (ws : List W) (w : W) (s : S) → l ≡ map f ws → new ≡ l ++ s ∷ [] → s ≡ f w → new ≡ map f (ws ++ w ∷ [])
  map-more f l new ws w s before more is = more ∙ ap (λ k. k ++ s ∷ []) before ∙ ap (λ u. map f ws ++ u ∷ []) is ∙ sym (map-append f ws (w ∷ []))

  pub flat-more : {S : Type 0} (f : W → List S) (l new : List S) (ws : List W) (w : W) (s : List S) → l ≡ flat_map f ws → new ≡ l ++ s → s ≡ f w → new ≡ flat_map f (ws ++ w ∷ [])
  flat-more f l new ws w s before more is = more ∙ ap (λ k. k ++ s) before ∙ ap (λ u. flat_map f ws ++ u) (is ∙ sym (append-nil (f w))) ∙ sym (flat_map-append f ws (w ∷ []))

  pub sum-more : (most : ℕ) (f : W → ℕ) (n new : ℕ) (ws : List W) (w : W) (k : ℕ) → n ≡ capped most (sum_by f ws) → new ≡ capped most (n + k) → k ≡ f w → new ≡ capped most (sum_by f (ws ++ w ∷ []))
  sum-more most f n new ws w k before more is = let a = sum_by-append f ws (w ∷ []) in let b = sum_by-cons f w [] in let c : sum_by f [] ≡ 0 = refl in omega arith
