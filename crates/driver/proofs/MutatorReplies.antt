-- The replies of one mutator more.
use Rattle.std.proofs.Common.{◌≡◌, refl, sym, ◌∙◌, ap, ℕ, ◌+◌, arith, List, [], ◌∷◌, ◌++◌, map}
use Rattle.std.specs.List.{flat_map, range_with_len}
use Rattle.std.proofs.lemmas.List.{append-nil}
use Rattle.std.proofs.lemmas.List.FromFn.{map-range_with_len_more}
use Rattle.std.proofs.lemmas.Grind.{flat_map-append}
use Rattle.ideal_heap.specs.Runs.{replies_of}
use Rattle.trace_text.specs.Text.{mutator_text}
use Rattle.sessions.specs.Sessions.{Moment}
use Rattle.driver.specs.Texts.{replies_part}

pub map-same : (xs : List ℕ) → map (λ x. x) xs ≡ xs
map-same [] = refl
map-same (x ∷ xs) = ap (λ l. x ∷ l) (map-same xs)

range-more : (n : ℕ) → range_with_len 1 (n + 1) ≡ range_with_len 1 n ++ (n + 1) ∷ []
range-more n =
    sym (map-same (range_with_len 1 (n + 1))) ∙ map-range_with_len_more (λ x. x) 1 n (n + 1) (omega arith)
    ∙ ap (λ xs. xs ++ (n + 1) ∷ []) (map-same (range_with_len 1 n))

pub replies-more : (last : Moment) (n : ℕ) → replies_part (n + 1) last ≡ replies_part n last ++ mutator_text (n + 1) (replies_of (n + 1) last.done)
replies-more last n =
    let text : ℕ → List ℕ = λ m. mutator_text m (replies_of m last.done) in
    ap (flat_map text) (range-more n) ∙ flat_map-append text (range_with_len 1 n) ((n + 1) ∷ [])
    ∙ ap (λ l. replies_part n last ++ l) (append-nil (text (n + 1)))
