-- The cells of one block more.
use Rattle.std.proofs.Common.{◌≡◌, ◌∙◌, ap, ℕ, ◌+◌, arith, [], ◌∷◌, ◌++◌, map}
use Rattle.std.specs.List.{flat_map, range_with_len}
use Rattle.std.proofs.lemmas.List.{append-nil}
use Rattle.std.proofs.lemmas.List.FromFn.{map-range_with_len_more}
use Rattle.std.proofs.lemmas.Grind.{flat_map-append}
use Rattle.heap_picture.specs.Drawn.{cell_text, cells_text}

pub cells_more : (n : ℕ) → cells_text (n + 1) ≡ cells_text n ++ cell_text n
cells_more n =
    let cells = map cell_text (range_with_len 0 n) in
    ap (flat_map (λ cell. cell)) (map-range_with_len_more cell_text 0 n n (omega arith))
    ∙ flat_map-append (λ cell. cell) cells (cell_text n ∷ [])
    ∙ ap (λ text. cells_text n ++ text) (append-nil (cell_text n))
