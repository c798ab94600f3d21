-- The candidates of a heap's row.
use Rattle.std.proofs.Common.{◌≡◌, ap, ◌∙◌, ℕ, Bool, List, map}
use Rattle.std.specs.List.{range_with_len}
use Rattle.object_model.specs.Objects.{HeapState}
use Rattle.sessions.specs.Collecting.{is_candidate}

-- they do not depend on the heap's numbers
abbrev candidates_of : List ℕ → ℕ → List Bool
candidates_of words blocks = map (is_candidate (record { words = words; blocks = blocks; number = 0; base = 0 })) (range_with_len 0 blocks)

pub candidates-shown : (s : HeapState) (words : List ℕ) (blocks : ℕ) (from : List Bool) → words ≡ s.words → blocks ≡ s.blocks → from ≡ candidates_of words blocks
    → from ≡ map (is_candidate s) (range_with_len 0 s.blocks)
candidates-shown s words blocks from same_words same_blocks is = is ∙ ap (λ (w : List ℕ). candidates_of w blocks) same_words ∙ ap (candidates_of s.words) same_blocks
