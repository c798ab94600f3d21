use Rattle.std.proofs.Common.{◌≡◌, ℕ, List, ap, ◌∙◌}
use Rattle.std.specs.Prelude.{slice_set, replicate}
use Rattle.trace_table.proofs.WorkedRaces.{raced-words}
use Rattle.trace_table.proofs.tests.worked_row.Goals as goal

pub returns : goal.returns
returns c = let start : c.in_ok-row.row ≡ replicate 17190 0 = c.in_ok-row.ensures in
    c.put-15.ensures.words ∙ ap (λ (ws : List ℕ). slice_set ws 821 810) (c.put-14.ensures.words ∙ ap (λ (ws : List ℕ). slice_set ws 819 1) (c.put-13.ensures.words ∙ ap (λ (ws : List ℕ). slice_set ws 818 129) (c.put-12.ensures.words ∙ ap (λ (ws : List ℕ). slice_set ws 817 810) (c.put-11.ensures.words ∙ ap (λ (ws : List ℕ). slice_set ws 815 1) (c.put-10.ensures.words ∙ ap (λ (ws : List ℕ). slice_set ws 814 97) (c.put-9.ensures.words ∙ ap (λ (ws : List ℕ). slice_set ws 813 814) (c.put-8.ensures.words ∙ ap (λ (ws : List ℕ). slice_set ws 811 1) (c.put-7.ensures.words ∙ ap (λ (ws : List ℕ). slice_set ws 810 65) (c.put-6.ensures.words ∙ ap (λ (ws : List ℕ). slice_set ws 809 810) (c.put-5.ensures.words ∙ ap (λ (ws : List ℕ). slice_set ws 807 1) (c.put-4.ensures.words ∙ ap (λ (ws : List ℕ). slice_set ws 806 33) (c.put-3.ensures.words ∙ ap (λ (ws : List ℕ). slice_set ws 294 1) (c.put-2.ensures.words ∙ ap (λ (ws : List ℕ). slice_set ws 38 4369) (c.put.ensures.words ∙ ap (λ (ws : List ℕ). slice_set ws 18 1) (start))))))))))))))) ∙ raced-words
