use Rattle.std.proofs.Common.{◌≡◌, ℕ, List, sym, ap, ◌∙◌, subst}
use Rattle.object_model.specs.Lawful.{IsLawful}
use Rattle.trace_table.specs.WorkedRaces.{raced_heap}
use Rattle.trace_table.proofs.WorkedRaces.{raced-lawful}
use Rattle.trace_table.proofs.tests.worked_heap.Goals as goal

pub from_row-heap-requires : goal.from_row-heap-requires
from_row-heap-requires c = let same : record { words = c.in_ok-words.words; blocks = c.in_ok-layout.layout.blocks; number = 0; base = 0 } ≡ raced_heap =
    ap (λ (ws : List ℕ). record { words = ws; blocks = c.in_ok-layout.layout.blocks; number = 0; base = 0 }) c.in_ok-words.ensures
    ∙ ap (λ n. record { words = raced_heap.words; blocks = n; number = 0; base = 0 }) c.in_ok-layout.ensures.blocks in
    subst IsLawful (sym same) raced-lawful

pub returns : goal.returns
returns c = c.from_row-heap.ensures
    ∙ ap (λ (ws : List ℕ). record { words = ws; blocks = c.in_ok-layout.layout.blocks; number = 0; base = 0 }) c.in_ok-words.ensures
    ∙ ap (λ n. record { words = raced_heap.words; blocks = n; number = 0; base = 0 }) c.in_ok-layout.ensures.blocks
