-- Tickets, and the Free blocks taken with them.
use Rattle.std.specs.Prelude.{◌≡◌, ℕ, ◌+◌, ◌<◌, Option, Some, None, length, sum_by, nat_lt, if◌then◌else◌}
use Rattle.heap_layout.specs.declared.layout.TheConstants.{BUDGET_WORD}
use Rattle.object_model.specs.Objects.{HeapState, word_at}
use Rattle.object_model.specs.Graphs.{numbers_of}
use Rattle.sessions.specs.Fitting.{free_of}
use Rattle.mutator_core.specs.declared.state.Local.{Local}
use Rattle.mutator_core.specs.Machine.{Epoch}
use Rattle.mutator_core.specs.Guards.{allowance}

-- the number of unused tickets that a mutator has (0 or 1), and the number of those below `most`
abbrev pub tickets_in : Option ℕ → ℕ
tickets_in None = 0
tickets_in (Some t) = 1

abbrev pub tickets_below : ℕ → Option ℕ → ℕ
tickets_below most None = 0
tickets_below most (Some t) = if nat_lt t most then 1 else 0

-- the number of Free blocks that the mutator took
abbrev pub taken_by : Local → ℕ
taken_by l = length l.granted

-- the number of tickets that the mutator drew
abbrev pub drawn_by : Local → ℕ
drawn_by l = taken_by l + tickets_in l.ticket

-- the number of tickets below `most` that the mutator drew, where it took blocks only with such
-- tickets
abbrev pub allowed_to : ℕ → Local → ℕ
allowed_to most l = taken_by l + tickets_below most l.ticket

-- the smaller of two numbers
abbrev pub smaller : ℕ → ℕ → ℕ
smaller a b = if nat_lt a b then a else b

-- The budget word is the number of tickets drawn. Each ticket below the allowance is used for a
-- Free block, or unused. The number of Free blocks has fallen by the number of those taken. Each
-- unused ticket is below the budget word, and no two mutators have the same one.
pub record TicketsAreCounted (p : Epoch) (s : HeapState) (locals : ℕ → Local) : Type 0 where
  pub budget : sum_by (λ m. drawn_by (locals m)) (numbers_of p.mutators) ≡ word_at s BUDGET_WORD
  pub allowed : sum_by (λ m. allowed_to (allowance p) (locals m)) (numbers_of p.mutators)
      ≡ smaller (word_at s BUDGET_WORD) (allowance p)
  pub free : free_of p.before ≡ free_of s + sum_by (λ m. taken_by (locals m))
      (numbers_of p.mutators)
  pub drawn : (m t : ℕ) → (locals m).ticket ≡ Some t → t < word_at s BUDGET_WORD
  pub apart : (m n t : ℕ) → (locals m).ticket ≡ Some t → (locals n).ticket ≡ Some t → m ≡ n
