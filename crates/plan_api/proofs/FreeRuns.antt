-- There is a run of Free blocks if and only if the search by words finds one.
use Rattle.std.proofs.Common.{◌↔◌, refl, sym, ℕ, IsTrue, List, Option, Some, None}
use Rattle.std.specs.Prelude.{MatchOption, is_some}
use Rattle.std.proofs.lemmas.Bool.{true≢false}
use Rattle.heap_layout.specs.declared.layout.Layout.{Layout}
use Rattle.object_model.specs.Objects.{state_over}
use Rattle.sessions.specs.Fitting.{IsFreeRun}
use Rattle.large_space.specs.FreeRuns.{IsFirstRun, HasNoRun}

-- whether blocks are Free does not depend on the collection numbers
run-anyway : (words : List ℕ) (l : Layout) (number base number' base' k n : ℕ) → IsFreeRun (state_over words l number base) k n → IsFreeRun (state_over words l number' base') k n
run-anyway words l number base number' base' k n run = record { inside = run.inside; free = run.free }

pub some-run : (words : List ℕ) (l : Layout) (number base n : ℕ) (o : Option ℕ)
    → MatchOption o (HasNoRun (state_over words l 0 0) n) (λ k. IsFirstRun (state_over words l 0 0) k n)
    → IsTrue (is_some o) ↔ ((k : ℕ) × IsFreeRun (state_over words l number base) k n)
some-run words l number base n None none = ((λ wrong. absurd (true≢false (sym wrong))), (λ run. absurd (none run.0 (run-anyway words l number base 0 0 run.0 n run.1))))
some-run words l number base n (Some k) first = ((λ _. (k, run-anyway words l 0 0 number base k n first.run)), (λ _. refl))
