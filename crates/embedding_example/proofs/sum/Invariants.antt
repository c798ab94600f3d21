use Rattle.std.proofs.Common.{ℕ, ◌+◌, ◌≤◌, List, length}
use Rattle.embedding_example.specs.Language.{IsReady, HoldsList}
use Rattle.embedding_example.proofs.Loops.{AddsUp}
use Rattle.embedding_example.proofs.sum.Given as goal

abbrev pub invariant-loop : goal.invariant-loop
invariant-loop g l = record {
  ready : IsReady g.P.Plan.rules l.heap;
  adds : (xs : List ℕ) → length xs ≤ l.count → HoldsList g.P.Plan.rules l.fn.heap (l.m + 1) l.s xs → AddsUp g.P.Plan.rules l.heap (l.m + 1) l.s xs l.total l.counter l.count;
}
