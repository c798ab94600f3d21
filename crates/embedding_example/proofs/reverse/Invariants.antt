use Rattle.std.proofs.Common.{ℕ, ◌≤◌, List, [], length}
use Rattle.embedding_example.specs.Language.{IsReady, KnowsLists}
use Rattle.embedding_example.proofs.Loops.{TurnsRound}
use Rattle.embedding_example.proofs.reverse.Given as goal

abbrev pub invariant-loop : goal.invariant-loop
invariant-loop g l = record {
  ready : IsReady g.P.Plan.rules l.heap;
  turns : (xs : List ℕ) → length xs ≤ l.count → KnowsLists g.P.Plan.rules l.fn.heap xs [] → TurnsRound g.P.Plan.rules l.heap xs l.counter l.count;
}
