use Rattle.std.proofs.Common.{[]}
use Rattle.embedding_example.specs.Language.{KnowsLists}
use Rattle.embedding_example.specs.Lists.{numbers_down_from}
use Rattle.embedding_example.proofs.build.Given as goal

abbrev pub invariant-loop-number : goal.invariant-loop-number
invariant-loop-number g l = KnowsLists g.P.Plan.rules l.heap (numbers_down_from l.number) []
