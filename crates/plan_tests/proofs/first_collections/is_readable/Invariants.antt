use Rattle.std.proofs.Common.{ℕ, ◌<◌}
use Rattle.object_model.specs.Objects.{shown}
use Rattle.object_model.specs.Lawful.{IsReadableBlock}
use Rattle.plan_tests.proofs.first_collections.is_readable.Given as goal

abbrev pub invariant-loop-block : goal.invariant-loop-block
invariant-loop-block l = (k : ℕ) → k < l.block → IsReadableBlock (shown l.words.items l.layout) k
