use Rattle.object_model.specs.Objects.{state_over}
use Rattle.plan_api.proofs.TestedRows.{released-apart}
use Rattle.plan_tests.proofs.searches.is_hole.Goals as goal

pub hole_in_block-requires-clause-apart : goal.hole_in_block-requires-clause-apart
hole_in_block-requires-clause-apart c = released-apart (state_over c.args.words.now.items c.args.layout.now 0 0) 1 (c.is_releasable.ensures.0 c.if-not-is_releasable.false)
