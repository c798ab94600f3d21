use Rattle.object_model.specs.Objects.{state_over}
use Rattle.block_sweeps.proofs.SweptApart.{releasable-apart}
use Rattle.plan_tests.proofs.immix_sweeps.relisted.Goals as goal

pub relist-requires-clause-apart : goal.relist-requires-clause-apart
relist-requires-clause-apart c = releasable-apart (state_over c.args.words.now.items c.args.layout.now 0 0) 1 (c.is_releasable.ensures.0 c.if-not-is_releasable.false)
