use Rattle.std.proofs.Common.{rules}
use Rattle.object_model.specs.Objects.{state_over}
use Rattle.block_sweeps.proofs.SweptApart.{releasable-apart}
use Rattle.plan_tests.proofs.relists.check_relist.Goals as goal

pub relist_block-requires-clause-apart : goal.relist_block-requires-clause-apart
relist_block-requires-clause-apart g c = releasable-apart (state_over c.args.words.items c.args.layout.now 0 0) 1 (search rules)
