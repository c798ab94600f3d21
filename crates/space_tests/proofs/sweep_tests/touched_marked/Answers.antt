use Rattle.object_model.specs.Objects.{state_over}
use Rattle.block_sweeps.proofs.SweptApart.{releasable-apart}
use Rattle.space_tests.proofs.sweep_tests.touched_marked.Goals as goal

pub mark_touched_lines-requires-clause-apart : goal.mark_touched_lines-requires-clause-apart
mark_touched_lines-requires-clause-apart c = releasable-apart (state_over c.args.words.now.items c.args.layout.now 0 0) 0 (c.is_releasable.ensures.0 c.if-not-is_releasable.false)
