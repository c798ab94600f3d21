use Rattle.std.proofs.Common.{refl, lit≤}
use Rattle.collector.proofs.laws.few_blocks_by_example.Goals as goal

pub returns-clause-worker : goal.returns-clause-worker
returns-clause-worker c copies each = lit≤ tt

pub returns-clause-kept : goal.returns-clause-kept
returns-clause-kept c copies each = lit≤ tt

pub returns-clause-large : goal.returns-clause-large
returns-clause-large c copies each = lit≤ tt

pub returns-clause-used : goal.returns-clause-used
returns-clause-used c = (refl, refl, refl)
