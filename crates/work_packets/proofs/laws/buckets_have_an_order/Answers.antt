use Rattle.std.proofs.Common.{refl}
use Rattle.work_packets.proofs.laws.buckets_have_an_order.Goals as goal

pub returns-clause-order : goal.returns-clause-order
returns-clause-order c = refl

pub returns-clause-same : goal.returns-clause-same
returns-clause-same c = refl
