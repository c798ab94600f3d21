use Rattle.std.proofs.Common.{rules}
use Rattle.work_packets.proofs.Ends.{one-more}
use Rattle.work_packets.proofs.plain_split.gather.Goals as goal

pub loop-result-preserved : goal.loop-result-preserved
loop-result-preserved g c = one-more (λ f. f.worker) (λ f. f.later.items) _ _ _ c.in-Some.result c.in_ok-worker.field-0 _ _ c.loop-result.invariant c.in_ok-worker.was (search rules) (search rules)
