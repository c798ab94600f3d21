use Rattle.std.proofs.Common.{arith}
use Rattle.std.proofs.lemmas.Grind.{common_steps}
use Rattle.work_packets.specs.declared.share.Share.{Share}
use Rattle.work_packets.proofs.DealtPackets.{counted-push, small-sum}
use Rattle.work_packets.proofs.share.empty_shares.Goals as goal

pub loop-worker-preserved : goal.loop-worker-preserved
loop-worker-preserved g c =
    let s : Share g.row.T.Denot g.row.W.Denot = record { number = c.loop-worker.number; worker = c.in-Some.worker; packets = c.new-packets.result } in
    let is = c.loop-worker.invariant.next in
    let more = counted-push (λ s. s.number) c.loop-worker.shares.items c.push.new.self.items s c.in_ok-push.ensures.items c.loop-worker.invariant.counted is in
    record {
      workers = grind (arith, common_steps);
      none = grind (arith, common_steps);
      sizes_are = grind (arith, common_steps);
      counted = more.0;
      next = λ lt. let longer = more.1 in let here = is (omega arith) in let sum = small-sum c.saturating_add-number.result c.loop-worker.number c.saturating_add-number.ensures (omega arith) in omega arith;
    }
