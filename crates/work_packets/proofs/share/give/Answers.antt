use Rattle.std.proofs.Common.{ap, ◌∙◌, length}
use Rattle.std.proofs.Math.Seq.{map-set_same}
use Rattle.work_packets.proofs.DealtPackets.{joins, given-one, length-push}
use Rattle.work_packets.proofs.share.give.Goals as goal

pub returns-clause-workers : goal.returns-clause-workers
returns-clause-workers g c = map-set_same (λ s. s.worker) c.args.shares.now.items c.args.i _ c.index_mut-share.result.now (ap (λ s. s.worker) c.index_mut-share.ensures.value)

pub returns-clause-numbers : goal.returns-clause-numbers
returns-clause-numbers g c = map-set_same (λ s. s.number) c.args.shares.now.items c.args.i _ c.index_mut-share.result.now (ap (λ s. s.number) c.index_mut-share.ensures.value)

pub returns-clause-packets : goal.returns-clause-packets
returns-clause-packets g c = joins (λ s. s.packets.items) c.args.shares.now.items c.args.i c.index_mut-share.result.now _ c.args.p c.requires c.index_mut-share.ensures.value c.in_ok-push.ensures.items

pub returns-clause-sizes : goal.returns-clause-sizes
returns-clause-sizes g c = given-one (λ s. length s.packets.items) c.args.shares.now.items c.args.i c.index_mut-share.result.now _ c.requires c.index_mut-share.ensures.value
    (ap length c.in_ok-push.ensures.items ∙ length-push c.index_mut-share.result.now.packets.items c.args.p)
