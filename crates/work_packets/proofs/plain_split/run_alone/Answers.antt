use Rattle.std.proofs.Common.{rules}
use Rattle.work_packets.specs.declared.share.Share.{Share}
use Rattle.work_packets.proofs.Ends.{one-runnable, one-runs}
use Rattle.work_packets.proofs.plain_split.run_alone.Goals as goal

pub run_share-requires : goal.run_share-requires
run_share-requires g c =
    let w = g.W.PacketWorker in let share : Share g.row.T.Denot g.row.W.Denot = record { number = 1; worker = c.args.worker; packets = c.args.first } in
    (search rules, (search rules, one-runnable w.home w.takes w.awaits c.args.b share c.requires.bucket c.requires.items c.requires.takes c.requires.awaits))

pub returns-clause-once : goal.returns-clause-once
returns-clause-once g c =
    let w = g.W.PacketWorker in one-runs w.home w.takes w.awaits c.args.b w.steps _ _ c.in_ok-finished.ensures
