use Rattle.work_packets.proofs.Reached.{all-stay, all-rise}
use Rattle.work_packets.proofs.laws.workers_are_reached.Goals as goal

pub returns-clause-stays : goal.returns-clause-stays
returns-clause-stays g c = λ f step work h. all-stay g.W.PacketWorker.steps f step work.before work.logs work.after h.reached

pub returns-clause-rises : goal.returns-clause-rises
returns-clause-rises g c = λ f step work h. all-rise g.W.PacketWorker.steps f step work.before work.logs work.after h.reached
