use Rattle.work_packets.proofs.Balances.{balance}
use Rattle.work_packets.proofs.laws.packets_carry_a_balance.Goals as goal

pub returns : goal.returns
returns g c = λ gave took carried step work h. balance carried g.W.PacketWorker.steps gave took step work h
