use Rattle.std.proofs.Common.{◌≡◌, All}
use Rattle.work_packets.specs.Packets.{HasItems}
use Rattle.steal_pool.proofs.steal.run_steal.Given as goal

abbrev pub ghosts-steal_among : goal.ghosts-steal_among
ghosts-steal_among g a = record { fits = λ p. (p.bucket ≡ a.b) × HasItems p × All (λ w. g.W.PacketWorker.takes (g.W.PacketWorker.home w) p) a.workers.items }
