use Rattle.work_packets.proofs.laws.packets_are_small.Goals as goal

pub returns : goal.returns
returns g c = λ p. (λ h. (h.some, h.few), λ h. record { some = h.0; few = h.1 })
