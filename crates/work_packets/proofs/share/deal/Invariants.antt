use Rattle.std.proofs.Common.{◌≡◌, ◌<◌, ℕ, map, length}
use Rattle.std.specs.List.Sorted.{IsPermutation}
use Rattle.work_packets.specs.Shares.{packets_in, sizes}
use Rattle.work_packets.proofs.DealtPackets.{AreDealt}
use Rattle.work_packets.proofs.share.deal.Given as goal

abbrev pub invariant-loop-p : goal.invariant-loop-p
invariant-loop-p g l = record {
  workers : map (λ s. s.worker) l.shares.items ≡ map (λ s. s.worker) l.initial.shares.items;
  numbers : map (λ s. s.number) l.shares.items ≡ map (λ s. s.number) l.initial.shares.items;
  inside : l.i < length l.shares.items;
  packets : IsPermutation l.yielded (packets_in l.shares.items);
  dealt : (n : ℕ) × AreDealt n l.i (sizes l.shares.items);
}
