use Rattle.std.proofs.Common.{◌≡◌, ◌+◌, ◌<◌, ◌^◌, [], map, length}
use Rattle.work_packets.specs.Shares.{packets_in, sizes, AreNumberedFrom}
use Rattle.work_packets.proofs.share.empty_shares.Given as goal

abbrev pub invariant-loop-worker : goal.invariant-loop-worker
invariant-loop-worker g l = record {
  workers : map (λ s. s.worker) l.shares.items ≡ l.yielded;
  none : packets_in l.shares.items ≡ [];
  sizes_are : sizes l.shares.items ≡ map (λ w. 0) l.yielded;
  counted : AreNumberedFrom 1 (map (λ s. s.number) l.shares.items);
  next : 1 + length (map (λ s. s.number) l.shares.items) < 2 ^ 32 → l.number ≡ 1 + length (map (λ s. s.number) l.shares.items);
}
