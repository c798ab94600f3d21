use Rattle.std.proofs.Common.{◌≡◌, ◌≤◌, All}
use Rattle.work_packets.specs.Packets.{HasItems}
use Rattle.pools.specs.declared.tests.TheConstants.{HIGHEST}
use Rattle.pools.proofs.tests.forest.Given as goal

abbrev pub invariant-loop-height : goal.invariant-loop-height
invariant-loop-height l = record {
  in_bucket : All (λ p. p.bucket ≡ l.fn.bucket) l.packets.items;
  sized : All HasItems l.packets.items;
  taken : All (λ p. All (λ x. x ≤ HIGHEST) p.items.items) l.packets.items;
}
