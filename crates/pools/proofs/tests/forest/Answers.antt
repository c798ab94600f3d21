use Rattle.std.proofs.Common.{◌≡◌, ◌≤◌, All, rules}
use Rattle.work_packets.specs.Packets.{HasItems}
use Rattle.pools.specs.declared.tests.TheConstants.{HIGHEST}
use Rattle.pools.proofs.Trees.{added, one-item, at-most}
use Rattle.pools.proofs.tests.forest.Goals as goal

pub loop-height-preserved : goal.loop-height-preserved
loop-height-preserved c =
    let q = c.in_ok-push_tree.ensures in
    record {
      in_bucket = added (λ p. p.bucket ≡ c.args.bucket) _ _ q.0 q.1 q.2 c.loop-height.invariant.in_bucket;
      sized = added HasItems _ _ q.0 q.1 (one-item q.0 _ q.3) c.loop-height.invariant.sized;
      taken = added (λ p. All (λ x. x ≤ HIGHEST) p.items.items) _ _ q.0 q.1 (at-most q.0 c.min.result HIGHEST q.3 (search rules)) c.loop-height.invariant.taken;
    }
