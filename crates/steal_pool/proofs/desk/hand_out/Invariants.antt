use Rattle.std.proofs.Common.{◌≡◌, ◌++◌, All}
use Rattle.std.specs.List.Sorted.{IsPermutation}
use Rattle.work_packets.specs.Buckets.{is_same, IsSameOrLater}
use Rattle.work_packets.specs.Packets.{packets_of, packets_after}
use Rattle.steal_pool.specs.Ends.{IsOwner, Keeps, puts, takings}
use Rattle.steal_pool.proofs.Offers.{IsOffered}
use Rattle.steal_pool.proofs.desk.hand_out.Given as goal

abbrev pub invariant-loop-p : goal.invariant-loop-p
invariant-loop-p g l = record {
  owner : IsOwner l.own;
  order : All (λ p. IsSameOrLater l.b p.bucket) l.pushed.items;
  fit : All g.K.Fits.fits (packets_of l.b l.pushed.items);
  keeps : Keeps l.initial.own l.own × (takings l.own ≡ takings l.initial.own);
  given : IsOffered (λ p. is_same l.b p.bucket) (puts l.initial.own) l.initial.backlog.items l.initial.pushed.items (puts l.own) l.backlog.items l.pushed.items;
  after : IsPermutation (l.initial.later.items ++ packets_after l.b l.initial.pushed.items) (l.later.items ++ packets_after l.b l.pushed.items);
}

abbrev pub decreases-loop-p : goal.decreases-loop-p
decreases-loop-p g l = goal.left-loop-p g l
