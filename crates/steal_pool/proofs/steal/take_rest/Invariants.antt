use Rattle.std.proofs.Common.{◌≡◌, ◌-◌, List, ◌++◌, All, length}
use Rattle.crossbeam_deque.specs.Handles.{worker_view}
use Rattle.work_packets.specs.declared.packet.Packet.{Packet}
use Rattle.steal_pool.specs.declared.rule.TheConstants.{PARTS}
use Rattle.steal_pool.specs.Ends.{IsOwner, puts, takings}
use Rattle.steal_pool.proofs.steal.take_rest.Given as goal

abbrev pub invariant-loop-p : goal.invariant-loop-p
invariant-loop-p g l = record {
  owner : IsOwner l.own × ((worker_view l.own).parts ≡ PARTS);
  fit : All g.K.Fits.fits l.rest.items;
  put : puts l.own ≡ puts l.initial.own;
  rest : (more : List (Packet g.row.T.Denot)) × (l.rest.items ≡ l.initial.rest.items ++ more) × (takings l.own ≡ takings l.initial.own ++ more);
}

abbrev pub decreases-loop-p : goal.decreases-loop-p
decreases-loop-p g l = length (puts l.own) - length (takings l.own)
