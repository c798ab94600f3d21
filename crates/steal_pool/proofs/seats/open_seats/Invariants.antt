use Rattle.std.proofs.Common.{◌≡◌, [], All, length, map}
use Rattle.std.specs.List.{AllZip}
use Rattle.std.specs.Vec.Iter.{into_iter_items}
use Rattle.crossbeam_deque.specs.Handles.{stealer_deque}
use Rattle.work_packets.specs.Shares.{packets_in}
use Rattle.steal_pool.specs.declared.rule.TheConstants.{PARTS}
use Rattle.steal_pool.specs.Seats.{desk_of, account, deques, got_by, HasParts, HasBegun}
use Rattle.steal_pool.proofs.seats.open_seats.Given as goal

abbrev pub invariant-loop-share : goal.invariant-loop-share
invariant-loop-share g l = record {
  bucket : All (λ p. p.bucket ≡ l.b) (packets_in (into_iter_items l.share-iterator));
  to-come : All g.K.Fits.fits (packets_in (into_iter_items l.share-iterator));
  parts : All (HasParts PARTS) l.seats.items;
  begun : AllZip (HasBegun g.W.PacketWorker.home g.W.PacketWorker.takes g.W.PacketWorker.steps l.b) l.yielded (map account l.seats.items);
  none : All (λ s. got_by s ≡ []) l.seats.items;
  fit : All (λ s. All g.K.Fits.fits (desk_of s).backlog.items) l.seats.items;
  thieves : map (λ t. stealer_deque t) l.thieves.items ≡ deques l.seats.items;
  count : length l.seats.items ≡ length l.yielded;
}
