use Rattle.std.proofs.Common.{◌≡◌, [], All, map}
use Rattle.std.specs.Vec.Iter.{into_iter_items}
use Rattle.racing_collector.specs.declared.worker.RacingWorker.{RacingWorker}
use Rattle.racing_collector.specs.Accounts.{IsRacer}
use Rattle.racing_collector.proofs.workers.enlist.Given as goal

abbrev pub invariant-loop-seat : goal.invariant-loop-seat
invariant-loop-seat g l = record {
  left : All (IsRacer l.racing) (into_iter_items l.seat-iterator);
  seats : map (λ (w : RacingWorker g.row.G.Denot). w.seat) l.workers.items ≡ l.yielded;
  home : All (λ (w : RacingWorker g.row.G.Denot). w.racing.now ≡ l.racing) l.workers.items;
  served : All (λ (w : RacingWorker g.row.G.Denot). w.served.items ≡ []) l.workers.items;
  tally : All (λ (w : RacingWorker g.row.G.Denot). (w.tally.kept ≡ 0) × (w.tally.moved ≡ 0) × (w.tally.words ≡ 0)) l.workers.items;
}
