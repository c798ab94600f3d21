use Rattle.std.proofs.Common.{◌-◌, ◌^◌, refl}
use Rattle.racing_collector.specs.declared.worker.RacingWorker.{RacingWorker}
use Rattle.racing_collector.proofs.Dismissed.{map-more, flat-more, sum-more}
use Rattle.racing_collector.proofs.workers.dismiss.Goals as goal

pub loop-worker-preserved : goal.loop-worker-preserved
loop-worker-preserved g c = let is = c.loop-worker.invariant in record {
  seats = map-more (λ (w : RacingWorker g.row.G.Denot). w.seat) c.loop-worker.seats.items c.push.new.self.items c.loop-worker.yielded c.in-Some.worker c.in-Some.worker.seat is.seats c.in_ok-push.ensures.items refl;
  served = flat-more (λ (w : RacingWorker g.row.G.Denot). w.served.items) c.loop-worker.served.items c.append.new.self.items c.loop-worker.yielded c.in-Some.worker c.in-Some.worker.served.items is.served c.in_ok-append.ensures.items refl;
  kept = sum-more (2 ^ 32 - 1) (λ (w : RacingWorker g.row.G.Denot). w.tally.kept) c.loop-worker.tally.kept c.add.new.self.kept c.loop-worker.yielded c.in-Some.worker c.in-Some.worker.tally.kept is.kept c.add.ensures.kept refl;
  moved = sum-more (2 ^ 32 - 1) (λ (w : RacingWorker g.row.G.Denot). w.tally.moved) c.loop-worker.tally.moved c.add.new.self.moved c.loop-worker.yielded c.in-Some.worker c.in-Some.worker.tally.moved is.moved c.add.ensures.moved refl;
  words = sum-more (2 ^ 64 - 1) (λ (w : RacingWorker g.row.G.Denot). w.tally.words) c.loop-worker.tally.words c.add.new.self.words c.loop-worker.yielded c.in-Some.worker c.in-Some.worker.tally.words is.words c.add.ensures.words refl;
}
