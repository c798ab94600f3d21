use Rattle.std.proofs.Common.{◌≡◌, ◌-◌, ◌^◌, map}
use Rattle.std.specs.List.{flat_map, sum_by}
use Rattle.racing_collector.specs.Accounts.{capped}
use Rattle.racing_collector.specs.declared.worker.RacingWorker.{RacingWorker}
use Rattle.racing_collector.proofs.workers.dismiss.Given as goal

abbrev pub invariant-loop-worker : goal.invariant-loop-worker
invariant-loop-worker g l = record {
  seats : l.seats.items ≡ map (λ (w : RacingWorker g.row.G.Denot). w.seat) l.yielded;
  served : l.served.items ≡ flat_map (λ (w : RacingWorker g.row.G.Denot). w.served.items) l.yielded;
  kept : l.tally.kept ≡ capped (2 ^ 32 - 1) (sum_by (λ (w : RacingWorker g.row.G.Denot). w.tally.kept) l.yielded);
  moved : l.tally.moved ≡ capped (2 ^ 32 - 1) (sum_by (λ (w : RacingWorker g.row.G.Denot). w.tally.moved) l.yielded);
  words : l.tally.words ≡ capped (2 ^ 64 - 1) (sum_by (λ (w : RacingWorker g.row.G.Denot). w.tally.words) l.yielded);
}
