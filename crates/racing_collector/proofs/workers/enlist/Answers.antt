use Rattle.std.proofs.Common.{◌≡◌, ◌∙◌, [], ◌∷◌, ◌++◌, All, map, refl, sym, ap, subst, rules}
use Rattle.std.proofs.lemmas.List.{map-append}
use Rattle.std.proofs.lemmas.List.Elements.{All-nil, All-head, All-tail, All-push}
use Rattle.trace_table.specs.Seats.{setup_at}
use Rattle.trace_table.specs.declared.table.WorkerSeat.{WorkerSeat}
use Rattle.racing_collector.specs.declared.worker.RacingWorker.{RacingWorker}
use Rattle.racing_collector.specs.Accounts.{IsRacer}
use Rattle.racing_collector.proofs.Enlisted.{new-racers}
use Rattle.racing_collector.proofs.workers.enlist.Goals as goal

pub loop-seat-init : goal.loop-seat-init
loop-seat-init g c = record {
  left = subst (All (IsRacer c.args.racing.now)) (sym c.into_iter-seat-iterator.ensures.into_iter_gives.0)
      (new-racers c.args.racing.now c.requires.table c.requires.roots (setup_at c.args.racing.now.table).workers c.args.seats.items c.requires.seats);
  seats = ap (map (λ (w : RacingWorker g.row.G.Denot). w.seat)) c.new-workers.ensures.items;
  home = subst (All (λ (w : RacingWorker g.row.G.Denot). w.racing.now ≡ c.args.racing.now)) (sym c.new-workers.ensures.items) (All-nil (λ (w : RacingWorker g.row.G.Denot). w.racing.now ≡ c.args.racing.now));
  served = subst (All (λ (w : RacingWorker g.row.G.Denot). w.served.items ≡ [])) (sym c.new-workers.ensures.items) (All-nil (λ (w : RacingWorker g.row.G.Denot). w.served.items ≡ []));
  tally = subst (All (λ (w : RacingWorker g.row.G.Denot). (w.tally.kept ≡ 0) × (w.tally.moved ≡ 0) × (w.tally.words ≡ 0))) (sym c.new-workers.ensures.items) (All-nil (λ (w : RacingWorker g.row.G.Denot). (w.tally.kept ≡ 0) × (w.tally.moved ≡ 0) × (w.tally.words ≡ 0)));
}

pub invariant_of-push : goal.invariant_of-push
invariant_of-push g c = let P : WorkerSeat → Type 0 = IsRacer c.args.racing.now in
    record { racer = All-head P c.in-Some.seat _ (subst (All P) c.in-Some.ensures.steps.0 c.loop-seat.invariant.left) }

pub loop-seat-preserved : goal.loop-seat-preserved
loop-seat-preserved g c = let P : WorkerSeat → Type 0 = IsRacer c.args.racing.now in let is = c.loop-seat.invariant in record {
  left = All-tail P c.in-Some.seat _ (subst (All P) c.in-Some.ensures.steps.0 is.left);
  seats = ap (map (λ (w : RacingWorker g.row.G.Denot). w.seat)) c.in_ok-push.ensures.items ∙ map-append (λ (w : RacingWorker g.row.G.Denot). w.seat) c.loop-seat.workers.items _ ∙ ap (λ l. l ++ c.in-Some.seat ∷ []) is.seats;
  home = subst (All (λ (w : RacingWorker g.row.G.Denot). w.racing.now ≡ c.args.racing.now)) (sym c.in_ok-push.ensures.items)
      (All-push (λ (w : RacingWorker g.row.G.Denot). w.racing.now ≡ c.args.racing.now) c.loop-seat.workers.items _ is.home refl);
  served = subst (All (λ (w : RacingWorker g.row.G.Denot). w.served.items ≡ [])) (sym c.in_ok-push.ensures.items)
      (All-push (λ (w : RacingWorker g.row.G.Denot). w.served.items ≡ []) c.loop-seat.workers.items _ is.served (search rules));
  tally = subst (All (λ (w : RacingWorker g.row.G.Denot). (w.tally.kept ≡ 0) × (w.tally.moved ≡ 0) × (w.tally.words ≡ 0))) (sym c.in_ok-push.ensures.items)
      (All-push (λ (w : RacingWorker g.row.G.Denot). (w.tally.kept ≡ 0) × (w.tally.moved ≡ 0) × (w.tally.words ≡ 0)) c.loop-seat.workers.items _ is.tally (search rules));
}
