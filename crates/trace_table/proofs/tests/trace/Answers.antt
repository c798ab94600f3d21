use Rattle.std.proofs.Common.{◌≡◌, ℕ, ◌∙◌, Some, All, sym, ap, subst}
use Rattle.std.proofs.lemmas.List.Elements.{All-pop, All-push}
use Rattle.object_model.specs.Objects.{HeapState, IsHeld}
use Rattle.trace_core.specs.Runs.{MayRun, setup_of}
use Rattle.trace_core.specs.Setups.{Setup}
use Rattle.trace_words.specs.Steps.{IsDone}
use Rattle.trace_table.specs.declared.table.WorkerSeat.{WorkerSeat}
use Rattle.trace_table.specs.Seats.{setup_at, IsSeat}
use Rattle.trace_table.specs.WorkedRaces.{raced_heap}
use Rattle.trace_table.proofs.WorkedRaces.{raced-run, raced-held, pinned-held, other-held}
use Rattle.trace_table.proofs.SeatEnds.{new-seats-done}
use Rattle.trace_table.proofs.tests.trace.Goals as goal

pub begin-requires-clause-run : goal.begin-requires-clause-run
begin-requires-clause-run g c = let run = c.in_ok-run.ensures.run in let lists = c.in_ok-run.ensures.lists in
    subst (λ (s : HeapState). MayRun s c.in_ok-run.run') (sym c.in_ok-heap.ensures) (raced-run c.in_ok-run.run' run.0 run.1 run.2 run.3 lists.0 lists.1)

pub race-first-requires-clause-first : goal.race-first-requires-clause-first
race-first-requires-clause-first g c κs within = let t = c.in_ok-table.table in let new = c.in_ok-table.ensures.seats in
    let Done : WorkerSeat → Type 0 = λ s. IsDone (setup_at t) s.seat.me.0 in (
      (All-pop (IsSeat t) _ _ (Some c.in-Some-pop.first) c.in-Some-pop.ensures.items (All-pop (IsSeat t) _ _ (Some c.in-Some.second) c.in-Some.ensures.items new.each).0).1,
      (All-pop Done _ _ (Some c.in-Some-pop.first) c.in-Some-pop.ensures.items (All-pop Done _ _ (Some c.in-Some.second) c.in-Some.ensures.items (new-seats-done (setup_at t) t 2 c.in_ok-table.seats.items new)).0).1,
    )

pub race-first-requires-clause-second : goal.race-first-requires-clause-second
race-first-requires-clause-second g c κs within = let t = c.in_ok-table.table in let new = c.in_ok-table.ensures.seats in
    let Done : WorkerSeat → Type 0 = λ s. IsDone (setup_at t) s.seat.me.0 in (
      (All-pop (IsSeat t) _ _ (Some c.in-Some.second) c.in-Some.ensures.items new.each).1,
      (All-pop Done _ _ (Some c.in-Some.second) c.in-Some.ensures.items (new-seats-done (setup_at t) t 2 c.in_ok-table.seats.items new)).1,
    )

pub race-first-requires-clause-roots : goal.race-first-requires-clause-roots
race-first-requires-clause-roots g c κs within = let run = c.in_ok-run.ensures.run in let lists = c.in_ok-run.ensures.lists in
    let may : MayRun raced_heap c.in_ok-run.run' = raced-run c.in_ok-run.run' run.0 run.1 run.2 run.3 lists.0 lists.1 in
    let setup : setup_at c.in_ok-table.table ≡ setup_of raced_heap c.in_ok-run.run' 2 = c.in_ok-table.ensures.setup ∙ ap (λ (s : HeapState). setup_of s c.in_ok-run.run' 2) c.in_ok-heap.ensures in
    let held : (x : ℕ) → IsHeld raced_heap x → IsHeld (setup_at c.in_ok-table.table).before x = λ x is. subst (λ (p : Setup). IsHeld p.before x) (sym setup) (raced-held c.in_ok-run.run' may x is) in
    (held 806 pinned-held, held 818 other-held)

pub close-requires-clause-seats : goal.close-requires-clause-seats
close-requires-clause-seats g c = let t = c.in_ok-table.table in let P : WorkerSeat → Type 0 = IsSeat t in let new = c.in_ok-table.ensures.seats in
    let none = (All-pop P _ _ (Some c.in-Some-pop.first) c.in-Some-pop.ensures.items (All-pop P _ _ (Some c.in-Some.second) c.in-Some.ensures.items new.each).0).0 in
    let one : All P c.push.new.self.items = subst (All P) (sym c.in_ok-push.ensures.items) (All-push P _ _ none c.race-first.ensures.seats.0) in
    subst (All P) (sym c.in_ok-push-2.ensures.items) (All-push P _ _ one c.race-first.ensures.seats.1)
