use Rattle.std.proofs.Common.{All, Some, sym, subst}
use Rattle.std.proofs.lemmas.List.Elements.{All-pop, All-push, All-weaker}
use Rattle.object_model.specs.Heaps.{heap_state}
use Rattle.trace_words.specs.Steps.{IsDone}
use Rattle.trace_table.specs.declared.table.WorkerSeat.{WorkerSeat}
use Rattle.trace_table.specs.Seats.{IsSeat}
use Rattle.trace_table.proofs.SeatEnds.{new-seats-done}
use Rattle.trace_tests.proofs.RacingParts.{part-of, roots-now}
use Rattle.trace_tests.proofs.racing.trace_alone.Goals as goal

pub work_part-seat-requires-clause-part : goal.work_part-seat-requires-clause-part
work_part-seat-requires-clause-part g c = let t = c.in_ok-table.table in let new = c.in_ok-table.ensures.seats in
    part-of t c.take_globals.new.self c.take_logged.new.self c.take_globals.ensures.same c.take_logged.ensures.same c.in-Some.seat c.in_ok-globals.globals.items c.in_ok-stack.stack.items
    c.take_logged.ensures.table (All-pop (IsSeat t) _ _ (Some c.in-Some.seat) c.in-Some.ensures.items new.each).1
    (λ p. (All-pop (λ (s : WorkerSeat). IsDone p s.seat.me.0) _ _ (Some c.in-Some.seat) c.in-Some.ensures.items (new-seats-done p t 1 c.in_ok-table.seats.items new)).1)
    c.in_ok-globals.ensures.rights c.in_ok-stack.ensures.rights

pub work_part-seat-requires-clause-roots : goal.work_part-seat-requires-clause-roots
work_part-seat-requires-clause-roots g c = let heap = c.args.built.heap in
    roots-now c.in_ok-table.table c.take_globals.new.self c.take_logged.new.self c.take_globals.ensures.same c.take_logged.ensures.same (heap_state heap) c.args.run 1 c.in_ok-table.ensures.setup
    heap.lawful.but_lines c.requires.nursery c.args.built.registers.items c.deref.result.now c.deref.ensures.value c.args.built.roots

pub close-traced-requires-clause-seats : goal.close-traced-requires-clause-seats
close-traced-requires-clause-seats g c = let t = c.in_ok-table.table in let w = c.take_logged.new.self in let new = c.in_ok-table.ensures.seats in
    let rest = (All-pop (IsSeat t) _ _ (Some c.in-Some.seat) c.in-Some.ensures.items new.each).0 in
    subst (All (IsSeat w)) (sym c.in_ok-push.ensures.items) (All-push (IsSeat w) _ _
    (All-weaker (IsSeat t) (IsSeat w) (λ s is. c.take_logged.ensures.same.seats s (c.take_globals.ensures.same.seats s is)) _ rest) c.work_part-seat.ensures.seat)
