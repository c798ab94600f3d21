use Rattle.std.proofs.Common.{◌≡◌, ℕ, ◌+◌, [], refl, sym, ap, ◌∙◌, subst, arith}
use Rattle.object_model.specs.Heaps.{heap_state}
use Rattle.object_model.specs.Objects.{HeapState, state_of}
use Rattle.trace_core.specs.Setups.{Setup, TraceMayBegin}
use Rattle.trace_core.specs.Runs.{IsRunOf, begun, setup_of}
use Rattle.trace_core.specs.declared.run.TraceRun.{TraceRun}
use Rattle.trace_words.specs.Rule.{setup_in, tracing_of}
use Rattle.std.proofs.lemmas.List.Elements.{All-nil}
use Rattle.trace_table.specs.Seats.{setup_at, IsSeat}
use Rattle.trace_table.specs.Ends.{kept_share, NewSeats}
use Rattle.trace_table.proofs.SeatEnds.{ready-for, run-for, more-seats}
use Rattle.trace_words.specs.declared.share.Share.{Share}
use Rattle.trace_table.proofs.TokensTaken.{left-new}
use Rattle.trace_table.proofs.table.TraceTable.begin.Goals as goal

pub share-table-requires-clause-ready : goal.share-table-requires-clause-ready
share-table-requires-clause-ready c = let s : HeapState = heap_state c.args.heap in let run : TraceRun = c.args.run in let w : ℕ = c.args.workers in
    let is = c.close-traced.ensures.traced _ _ _ c.in_ok-tracer.ensures.tracks in let same-run : c.close-traced.result.run ≡ run = c.close-traced.ensures.run ∙ c.in_ok-tracer.ensures.run in
    let same : tracing_of (state_of c.close-traced.result.row) c.close-traced.result.run w ≡ setup_of s run w = ap (λ (h : HeapState). tracing_of h c.close-traced.result.run w) is.row ∙ ap (λ (r : TraceRun). tracing_of (begun s run) r w) same-run in
    subst TraceMayBegin (sym same) (ready-for s run w c.requires.workers.0 c.requires.workers.1 is.trace.ready)

pub share-table-requires-clause-run : goal.share-table-requires-clause-run
share-table-requires-clause-run c = let s : HeapState = heap_state c.args.heap in let run : TraceRun = c.args.run in let w : ℕ = c.args.workers in
    let is = c.close-traced.ensures.traced _ _ _ c.in_ok-tracer.ensures.tracks in let same-run : c.close-traced.result.run ≡ run = c.close-traced.ensures.run ∙ c.in_ok-tracer.ensures.run in
    let same : tracing_of (state_of c.close-traced.result.row) c.close-traced.result.run w ≡ setup_of s run w = ap (λ (h : HeapState). tracing_of h c.close-traced.result.run w) is.row ∙ ap (λ (r : TraceRun). tracing_of (begun s run) r w) same-run in
    subst (λ (p : Setup). IsRunOf p c.close-traced.result.run) (sym same) (run-for s run w c.close-traced.result.run is.run)

pub loop-k-init : goal.loop-k-init
loop-k-init c = let s : HeapState = heap_state c.args.heap in let run : TraceRun = c.args.run in let w : ℕ = c.args.workers in
    let is = c.close-traced.ensures.traced _ _ _ c.in_ok-tracer.ensures.tracks in let same-run : c.close-traced.result.run ≡ run = c.close-traced.ensures.run ∙ c.in_ok-tracer.ensures.run in
    let same : tracing_of (state_of c.close-traced.result.row) c.close-traced.result.run w ≡ setup_of s run w = ap (λ (h : HeapState). tracing_of h c.close-traced.result.run w) is.row ∙ ap (λ (r : TraceRun). tracing_of (begun s run) r w) same-run in
    record {
      table = c.share-table.ensures.table;
      setup = c.share-table.ensures.setup ∙ same;
      run = c.share-table.ensures.run ∙ same-run;
      taken = c.share-table.ensures.taken;
      keeper = c.share-table.ensures.keeper ∙ ap (λ (r : TraceRun). (kept_share r w 0, [])) same-run;
      seats = subst (NewSeats c.share-table.result 0) (sym c.in_ok-seats.ensures.items) (record { each = All-nil (IsSeat c.share-table.result); shares = refl });
      room = c.in_ok-seats.ensures.len;
      capacity = c.in_ok-seats.ensures.capacity;
    }

pub loop-k-preserved : goal.loop-k-preserved
loop-k-preserved c = let i = c.loop-k.invariant in let same = c.next_seat.ensures.same in let setup : setup_at c.next_seat.new.self ≡ setup_at c.loop-k.table = ap (λ w. setup_in w.key) same.words in record {
  table = c.next_seat.ensures.table;
  setup = setup ∙ i.setup;
  run = same.run ∙ i.run;
  taken = (same.globals ∙ i.taken.0, same.logged ∙ i.taken.1);
  keeper = c.next_seat.ensures.keeper ∙ ap (λ (r : TraceRun). (kept_share r (setup_at c.loop-k.table).workers (c.loop-k.k + 1), [])) i.run
      ∙ ap (λ (p : Setup). (kept_share c.args.run p.workers (c.loop-k.k + 1), [])) i.setup;
  seats = subst (NewSeats c.next_seat.new.self (c.loop-k.k + 1)) (sym c.push_reserved.ensures.items)
      (more-seats c.loop-k.table c.next_seat.new.self c.loop-k.k c.loop-k.seats.items c.next_seat.result same.words i.seats c.next_seat.ensures.seat c.next_seat.ensures.share);
  room = c.push_reserved.ensures.len ∙ ap (λ n. n + 1) i.room;
  capacity = (let cap = c.push_reserved.ensures.capacity in let room = i.capacity in omega arith);
}

pub returns-clause-left : goal.returns-clause-left
returns-clause-left c = let i = c.loop-k.invariant in let t = c.loop-k.table in let w : ℕ = c.args.workers in let all : c.loop-k.k ≡ w = omega arith in
    i.keeper ∙ ap (λ (v : Share). (v, [])) (ap (kept_share c.args.run w) all ∙ ap (λ (r : TraceRun). kept_share r w w) (sym i.run)
    ∙ ap (λ (p : Setup). kept_share t.run p.workers p.workers) (sym i.setup) ∙ left-new t i.taken.0 i.taken.1)
