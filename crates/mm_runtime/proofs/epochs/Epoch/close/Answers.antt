-- The seats are those of the parts.
use Rattle.std.proofs.Common.{◌≡◌, sym, ◌∙◌, ap, subst, arith, List, map, length}
use Rattle.std.specs.Prelude.{All}
use Rattle.std.proofs.lemmas.List.{length-map}
use Rattle.object_model.specs.Heaps.{heap_state}
use Rattle.mutator_core.specs.Machine.{Epoch as Began}
use Rattle.mutator_rule.specs.declared.seat.MutatorSeat.{MutatorSeat}
use Rattle.heap_users.specs.Users.{mutator_state}
use Rattle.managed_heap.specs.declared.stopped_heap.Parts.{Parts}
use Rattle.racing_mutator.specs.RacingSeats.{MayCall}
use Rattle.racing_world.specs.Calls.{number_of}
use Rattle.racing_world.specs.Closing.{EndsEpoch, mutator_at}
use Rattle.block_regions.specs.Notes.{AreNotes, FlagsCover}
use Rattle.mm_runtime.specs.OpenEpochs.{IsEpochOf, seat_of}
use Rattle.mm_runtime.specs.declared.manager.Manager.{Manager}
use Rattle.mm_runtime.proofs.SeatsClosed as closed
use Rattle.mm_runtime.proofs.SeatsClosed.{ClosesParts}
use Rattle.mm_runtime.proofs.SeatsHanded as handed
use Rattle.mm_runtime.proofs.epochs.Epoch.close.Goals as goal

pub close_with-requires-clause-some : goal.close_with-requires-clause-some
close_with-requires-clause-some g c =
    let ready = c.requires.ready in
    let some = ready.1.order.some in
    let many = ready.2.count in
    let same : length c.in_ok-seats.seats.items ≡ length c.args.parts.items = ap length c.in_ok-seats.ensures.seats ∙ length-map c.args.parts.items seat_of in
    omega arith

pub close_with-requires-clause-calls : goal.close_with-requires-clause-calls
close_with-requires-clause-calls g c =
    let ready = c.requires.ready in
    subst (λ (xs : List MutatorSeat). All (MayCall g.P.Plan.rules c.args.self.world.row) xs) (sym c.in_ok-seats.ensures.seats)
    (handed.seats-call g.P.Plan.rules ready.0 c.args.self c.args.parts.items ready.2)

pub close_with-requires-clause-all : goal.close_with-requires-clause-all
close_with-requires-clause-all g c =
    let ready = c.requires.ready in
    ap (map number_of) c.in_ok-seats.ensures.seats ∙ handed.seats-all g.P.Plan.rules ready.0 c.args.self c.args.parts.items ready.2 ready.1.setting ready.1.now ready.1.closes.stands

pub close_with-requires-clause-flags : goal.close_with-requires-clause-flags
close_with-requires-clause-flags g c =
    let ready = c.requires.ready in
    handed.flags-cover g.P.Plan.rules ready.0 c.args.self c.args.parts.items ready.2 ready.1.order

pub close_with-requires-clause-notes : goal.close_with-requires-clause-notes
close_with-requires-clause-notes g c =
    let ready = c.requires.ready in
    handed.are-notes g.P.Plan.rules ready.0 c.args.self c.args.parts.items ready.2 ready.1.order g.met.P.Plan.fill_has_holes

pub returns : goal.returns
returns g c =
    let rules = g.P.Plan.rules in
    let ready = c.requires.ready in
    let same = c.from_parts-heap.ensures in
    let new : Manager g.row.P.Denot = record { alloc = c.args.self.alloc; heap = c.from_parts-heap.result; progress = c.in_ok-seats.progress; pace = c.new.result } in
    let ends = c.in_ok-seats.ends.items in
    let close : (old : Manager g.row.P.Denot) → IsEpochOf rules old c.args.self c.args.parts.items → ClosesParts rules old c.args.self c.args.parts.items ends new = λ old is. record {
      opened = is;
      ended = c.requires.ended;
      ends_are = c.in_ok-seats.ensures.ends;
      closes = subst (λ (q : Parts). EndsEpoch rules (closed.began_at rules old) (map seat_of c.args.parts.items) (heap_state q.heap) (map mutator_state q.mutators.items)) (sym same)
          (subst (λ (xs : List MutatorSeat). EndsEpoch rules (closed.began_at rules old) xs (heap_state c.in_ok-heap.heap) (map mutator_state c.in_ok-heap.mutators.items)) c.in_ok-seats.ensures.seats
          (subst (λ (p : Began). EndsEpoch rules p c.in_ok-seats.seats.items (heap_state c.in_ok-heap.heap) (map mutator_state c.in_ok-heap.mutators.items)) is.began.epoch c.in_ok-heap.ensures.ends));
      mutators = ap (λ (q : Parts). map mutator_state q.mutators.items) same ∙ c.in_ok-heap.ensures.ends.mutators ∙ ap (map mutator_at) c.in_ok-seats.ensures.seats;
      notes = subst (λ (q : Parts). AreNotes rules.fill (heap_state q.heap) q.notes) (sym same) c.in_ok-heap.ensures.notes;
      flags = subst (λ (q : Parts). FlagsCover rules (heap_state q.heap) q.notes.flags.items) (sym same) c.in_ok-heap.ensures.flags;
      nursery = ap (λ (q : Parts). q.nursery) same ∙ is.began.nursery;
      full = ap (λ (q : Parts). q.full) same ∙ is.began.full;
      workers = ap (λ (q : Parts). q.workers) same ∙ is.began.workers;
      progress = c.in_ok-seats.ensures.traces;
    } in
    let own = close ready.0 ready.2 in record {
      order = closed.in-order rules ready.0 new c.args.self c.args.parts.items ends own ready.1.setting ready.1.now ready.1.closes.stands ready.1.order;
      part = λ old is t now closes. (
        closed.stop rules old new c.args.self c.args.parts.items ends (close old is) t now closes.stands,
        closed.runs-part rules old new c.args.self c.args.parts.items ends (close old is) t now closes.stands,
        closed.stands-after rules old new c.args.self c.args.parts.items ends (close old is) t now closes.stands,
      );
      count = closed.as-many rules ready.0 new c.args.self c.args.parts.items ends own;
      gcs = closed.gcs rules ready.0 new c.args.self c.args.parts.items ends own;
      needs = closed.needs rules ready.0 new c.args.self c.args.parts.items ends own;
      replied = λ old is. closed.no-reply-lost rules old new c.args.self c.args.parts.items ends (close old is);
    }
