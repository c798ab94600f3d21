use Rattle.std.proofs.Common.{◌≡◌, refl, sym, subst, ap}
use Rattle.std.specs.Prelude.{slice_get}
use Rattle.object_model.specs.Objects.{state_of, word_at, size_of}
use Rattle.mutator_calls.specs.Effects.{draws}
use Rattle.mutator_calls.specs.Allocating.{births_with, IsNextTicket, Draws, IsCause}
use Rattle.mutator_calls.proofs.RoomFoundLater.{draws-from, finds-later}
use Rattle.plain_row.specs.Worlds.{Goes}
use Rattle.local_allocators.specs.Seats.{ticket_of}
use Rattle.plain_row.specs.Steps.{HasBudget, Lacks}
use Rattle.local_allocators.specs.MutatorRegions.{TriesBlock, KeepsHole}
use Rattle.local_allocators.specs.NotedRegions.{regions_of}
use Rattle.plain_world.proofs.CallLemmas.{stays-open, history-gains, rest-after}
use Rattle.plain_world.proofs.AllocationCalls.{allocated-weaker, allocated-both, lacks-at, books-at, books_for, LacksAt, next-ticket, cause-weaker, placed-at}
use Rattle.plain_world.proofs.plain_world.PlainWorld.new_object.Goals as goal

pub returns-clause-stays : goal.returns-clause-stays
returns-clause-stays g c =
    let old = c.args.self.now in
    let idle = c.new_object.ensures.ready.between_calls in
    allocated-both c.new_object.result (allocated-weaker c.new_object.result
    (λ n did. stays-open g.P.Plan.rules old _ c.args.place (births_with c.args.d c.args.refs c.args.nums n did.taken did.granted did.drawn) c.requires.open idle did.effect)
    (λ need did. stays-open g.P.Plan.rules old _ c.args.place (draws did.drawn) c.requires.open idle did.effect)
    c.new_object.ensures.answer)

pub returns-clause-logged : goal.returns-clause-logged
returns-clause-logged g c = allocated-both c.new_object.result (allocated-weaker c.new_object.result
    (λ n did. did.effect.logged) (λ need did. did.effect.logged) c.new_object.ensures.answer)

pub returns-clause-made : goal.returns-clause-made
returns-clause-made g c =
    let a = c.args.self.now.row in
    let b = c.new_object.new.seat in
    let m = c.args.place in
    let size = size_of c.args.refs c.args.nums in
    allocated-weaker c.new_object.result
    (λ n did. let goes = did.effect in let effect = births_with c.args.d c.args.refs c.args.nums n did.taken did.granted did.drawn in record {
      taken = did.taken;
      granted = did.granted;
      drawn = did.drawn;
      history = history-gains a b m effect goes;
      grants = record { kind = goes.granted; free = goes.free };
      rest = rest-after g.P.Plan.rules c.args.self.now _ m effect c.requires.open c.requires.place goes;
      finds = finds-later _ _ (record {
        lacks = lacks-at b m size goes.turn;
        used = λ k is. is;
        before = λ k is. is;
        now = λ k is. subst (λ t. TriesBlock b.fill (regions_of b.notes.items (slice_get b.seats.items t)) size k) goes.turn is;
        next = next-ticket (record a { turn = m });
        full = λ is. is;
        was_full = λ is. is;
        spent = λ is. is;
        overflow = λ is. is;
        was_overflow = λ is. is;
        kept = λ is. subst (λ t. KeepsHole (regions_of a.notes.items (slice_get a.seats.items m)) (regions_of b.notes.items (slice_get b.seats.items t))) goes.turn is;
        blocks = refl;
        allowance = refl;
        old = refl;
        new = ap (λ t. ticket_of (slice_get b.seats.items t)) (sym goes.turn);
      }) did.taken did.granted did.drawn did.finds;
      placed = placed-at a did.offer b m c.args.d size goes.turn goes.fill did.offered did.placed;
    })
    (λ need did. let goes = did.effect in let effect = draws did.drawn in record {
      drawn = did.drawn;
      history = history-gains a b m effect goes;
      grants = record { kind = goes.granted; free = goes.free };
      rest = rest-after g.P.Plan.rules c.args.self.now _ m effect c.requires.open c.requires.place goes;
      tickets = subst (λ o. Draws (λ t. t ≡ word_at (state_of a.row) 1) (ticket_of (slice_get a.seats.items m)) o did.drawn)
          (ap (λ t. ticket_of (slice_get b.seats.items t)) goes.turn)
          (draws-from (IsNextTicket Goes HasBudget (record a { turn = m })) (λ t. t ≡ word_at (state_of a.row) 1) _ _ did.drawn
          (next-ticket (record a { turn = m })) did.tickets);
      large = did.large;
      full = did.full;
      spent = did.spent;
    })
    c.new_object.ensures.answer

pub returns-clause-small : goal.returns-clause-small
returns-clause-small g c = allocated-weaker c.new_object.result (λ n did. did.small) (λ need did. tt) c.new_object.ensures.answer

pub returns-clause-need : goal.returns-clause-need
returns-clause-need g c = allocated-weaker c.new_object.result (λ n did. tt) (λ need did. did.is_of_call) c.new_object.ensures.answer

pub returns-clause-cause : goal.returns-clause-cause
returns-clause-cause g c =
    let size = size_of c.args.refs c.args.nums in
    let b = c.new_object.new.seat in
    allocated-weaker c.new_object.result (λ n did. tt)
    (λ need did. cause-weaker (books_for b c.args.place) (Lacks b size) (LacksAt b c.args.place size) size need.cause (lacks-at b c.args.place size did.effect.turn)
    (subst (λ books. IsCause books (Lacks b size) size need.cause) (books-at b c.args.place did.effect.turn) did.cause))
    c.new_object.ensures.answer
