use Rattle.std.proofs.Common.{◌≡◌, ◌∙◌, ◌+◌, ◌-◌, ◌<◌, ⊎_elim, refl, sym, get_or, ap, subst, arith, List, ℕ, IsTrue, map, length}
use Rattle.std.specs.List.{Contains}
use Rattle.std.specs.Prelude.{slice_get}
use Rattle.std.proofs.lemmas.List.Elements.{All-weaker}
use Rattle.heap_layout.specs.Zones.{block_at}
use Rattle.heap_layout.specs.declared.block.Kind.{Kind}
use Rattle.object_model.specs.Heaps.{heap_state}
use Rattle.object_model.specs.Objects.{word_at}
use Rattle.sessions.specs.Collecting.{is_logged_under}
use Rattle.sessions.specs.Fitting.{free_of}
use Rattle.sessions.specs.Grants.{BlockCounts, allowance_in}
use Rattle.plan_api.specs.Counting.{session_counts}
use Rattle.mutator_core.specs.Tickets.{smaller}
use Rattle.heap_users.specs.Users.{mutator_state}
use Rattle.mutator_rule.specs.declared.seat.MutatorSeat.{MutatorSeat}
use Rattle.mutator_rule.specs.Views.{epoch_with}
use Rattle.racing_mutator.specs.RacingSeats.{MayCall, logged_at}
use Rattle.racing_world.specs.Calls.{epoch_of_world}
use Rattle.racing_world.specs.Closing.{IsSeatAt}
use Rattle.racing_world.specs.ClosingNotes.{JoinsNotes}
use Rattle.racing_world.proofs.WorldEnds.{seat-flag}
use Rattle.racing_world.proofs.NotesJoined.{are-notes, free-after, few-free, has-regions, few-seats, budget-there}
use Rattle.racing_world.proofs.world.World.close_with.Goals as goal

pub join_flags-requires : goal.join_flags-requires
join_flags-requires g c = All-weaker (MayCall g.P.Plan.rules c.args.self.row) (λ (seat : MutatorSeat). length c.args.notes.flags.items ≡ length seat.notes.flags.items)
    (λ (seat : MutatorSeat) may. c.requires.flags.len ∙ (λ k. (epoch_with g.P.Plan.rules (sym may.0.own.1 k)).before.blocks) ∙ sym may.1.len) c.args.seats.items c.requires.calls

pub join_notes-requires-clause-blocks : goal.join_notes-requires-clause-blocks
join_notes-requires-clause-blocks g c = c.requires.notes.notes.len ∙ ap (λ (b : BlockCounts). b.blocks) (sym c.requires.notes.counts)

pub join_notes-requires-clause-seats : goal.join_notes-requires-clause-seats
join_notes-requires-clause-seats g c k below = has-regions g.P.Plan.rules c.args.self.row c.args.seats.items c.requires.calls k
    (let e : c.args.notes.counts.blocks ≡ (epoch_of_world g.P.Plan.rules c.args.self).before.blocks = ap (λ (b : BlockCounts). b.blocks) c.requires.notes.counts in omega arith)

pub unused_tickets-unused-requires : goal.unused_tickets-unused-requires
unused_tickets-unused-requires g c = let few = few-seats g.P.Plan.rules c.args.self.row c.args.seats.items c.requires.calls c.requires.some c.requires.all in omega arith

pub get-requires : goal.get-requires
get-requires g c = subst (λ (w : List ℕ). 1 < length w) (sym c.words.ensures) (budget-there g.P.Plan.rules g.met.P.Plan.fill_has_holes c.args.self.row c.args.seats.items c.requires.calls c.requires.some (heap_state c.in_ok-heap.heap) (map mutator_state c.in_ok-heap.mutators.items) c.in_ok-heap.ensures.ends c.in_ok-heap.ensures.room)

pub overflow_add-counts : goal.overflow_add-counts
overflow_add-counts g c =
    let few = few-free g.P.Plan.rules g.met.P.Plan.fill_has_holes c.args.self.row c.args.seats.items c.requires.calls c.requires.some (heap_state c.in_ok-heap.heap) (map mutator_state c.in_ok-heap.mutators.items) c.in_ok-heap.ensures.ends c.in_ok-heap.ensures.room in
    let seats = few-seats g.P.Plan.rules c.args.self.row c.args.seats.items c.requires.calls c.requires.some c.requires.all in
    let free : c.args.notes.counts.free ≡ free_of (epoch_of_world g.P.Plan.rules c.args.self).before = ap (λ (b : BlockCounts). b.free) c.requires.notes.counts in
    let unused = c.unused_tickets-unused.ensures.most in
    omega arith

pub overflow_sub-counts : goal.overflow_sub-counts
overflow_sub-counts g c =
    let allowed = c.allowance-allowance.ensures ∙ ap (λ r. allowance_in r (session_counts c.args.notes.counts)) c.reserve.ensures ∙ ap (allowance_in g.P.Plan.rules.reserve) c.requires.notes.counts in
    let budget : c.get.result ≡ word_at (heap_state c.in_ok-heap.heap) 1 = c.get.ensures ∙ ap (λ (w : List ℕ). get_or w 1 0) c.words.ensures in
    let taken = free-after g.P.Plan.rules g.met.P.Plan.fill_has_holes c.args.self.row c.args.seats.items c.requires.calls c.requires.some (heap_state c.in_ok-heap.heap) (map mutator_state c.in_ok-heap.mutators.items) c.in_ok-heap.ensures.ends c.in_ok-heap.ensures.room
    c.unused_tickets-unused.result c.drawn_below-drawn.result c.allowance-allowance.result allowed c.unused_tickets-unused.ensures.value (c.drawn_below-drawn.ensures ∙ ap (λ n. smaller n c.allowance-allowance.result) budget) in
    let free : c.args.notes.counts.free ≡ free_of (epoch_of_world g.P.Plan.rules c.args.self).before = ap (λ (b : BlockCounts). b.free) c.requires.notes.counts in
    omega (arith, taken, free)

pub returns-clause-joins : goal.returns-clause-joins
returns-clause-joins g c = subst (λ (f : Kind). JoinsNotes f c.args.seats.items c.args.notes.notes.items c.join_notes.new.notes.items) c.alloc_kind.ensures c.join_notes.ensures.joins

pub returns-clause-notes : goal.returns-clause-notes
returns-clause-notes g c =
    let allowed = c.allowance-allowance.ensures ∙ ap (λ r. allowance_in r (session_counts c.args.notes.counts)) c.reserve.ensures ∙ ap (allowance_in g.P.Plan.rules.reserve) c.requires.notes.counts in
    let budget : c.get.result ≡ word_at (heap_state c.in_ok-heap.heap) 1 = c.get.ensures ∙ ap (λ (w : List ℕ). get_or w 1 0) c.words.ensures in
    let taken = free-after g.P.Plan.rules g.met.P.Plan.fill_has_holes c.args.self.row c.args.seats.items c.requires.calls c.requires.some (heap_state c.in_ok-heap.heap) (map mutator_state c.in_ok-heap.mutators.items) c.in_ok-heap.ensures.ends c.in_ok-heap.ensures.room
    c.unused_tickets-unused.result c.drawn_below-drawn.result c.allowance-allowance.result allowed c.unused_tickets-unused.ensures.value (c.drawn_below-drawn.ensures ∙ ap (λ n. smaller n c.allowance-allowance.result) budget) in
    let free : c.args.notes.counts.free ≡ free_of (epoch_of_world g.P.Plan.rules c.args.self).before = ap (λ (b : BlockCounts). b.free) c.requires.notes.counts in
    are-notes g.P.Plan.rules g.met.P.Plan.fill_has_holes c.args.self.row c.args.seats.items c.requires.calls c.requires.some (heap_state c.in_ok-heap.heap) (map mutator_state c.in_ok-heap.mutators.items) c.in_ok-heap.ensures.ends c.in_ok-heap.ensures.room
    c.args.notes _ c.join_notes.new.notes.items c.requires.notes (returns-clause-joins g c) c.join_notes.ensures.unowned
    (c.args.notes.counts.free + c.unused_tickets-unused.result - c.drawn_below-drawn.result) refl (omega (arith, taken, free)) refl refl

pub returns-clause-flags : goal.returns-clause-flags
returns-clause-flags g c =
    let ends = c.in_ok-heap.ensures.ends in
    let before : ℕ = (epoch_of_world g.P.Plan.rules c.args.self).before.blocks in
    record {
      len = c.join_flags.ensures.len ∙ c.requires.flags.len ∙ sym ends.size;
      each = λ a logged. ap (λ (b : ℕ). slice_get c.join_flags.new.flags.items (block_at b a)) ends.size
          ∙ ⊎_elim
          (λ (was : IsTrue (is_logged_under g.P.Plan.rules (epoch_of_world g.P.Plan.rules c.args.self).before a)). c.join_flags.ensures.kept (block_at before a) (c.requires.flags.each a was))
          (λ (by : (k : ℕ) × (seat : MutatorSeat) × IsSeatAt c.args.seats.items k seat × Contains (logged_at g.P.Plan.rules seat) a).
          c.join_flags.ensures.joined by.0 (block_at before a) by.1 by.2 (seat-flag g.P.Plan.rules c.args.self.row c.args.seats.items c.requires.calls by.0 by.1 by.2 a by.3))
          (ends.logged a logged);
    }
