use Rattle.std.proofs.Common.{sym, ◌∙◌, ap, subst, map}
use Rattle.std.specs.Prelude.{slice_get}
use Rattle.heap_layout.specs.declared.layout.TheConstants.{STOP_WORD}
use Rattle.object_model.specs.Objects.{state_of, word_at}
use Rattle.mutator_calls.specs.Effects.{nothing}
use Rattle.mutator_calls.specs.Stopping.{stop_of}
use Rattle.plain_row.specs.declared.plain_row.PlainRow.{PlainRow}
use Rattle.heap_users.specs.Users.{mutator_state}
use Rattle.local_allocators.specs.Seats.{ticket_of}
use Rattle.local_allocators.specs.MutatorRegions.{KeepsRegions}
use Rattle.local_allocators.specs.NotedRegions.{regions_of}
use Rattle.plain_row.specs.SeatLaws.{goes-nothing}
use Rattle.plain_world.proofs.CallLemmas.{stays-open, history-gains, stop-known, regions-same}
use Rattle.plain_world.proofs.plain_world.PlainWorld.poll.Goals as goal

pub returns-clause-stays : goal.returns-clause-stays
returns-clause-stays g c = stays-open g.P.Plan.rules c.args.self.now _ c.args.place nothing c.requires.open c.poll.ensures.ready.between_calls
    (goes-nothing (record c.args.self.now.row { turn = c.args.place }) c.poll.new.seat c.poll.ensures.looks)

pub returns-clause-history : goal.returns-clause-history
returns-clause-history g c = history-gains c.args.self.now.row c.poll.new.seat c.args.place nothing
    (goes-nothing (record c.args.self.now.row { turn = c.args.place }) c.poll.new.seat c.poll.ensures.looks)

pub returns-clause-same : goal.returns-clause-same
returns-clause-same g c = record {
  heap = ap (λ w. state_of w.row) c.poll.ensures.looks;
  mutators = ap (λ w. map mutator_state w.mutators.items) c.poll.ensures.looks;
  tickets = λ k. ap (λ w. ticket_of (slice_get w.seats.items k)) c.poll.ensures.looks;
  regions = λ k. let a = c.args.self.now.row in
      subst (λ (w : PlainRow). KeepsRegions (regions_of a.notes.items (slice_get a.seats.items k)) (regions_of w.notes.items (slice_get w.seats.items k))) (sym c.poll.ensures.looks)
      (regions-same a.notes.items (slice_get a.seats.items k));
}

-- a world in turns has the stop word that was loaded before the load, too
pub returns-clause-stop : goal.returns-clause-stop
returns-clause-stop g c = ap (λ w. word_at (state_of w.row) STOP_WORD) (sym c.poll.ensures.looks) ∙ c.poll.ensures.stop

pub returns-clause-mutator : goal.returns-clause-mutator
returns-clause-mutator g c = λ n is.
    stop-known c.args.self.now.row n c.requires.open.between_calls (returns-clause-stop g c ∙ ap stop_of is) (c.poll.ensures.raised n is)
