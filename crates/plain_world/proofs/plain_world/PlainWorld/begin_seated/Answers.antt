use Rattle.std.proofs.Common.{refl, ◌∙◌, ap, List, map, length, bit_and, ◌==◌}
use Rattle.std.specs.Prelude.{slice_get, slice_set}
use Rattle.object_model.specs.Heaps.{heap_state}
use Rattle.object_model.specs.Objects.{state_of, with_words}
use Rattle.sessions.specs.Grants.{allowance_in}
use Rattle.plan_api.specs.Counting.{session_counts}
use Rattle.local_allocators.specs.declared.local_seat.LocalSeat.{LocalSeat}
use Rattle.heap_users.specs.Users.{mutator_state}
use Rattle.local_allocators.specs.Seats.{ticket_of}
use Rattle.heap_users.specs.Beginnings.{without_stop}
use Rattle.plain_world.proofs.Begun as begun
use Rattle.plain_world.proofs.Begun.{young-flag, no-ticket}
use Rattle.plain_world.proofs.plain_world.PlainWorld.begin_seated.Goals as goal

pub returns-clause-open : goal.returns-clause-open
returns-clause-open g c = record {
  between_calls = begun.idle-begun g.P.Plan.rules (heap_state c.args.heap) (map mutator_state c.args.mutators.items) _ (record {
    heap = ap (with_words (state_of c.into_row-row.result)) (c.set-2.ensures.words ∙ ap (λ ws. slice_set ws 1 0) c.set.ensures.words) ∙ ap without_stop c.into_row-row.ensures.state;
    mutators = refl;
    seats = c.requires.seats;
    known = c.args.notes;
    are = c.requires.notes;
    cover = c.requires.flags;
    notes = refl;
    owned = refl;
    counts = refl;
    flags = refl;
    fill = c.alloc_kind.ensures;
    young = c.contains.ensures tt ∙ ap (λ f. bit_and f.0 2 == 2) c.FLAGS.ensures ∙ ap (λ n. bit_and n 2 == 2) g.met.P.Plan.flags_are_of_rules ∙ young-flag g.P.Plan.rules;
    allowance = c.allowance.ensures ∙ ap (λ r. allowance_in r (session_counts c.args.notes.counts)) c.reserve.ensures
        ∙ ap (allowance_in g.P.Plan.rules.reserve) c.requires.notes.counts;
  })
      c.args.heap.lawful c.requires.users g.met.P.Plan.fill_has_holes c.requires.remembers c.requires.few;
  fill = c.alloc_kind.ensures;
  young = c.contains.ensures tt ∙ ap (λ f. bit_and f.0 2 == 2) c.FLAGS.ensures ∙ ap (λ n. bit_and n 2 == 2) g.met.P.Plan.flags_are_of_rules ∙ young-flag g.P.Plan.rules;
}

pub returns-clause-plan : goal.returns-clause-plan
returns-clause-plan g c = c.contains.ensures tt ∙ ap (λ f. bit_and f.0 2 == 2) c.FLAGS.ensures ∙ ap (λ n. bit_and n 2 == 2) g.met.P.Plan.flags_are_of_rules
    ∙ young-flag g.P.Plan.rules

pub returns-clause-tickets : goal.returns-clause-tickets
returns-clause-tickets g c = λ k. ap (λ (xs : List LocalSeat). ticket_of (slice_get xs k)) c.requires.seats ∙ no-ticket (length c.args.mutators.items) k

pub returns-clause-begins : goal.returns-clause-begins
returns-clause-begins g c = begun.after-begun g.P.Plan.rules (heap_state c.args.heap) (map mutator_state c.args.mutators.items) _ (record {
  heap = ap (with_words (state_of c.into_row-row.result)) (c.set-2.ensures.words ∙ ap (λ ws. slice_set ws 1 0) c.set.ensures.words) ∙ ap without_stop c.into_row-row.ensures.state;
  mutators = refl;
  seats = c.requires.seats;
  known = c.args.notes;
  are = c.requires.notes;
  cover = c.requires.flags;
  notes = refl;
  owned = refl;
  counts = refl;
  flags = refl;
  fill = c.alloc_kind.ensures;
  young = c.contains.ensures tt ∙ ap (λ f. bit_and f.0 2 == 2) c.FLAGS.ensures ∙ ap (λ n. bit_and n 2 == 2) g.met.P.Plan.flags_are_of_rules ∙ young-flag g.P.Plan.rules;
  allowance = c.allowance.ensures ∙ ap (λ r. allowance_in r (session_counts c.args.notes.counts)) c.reserve.ensures
      ∙ ap (allowance_in g.P.Plan.rules.reserve) c.requires.notes.counts;
})
    c.args.heap.lawful c.requires.users g.met.P.Plan.fill_has_holes c.requires.remembers c.requires.few
