-- The next epoch begins with the stopped heap.
use Rattle.std.proofs.Common.{◌≤◌, refl, sym, ◌∙◌, ap, subst, [], map, length, replicate}
use Rattle.ideal_heap.specs.Ideal.{IdealHeap}
use Rattle.object_model.specs.Heaps.{heap_state}
use Rattle.object_model.specs.Graphs.{Represents}
use Rattle.sessions.specs.Collecting.{Remembers}
use Rattle.block_regions.specs.Notes.{AreNotes, FlagsCover}
use Rattle.heap_users.specs.Users.{mutator_state}
use Rattle.heap_users.specs.Beginnings.{MayUse, epoch_of, without_stop}
use Rattle.managed_heap.specs.Worlds.{HasHistory, empty_seat}
use Rattle.managed_heap.specs.declared.stopped_heap.Parts.{Parts}
use Rattle.managed_value.proofs.Stops as stops
use Rattle.managed_value.proofs.managed.ManagedHeap.go_on.Goals as goal

pub begin_seated-world-requires-clause-few : goal.begin_seated-world-requires-clause-few
begin_seated-world-requires-clause-few g c =
    subst (λ (x : Parts). length x.mutators.items ≤ 16) (sym c.into_parts-heap.ensures) c.requires.stopped.order.few

pub begin_seated-world-requires-clause-users : goal.begin_seated-world-requires-clause-users
begin_seated-world-requires-clause-users g c =
    subst (λ (x : Parts). MayUse (heap_state x.heap) (map mutator_state x.mutators.items)) (sym c.into_parts-heap.ensures)
    (stops.stopped-users g.P.Plan.rules c.args.stopped c.requires.stopped)

pub begin_seated-world-requires-clause-remembers : goal.begin_seated-world-requires-clause-remembers
begin_seated-world-requires-clause-remembers g c =
    subst (λ (x : Parts). Remembers g.P.Plan.rules (heap_state x.heap)) (sym c.into_parts-heap.ensures)
    (stops.stopped-remembers g.P.Plan.rules c.args.stopped c.requires.stopped)

pub begin_seated-world-requires-clause-notes : goal.begin_seated-world-requires-clause-notes
begin_seated-world-requires-clause-notes g c =
    subst (λ (x : Parts). AreNotes g.P.Plan.rules.fill (heap_state x.heap) x.notes) (sym c.into_parts-heap.ensures) c.requires.stopped.order.notes

pub begin_seated-world-requires-clause-flags : goal.begin_seated-world-requires-clause-flags
begin_seated-world-requires-clause-flags g c =
    subst (λ (x : Parts). FlagsCover g.P.Plan.rules (heap_state x.heap) x.notes.flags.items) (sym c.into_parts-heap.ensures) c.requires.stopped.order.flags

pub begin_seated-world-requires-clause-seats : goal.begin_seated-world-requires-clause-seats
begin_seated-world-requires-clause-seats g c =
    c.requires.seats ∙ ap (λ (x : Parts). replicate (length x.mutators.items) empty_seat) (sym c.into_parts-heap.ensures)

pub returns-clause-begins : goal.returns-clause-begins
returns-clause-begins g c =
    let q = c.into_parts-heap.ensures in
    let w = c.begin_seated-world.result in
    let begin = c.begin_seated-world.ensures in
    stops.begins-with g.P.Plan.rules c.args.stopped _ w c.requires.stopped c.requires.one c.requires.some refl
    (ap (λ (x : Parts). x.nursery) q) (ap (λ (x : Parts). x.full) q) begin.open
    (begin.mutators ∙ ap (λ (x : Parts). map mutator_state x.mutators.items) q)
    (begin.heap ∙ ap (λ (x : Parts). without_stop (heap_state x.heap)) q)
    (subst (λ (x : Parts). (i : IdealHeap) → Represents (heap_state x.heap) (map mutator_state x.mutators.items) i
    → HasHistory w (epoch_of g.P.Plan.rules (heap_state x.heap) (map mutator_state x.mutators.items)) i []) q begin.begins)
