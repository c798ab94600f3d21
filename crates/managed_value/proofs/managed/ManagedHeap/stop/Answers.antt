-- The world is closed, and the heap stands after its entries.
use Rattle.std.proofs.Common.{◌≡◌, sym, ◌∙◌, ap, subst, List, map}
use Rattle.ideal_heap.specs.Ideal.{IdealHeap}
use Rattle.ideal_heap.specs.Runs.{Entry}
use Rattle.object_model.specs.Heaps.{heap_state}
use Rattle.object_model.specs.Graphs.{numbers_of}
use Rattle.sessions.specs.Plans.{Rules}
use Rattle.sessions.specs.Sessions.{Stopped}
use Rattle.mutator_core.specs.Machine.{Epoch}
use Rattle.block_regions.specs.Notes.{AreNotes, FlagsCover}
use Rattle.heap_users.specs.Users.{mutator_state}
use Rattle.mutator_core.specs.Closing.{GivesBack}
use Rattle.managed_heap.specs.Worlds.{heap_of_world, mutators_of_world, is_generational, HasHistory}
use Rattle.managed_heap.specs.declared.stopped_heap.Parts.{Parts}
use Rattle.managed_value.proofs.Places as places
use Rattle.managed_value.proofs.Stops as stops
use Rattle.managed_value.proofs.managed.ManagedHeap.stop.Goals as goal

pub close_with-heap-requires : goal.close_with-heap-requires
close_with-heap-requires g c = record {
  «open» = places.open-here g.P.Plan.rules c.args.self.now c.in_ok-world.world (sym c.take.ensures.value ∙ c.in_ok-world.was) c.requires.usable;
}

pub returns-clause-ends : goal.returns-clause-ends
returns-clause-ends g c =
    let w = c.in_ok-world.world in
    let q = sym c.from_parts.ensures in
    let close = c.close_with-heap.ensures in
    stops.ends-with g.P.Plan.rules c.args.self.now w c.from_parts.result (sym c.take.ensures.value ∙ c.in_ok-world.was) c.requires.usable
    (ap (λ (x : Parts). x.nursery) c.from_parts.ensures) (ap (λ (x : Parts). x.full) c.from_parts.ensures) (ap (λ (x : Parts). x.workers) c.from_parts.ensures)
    (subst (λ (x : Parts). (p : Epoch) (i : IdealHeap) (part : List Entry) → HasHistory w p i part
    → Stopped p.rules (numbers_of p.mutators) p.before i part (heap_state x.heap) (map mutator_state x.mutators.items)) q close.stopped)
    (subst (λ (x : Parts). map mutator_state x.mutators.items ≡ mutators_of_world w) q close.mutators)
    (subst (λ (x : Parts). (p : Epoch) (i : IdealHeap) (part : List Entry) → HasHistory w p i part → AreNotes p.rules.fill (heap_state x.heap) x.notes) q close.notes)
    (subst (λ (x : Parts). (y : Rules) → y.young ≡ is_generational w → FlagsCover y (heap_state x.heap) x.notes.flags.items) q close.flags)
    (subst (λ (x : Parts). GivesBack (heap_of_world w) (heap_state x.heap)) q close.gives)
