-- An epoch, from the facts of its world.
use Rattle.std.proofs.Common.{◌≡◌, ◌≤◌, sym, ◌∙◌, ap, subst, List, [], map, length}
use Rattle.ideal_heap.specs.Ideal.{IdealHeap}
use Rattle.ideal_heap.specs.Runs.{Entry}
use Rattle.object_model.specs.Heaps.{heap_state}
use Rattle.object_model.specs.Objects.{HeapState}
use Rattle.object_model.specs.Graphs.{Represents, numbers_of}
use Rattle.sessions.specs.Collecting.{Remembers}
use Rattle.sessions.specs.Sessions.{Stopped, ideal_at}
use Rattle.mutator_core.specs.Machine.{Epoch}
use Rattle.mutator_core.specs.Closing.{GivesBack}
use Rattle.heap_users.specs.Beginnings.{MayUse, epoch_of}
use Rattle.block_regions.specs.Notes.{AreNotes, FlagsCover}
use Rattle.managed_heap.specs.Worlds.{heap_of_world, mutators_of_world, is_generational, HasHistory, GrantsWithTickets}
use Rattle.managed_heap.specs.declared.stopped_heap.Parts.{Parts}
use Rattle.heap_users.specs.Users.{mutator_state}
use Rattle.managed_heap.proofs.Worlds.{may-use}
use Rattle.sessions.specs.Plans.{Rules}
use Rattle.mm_runtime.specs.declared.progress.PartEnd.{PartEnd}
use Rattle.mm_runtime.specs.declared.progress.PartEnd.TheVariants as end
use Rattle.mm_runtime.specs.declared.manager.Manager.{Manager}
use Rattle.mm_runtime.proofs.ManagersStand as standing
use Rattle.mm_runtime.proofs.ManagersStand.{RunsEpoch}
use Rattle.mm_runtime.proofs.EpochParts as parts
use Rattle.mm_runtime.proofs.manager.Manager.run_epoch.Goals as goal

pub begin_with-requires-clause-few : goal.begin_with-requires-clause-few
begin_with-requires-clause-few g c =
    subst (λ (q : Parts). length q.mutators.items ≤ 16) (sym c.into_parts-parts.ensures) c.requires.ready.order.heap.few

pub begin_with-requires-clause-users : goal.begin_with-requires-clause-users
begin_with-requires-clause-users g c =
    let ready = c.requires.ready in
    subst (λ (q : Parts). MayUse (heap_state q.heap) (map mutator_state q.mutators.items)) (sym c.into_parts-parts.ensures)
    (may-use (heap_state c.args.self.heap.heap) (map mutator_state c.args.self.heap.mutators.items) (ideal_at ready.now)
    (standing.stands-represents g.P.Plan.rules c.args.self ready.setting ready.now ready.closes.stands))

pub begin_with-requires-clause-remembers : goal.begin_with-requires-clause-remembers
begin_with-requires-clause-remembers g c =
    let stands = c.requires.ready.closes.stands in
    subst (λ (q : Parts). Remembers g.P.Plan.rules (heap_state q.heap)) (sym c.into_parts-parts.ensures)
    (subst (λ (s : HeapState). Remembers g.P.Plan.rules s) (sym stands.heap.heap)
    (subst (λ (x : Rules). Remembers x c.requires.ready.now.heap) stands.heap.rules_are stands.heap.sound.remembers))

pub begin_with-requires-clause-notes : goal.begin_with-requires-clause-notes
begin_with-requires-clause-notes g c =
    subst (λ (q : Parts). AreNotes g.P.Plan.rules.fill (heap_state q.heap) q.notes) (sym c.into_parts-parts.ensures) c.requires.ready.order.heap.notes

pub begin_with-requires-clause-flags : goal.begin_with-requires-clause-flags
begin_with-requires-clause-flags g c =
    subst (λ (q : Parts). FlagsCover g.P.Plan.rules (heap_state q.heap) q.notes.flags.items) (sym c.into_parts-parts.ensures) c.requires.ready.order.heap.flags

pub run_parts-requires-clause-numbers : goal.run_parts-requires-clause-numbers
run_parts-requires-clause-numbers g c κs within =
    let ready = c.requires.ready in
    standing.numbers-listed c.in_ok-world.world (length ready.setting.traces)
    (ap numbers_of (c.in_ok-world.ensures.mutators ∙ ap (λ (q : Parts). map mutator_state q.mutators.items) c.into_parts-parts.ensures)
    ∙ standing.stands-listed g.P.Plan.rules c.args.self ready.setting ready.now ready.closes.stands)

pub run_parts-requires-clause-births : goal.run_parts-requires-clause-births
run_parts-requires-clause-births g c κs within = λ k p is.
    standing.births-within c.in_ok-world.world.row.mutators.items c.args.self.heap.mutators.items k (length p.replies.items)
    (c.in_ok-world.ensures.mutators ∙ ap (λ (q : Parts). map mutator_state q.mutators.items) c.into_parts-parts.ensures)
    (λ u there. c.requires.ready.order.births k u p there is)

pub returns : goal.returns
returns g c =
    let rules : Rules = g.P.Plan.rules in
    let old : Manager g.row.P.Denot = c.args.self in
    let new : Manager g.row.P.Denot = record { alloc = c.args.self.alloc; heap = c.from_parts-heap.result; progress = c.run_parts.new.progress; pace = c.args.self.pace } in
    let ends : List PartEnd = c.in_ok-ends.ends.items in
    let begin = c.in_ok-world.ensures in
    let close = c.close_with-heap.ensures in
    let last = c.run_parts.new.world in
    let ready = c.requires.ready in
    let parts_are = sym c.from_parts-heap.ensures in
    let ran : RunsEpoch rules old new ends = record {
      first = c.in_ok-world.world;
      last = last;
      count = c.in_ok-ends.ensures.places.count ∙ begin.places ∙ ap (λ (q : Parts). length q.mutators.items) c.into_parts-parts.ensures ∙ ready.order.count;
      begins = subst (λ (q : Parts). (i : IdealHeap) → Represents (heap_state q.heap) (map mutator_state q.mutators.items) i
          → HasHistory c.in_ok-world.world (epoch_of rules (heap_state q.heap) (map mutator_state q.mutators.items)) i []) c.into_parts-parts.ensures begin.begins;
      runs = c.in_ok-ends.ensures;
      stopped = subst (λ (q : Parts). (p : Epoch) (i : IdealHeap) (part : List Entry) → HasHistory last p i part
          → Stopped p.rules (numbers_of p.mutators) p.before i part (heap_state q.heap) (map mutator_state q.mutators.items)) parts_are close.stopped;
      mutators = subst (λ (q : Parts). map mutator_state q.mutators.items ≡ mutators_of_world last) parts_are close.mutators;
      gives = subst (λ (q : Parts). GivesBack (heap_of_world last) (heap_state q.heap)) parts_are close.gives;
      drawn = close.drawn;
      tickets = subst (λ (q : Parts). (p : Epoch) (i : IdealHeap) (part : List Entry) → HasHistory last p i part → GrantsWithTickets p last (heap_state q.heap)) parts_are close.tickets;
      notes = subst (λ (q : Parts). (p : Epoch) (i : IdealHeap) (part : List Entry) → HasHistory last p i part → AreNotes p.rules.fill (heap_state q.heap) q.notes) parts_are close.notes;
      flags = subst (λ (q : Parts). (x : Rules) → x.young ≡ is_generational last → FlagsCover x (heap_state q.heap) q.notes.flags.items) parts_are close.flags;
      nursery = ap (λ (q : Parts). q.nursery) c.from_parts-heap.ensures ∙ ap (λ (q : Parts). q.nursery) c.into_parts-parts.ensures;
      full = ap (λ (q : Parts). q.full) c.from_parts-heap.ensures ∙ ap (λ (q : Parts). q.full) c.into_parts-parts.ensures;
      workers = ap (λ (q : Parts). q.workers) c.from_parts-heap.ensures ∙ ap (λ (q : Parts). q.workers) c.into_parts-parts.ensures;
    } in record {
      order = parts.in-order rules old new ends ran ready.setting ready.now ready.closes.stands ready.order;
      part = λ t now closes. (parts.stop rules old new ends ran t now closes.stands, parts.runs-part rules old new ends ran t now closes.stands, parts.stands-after rules old new ends ran t now closes.stands);
      count = ran.runs.ended ∙ sym ran.runs.count;
      gcs = λ k q is at. ran.runs.causes k q end.Gc is at;
      needs = λ k q need is at. (ran.runs.causes k q (end.Need need) is at).0;
      replied = standing.replied-more rules old new ends ran;
    }
