-- The parts stand as the epoch begins.
use Rattle.std.proofs.Common.{◌<◌, ◌≤◌, sym, ◌∙◌, ap, subst, arith, map, length}
use Rattle.object_model.specs.Heaps.{heap_state}
use Rattle.object_model.specs.Graphs.{numbers_of}
use Rattle.sessions.specs.Plans.{Rules}
use Rattle.sessions.specs.Sessions.{ideal_at}
use Rattle.sessions.specs.Collecting.{Remembers}
use Rattle.object_model.specs.Objects.{HeapState}
use Rattle.block_regions.specs.Notes.{AreNotes}
use Rattle.heap_users.specs.Beginnings.{MayUse, epoch_of}
use Rattle.heap_users.specs.Users.{mutator_state}
use Rattle.managed_heap.specs.declared.stopped_heap.Parts.{Parts}
use Rattle.managed_heap.proofs.Worlds.{may-use}
use Rattle.mm_runtime.proofs.ManagersStand as standing
use Rattle.mm_runtime.proofs.SeatsOpened.{opens}
use Rattle.mm_runtime.proofs.manager.Manager.open_epoch.Goals as goal

pub begin_with-requires-clause-some : goal.begin_with-requires-clause-some
begin_with-requires-clause-some g c =
    let order = c.requires.ready.order in
    subst (λ (q : Parts). 0 < length q.mutators.items) (sym c.into_parts-parts.ensures) (let some = order.some in let many = order.count in omega arith)

pub begin_with-requires-clause-few : goal.begin_with-requires-clause-few
begin_with-requires-clause-few g c =
    subst (λ (q : Parts). length q.mutators.items ≤ 16) (sym c.into_parts-parts.ensures) c.requires.ready.order.heap.few

pub begin_with-requires-clause-users : goal.begin_with-requires-clause-users
begin_with-requires-clause-users g c =
    let ready = c.requires.ready in
    subst (λ (q : Parts). MayUse (heap_state q.heap) (map mutator_state q.mutators.items)) (sym c.into_parts-parts.ensures)
    (may-use (heap_state c.args.self.heap.heap) (map mutator_state c.args.self.heap.mutators.items) (ideal_at ready.now)
    (standing.stands-represents g.P.Plan.rules c.args.self ready.setting ready.now ready.closes.stands))

pub begin_with-requires-clause-remembers : goal.begin_with-requires-clause-remembers
begin_with-requires-clause-remembers g c =
    let stands = c.requires.ready.closes.stands in
    subst (λ (q : Parts). Remembers g.P.Plan.rules (heap_state q.heap)) (sym c.into_parts-parts.ensures)
    (subst (λ (s : HeapState). Remembers g.P.Plan.rules s) (sym stands.heap.heap)
    (subst (λ (x : Rules). Remembers x c.requires.ready.now.heap) stands.heap.rules_are stands.heap.sound.remembers))

pub begin_with-requires-clause-notes : goal.begin_with-requires-clause-notes
begin_with-requires-clause-notes g c =
    subst (λ (q : Parts). AreNotes g.P.Plan.rules.fill (heap_state q.heap) q.notes) (sym c.into_parts-parts.ensures) c.requires.ready.order.heap.notes

pub returns-clause-epoch : goal.returns-clause-epoch
returns-clause-epoch g c =
    let ready = c.requires.ready in
    let begin = c.in_ok-world.ensures in
    let parts = c.in_ok-parts.ensures in
    let same = c.into_parts-parts.ensures in
    opens g.P.Plan.rules c.args.self _ c.in_ok-parts.parts.items c.in_ok-world.seats.items ready.order
    (record {
      epoch = begin.epoch ∙ ap (λ (q : Parts). epoch_of g.P.Plan.rules (heap_state q.heap) (map mutator_state q.mutators.items)) same;
      notes = ap (λ (q : Parts). q.notes) same;
      nursery = ap (λ (q : Parts). q.nursery) same;
      full = ap (λ (q : Parts). q.full) same;
      workers = ap (λ (q : Parts). q.workers) same;
    })
    (length ready.setting.traces) (standing.stands-listed g.P.Plan.rules c.args.self ready.setting ready.now ready.closes.stands) begin.seats begin.fresh
    (begin.numbers ∙ ap (λ (q : Parts). numbers_of (map mutator_state q.mutators.items)) same)
    (begin.mutators ∙ ap (λ (q : Parts). map mutator_state q.mutators.items) same) parts.traces parts.seats parts.numbers parts.fresh
