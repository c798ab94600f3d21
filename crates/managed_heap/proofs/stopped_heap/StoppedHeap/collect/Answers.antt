-- The roots are those of a stop, and the collection is counted.
use Rattle.std.proofs.Common.{◌≡◌, refl, sym, ◌∙◌, ap, subst, ℕ, ◌+◌, ◌*◌, ◌<◌, ◌≤◌, arith, List, length, map}
use Rattle.std.specs.Prelude.{vec_capacity}
use Rattle.object_model.specs.Heaps.{heap_state}
use Rattle.object_model.specs.Lawful.{AreRoots}
use Rattle.object_model.specs.Graphs.{roots_of}
use Rattle.sessions.proofs.CollectedMoments.{roots-kept}
use Rattle.sessions.proofs.CountedCollections.{counts-one}
use Rattle.mutator_calls.specs.declared.need.Mutator.{Mutator}
use Rattle.heap_users.specs.Users.{mutator_state}
use Rattle.write_barrier.specs.Listed.{CoverLogged}
use Rattle.block_regions.proofs.BlockFlags.{covers-logged}
use Rattle.managed_heap.proofs.Collected as collected
use Rattle.managed_heap.proofs.RootLists as roots
use Rattle.managed_heap.proofs.stopped_heap.StoppedHeap.collect.Goals as goal

pub collect_flagged-requires-clause-few : goal.collect_flagged-requires-clause-few
collect_flagged-requires-clause-few g c κs within =
    subst (λ (l : List ℕ). length l ≤ 1000000) (sym (c.in_ok-list_registers.ensures ∙ ap (λ (us : List Mutator). roots_of (map mutator_state us)) c.deref.ensures.value)) (roots.roots-few g.P.Plan.rules c.args.self c.requires.stopped)

pub collect_flagged-requires-clause-held : goal.collect_flagged-requires-clause-held
collect_flagged-requires-clause-held g c κs within =
    subst (λ (l : List ℕ). AreRoots (heap_state c.args.self.heap) l) (sym (c.in_ok-list_registers.ensures ∙ ap (λ (us : List Mutator). roots_of (map mutator_state us)) c.deref.ensures.value)) (roots.roots-held g.P.Plan.rules c.args.self c.requires.stopped)

pub collect_flagged-requires-clause-some : goal.collect_flagged-requires-clause-some
collect_flagged-requires-clause-some g c κs within = c.requires.stopped.order.some_worker

pub collect_flagged-requires-clause-most : goal.collect_flagged-requires-clause-most
collect_flagged-requires-clause-most g c κs within = c.requires.stopped.order.few_workers

pub collect_flagged-requires-clause-number : goal.collect_flagged-requires-clause-number
collect_flagged-requires-clause-number g c κs within =
    let few : c.args.self.nursery + c.args.self.full + 1 < 1099511627776 = c.requires.collections in
    let number : (heap_state c.args.self.heap).number ≡ c.args.self.nursery + c.args.self.full = c.requires.stopped.order.number in
    omega arith

pub collect_flagged-requires-clause-flags : goal.collect_flagged-requires-clause-flags
collect_flagged-requires-clause-flags g c κs within = λ young.
    subst (CoverLogged (heap_state c.args.self.heap)) (sym c.deref-2.ensures.value)
    (covers-logged g.P.Plan.rules (heap_state c.args.self.heap) c.args.self.notes.flags.items c.requires.stopped.order.flags young)

pub count_one-nursery-requires : goal.count_one-nursery-requires
count_one-nursery-requires g c =
    let few : c.args.self.nursery + c.args.self.full + 1 < 1099511627776 = c.requires.collections in
    omega arith

pub renew_notes-requires-clause-blocks : goal.renew_notes-requires-clause-blocks
renew_notes-requires-clause-blocks g c =
    c.requires.stopped.order.notes.notes.len
    ∙ sym (counts-one g.P.Plan.rules c.args.self.workers c.args.kind (heap_state c.args.self.heap) (heap_state c.in_ok-after.after.heap) c.list_registers.new.roots.items c.in_ok-after.after.roots.items c.in_ok-after.ensures.collected.0).1

pub renew_notes-requires-clause-flags : goal.renew_notes-requires-clause-flags
renew_notes-requires-clause-flags g c =
    c.requires.stopped.order.flags.len
    ∙ sym (counts-one g.P.Plan.rules c.args.self.workers c.args.kind (heap_state c.args.self.heap) (heap_state c.in_ok-after.after.heap) c.list_registers.new.roots.items c.in_ok-after.after.roots.items c.in_ok-after.ensures.collected.0).1

pub renew_notes-requires-clause-owned : goal.renew_notes-requires-clause-owned
renew_notes-requires-clause-owned g c = c.requires.stopped.order.notes.owned

pub renew_notes-requires-clause-room : goal.renew_notes-requires-clause-room
renew_notes-requires-clause-room g c = subst (λ (n : ℕ). n ≤ vec_capacity c.args.self.notes.owned)
    (sym (counts-one g.P.Plan.rules c.args.self.workers c.args.kind (heap_state c.args.self.heap) (heap_state c.in_ok-after.after.heap) c.list_registers.new.roots.items c.in_ok-after.after.roots.items c.in_ok-after.ensures.collected.0).1)
    c.requires.stopped.order.notes.room

pub set_registers-requires : goal.set_registers-requires
set_registers-requires g c =
    let kept : length c.in_ok-after.after.roots.items ≡ length c.list_registers.new.roots.items =
    roots-kept g.P.Plan.rules c.args.self.workers c.args.kind (heap_state c.args.self.heap) (heap_state c.in_ok-after.after.heap) c.list_registers.new.roots.items c.in_ok-after.after.roots.items c.in_ok-after.ensures.collected.0 in
    let read : length c.list_registers.new.roots.items ≡ length (roots_of (map mutator_state c.args.self.mutators.items)) = ap length (c.in_ok-list_registers.ensures ∙ ap (λ (us : List Mutator). roots_of (map mutator_state us)) c.deref.ensures.value) in
    let many : length (roots_of (map mutator_state c.args.self.mutators.items)) ≡ 16 * length c.args.self.mutators.items = roots.roots-many g.P.Plan.rules c.args.self c.requires.stopped in
    let same : length c.deref-3.result.now ≡ length c.in_ok-after.after.roots.items = ap length c.deref-3.ensures.value in
    omega arith

pub returns-clause-stopped : goal.returns-clause-stopped
returns-clause-stopped g c =
    collected.stopped-made g.P.Plan.rules c.args.kind c.args.self _ c.in_ok-after.after.note
    (collected.has-collected g.P.Plan.rules c.args.kind c.args.self _ c.in_ok-after.after.note c.list_registers.new.roots.items c.in_ok-after.after.roots.items
    (c.in_ok-list_registers.ensures ∙ ap (λ (us : List Mutator). roots_of (map mutator_state us)) c.deref.ensures.value) (sym (c.set_registers.ensures.roots ∙ c.deref-3.ensures.value))
    c.in_ok-after.ensures.collected c.in_ok-after.ensures.blocks c.set_registers.ensures.births c.set_registers.ensures.registers c.count_one-nursery.ensures (collected.known-after g.P.Plan.plan g.P.Plan.rules g.met.P.Plan.rules_are_of_plan c.args.self.workers c.args.kind _ _ _ _ c.in_ok-after.ensures.collected.0 _
    c.renew_notes.ensures.notes c.renew_notes.ensures.flags) refl) c.requires.stopped

pub returns-clause-collected : goal.returns-clause-collected
returns-clause-collected g c =
    collected.has-collected g.P.Plan.rules c.args.kind c.args.self _ c.in_ok-after.after.note c.list_registers.new.roots.items c.in_ok-after.after.roots.items
    (c.in_ok-list_registers.ensures ∙ ap (λ (us : List Mutator). roots_of (map mutator_state us)) c.deref.ensures.value) (sym (c.set_registers.ensures.roots ∙ c.deref-3.ensures.value))
    c.in_ok-after.ensures.collected c.in_ok-after.ensures.blocks c.set_registers.ensures.births c.set_registers.ensures.registers c.count_one-nursery.ensures (collected.known-after g.P.Plan.plan g.P.Plan.rules g.met.P.Plan.rules_are_of_plan c.args.self.workers c.args.kind _ _ _ _ c.in_ok-after.ensures.collected.0 _
    c.renew_notes.ensures.notes c.renew_notes.ensures.flags) refl

pub returns-clause-makes : goal.returns-clause-makes
returns-clause-makes g c =
    collected.makes-from g.P.Plan.rules c.args.kind c.args.self _ c.in_ok-after.after.note
    (collected.has-collected g.P.Plan.rules c.args.kind c.args.self _ c.in_ok-after.after.note c.list_registers.new.roots.items c.in_ok-after.after.roots.items
    (c.in_ok-list_registers.ensures ∙ ap (λ (us : List Mutator). roots_of (map mutator_state us)) c.deref.ensures.value) (sym (c.set_registers.ensures.roots ∙ c.deref-3.ensures.value))
    c.in_ok-after.ensures.collected c.in_ok-after.ensures.blocks c.set_registers.ensures.births c.set_registers.ensures.registers c.count_one-nursery.ensures (collected.known-after g.P.Plan.plan g.P.Plan.rules g.met.P.Plan.rules_are_of_plan c.args.self.workers c.args.kind _ _ _ _ c.in_ok-after.ensures.collected.0 _
    c.renew_notes.ensures.notes c.renew_notes.ensures.flags) refl)
