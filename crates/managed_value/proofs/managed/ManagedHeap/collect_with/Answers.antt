-- A full collection between two epochs.
use Rattle.std.proofs.Common.{◌≡◌, ◌+◌, ◌<◌, sym, ◌∙◌, ap, ℕ, inl, inr, arith, replicate}
use Rattle.std.proofs.lemmas.Result.{err_from_is_err_and}
use Rattle.object_model.specs.Heaps.{heap_state}
use Rattle.managed_heap.proofs.EpochLaws.{remembers}
use Rattle.managed_value.specs.Histories.{collections_made}
use Rattle.managed_value.specs.declared.managed.ManagedHeap.{ManagedHeap}
use Rattle.managed_heap.specs.Worlds.{empty_seat}
use Rattle.managed_value.proofs.Searched.{as-before-still}
use Rattle.managed_value.proofs.Served as served
use Rattle.managed_value.proofs.managed.ManagedHeap.collect_with.Goals as goal

pub collect-requires-clause-offered : goal.collect-requires-clause-offered
collect-requires-clause-offered g c κs within =
    c.requires.plan.full (heap_state c.in-Some.stopped.heap) (remembers g.P.Plan.rules c.in-Some.stopped c.in-Some.ensures.ends.stopped)

pub collect-requires-clause-stopped : goal.collect-requires-clause-stopped
collect-requires-clause-stopped g c κs within = c.in-Some.ensures.ends.stopped

pub collect-requires-clause-collections : goal.collect-requires-clause-collections
collect-requires-clause-collections g c κs within =
    let few : collections_made c.args.self.now + 1 < 1099511627776 = c.requires.collections in
    let nursery : c.in-Some.stopped.nursery ≡ c.args.self.now.nursery = c.in-Some.ensures.ends.nursery in
    let full : c.in-Some.stopped.full ≡ c.args.self.now.full = c.in-Some.ensures.ends.full in
    omega arith

pub go_on-requires-clause-lost : goal.go_on-requires-clause-lost
go_on-requires-clause-lost g c = ap (λ (h : ManagedHeap g.row.P.Denot). h.world) c.stop.ensures.lost

pub go_on-requires-clause-stopped : goal.go_on-requires-clause-stopped
go_on-requires-clause-stopped g c = c.in_ok-stopped.ensures.stopped

pub go_on-requires-clause-one : goal.go_on-requires-clause-one
go_on-requires-clause-one g c = c.in_ok-stopped.ensures.collected.workers ∙ c.in-Some.ensures.ends.workers

pub go_on-requires-clause-some : goal.go_on-requires-clause-some
go_on-requires-clause-some g c =
    served.some-collected g.P.Plan.rules c.args.self.now c.in-Some.stopped c.in_ok-stopped.stopped c.in_ok-stopped.note c.requires.usable c.in-Some.ensures.ends
    c.in_ok-stopped.ensures.collected

pub go_on-requires-clause-seats : goal.go_on-requires-clause-seats
go_on-requires-clause-seats g c =
    c.in_ok-seats.ensures ∙ ap (λ (n : ℕ). replicate n empty_seat)
    (sym (served.as-many-collected g.P.Plan.rules c.args.self.now c.in-Some.stopped c.in_ok-stopped.stopped c.in_ok-stopped.note c.in-Some.ensures.ends c.in_ok-stopped.ensures.collected))

pub returns-in_err-seats-clause-made : goal.returns-in_err-seats-clause-made
returns-in_err-seats-clause-made g c =
    let p = err_from_is_err_and c.from_residual.result c.from_residual.ensures.1 in
    rw (p.1) (inl (as-before-still g.P.Plan.rules c.args.self.now c.requires.usable))

pub returns-in_default-clause-made : goal.returns-in_default-clause-made
returns-in_default-clause-made g c = absurd (c.stop.ensures.some c.in_default.is)

pub returns-in_err-stopped-clause-made : goal.returns-in_err-stopped-clause-made
returns-in_err-stopped-clause-made g c =
    let p = err_from_is_err_and c.from_residual-in_err-stopped.result c.from_residual-in_err-stopped.ensures.1 in
    rw (p.1) (inr (ap (λ (h : ManagedHeap g.row.P.Denot). h.world) c.stop.ensures.lost))

pub returns-clause-made : goal.returns-clause-made
returns-clause-made g c =
    served.collects-all g.P.Plan.rules c.args.self.now c.go_on.new.self c.in-Some.stopped c.in_ok-stopped.stopped c.in-Some.ensures.ends c.go_on.ensures.begins
    c.in_ok-stopped.note c.in_ok-stopped.ensures.collected c.in_ok-stopped.ensures.makes c.go_on.ensures.used

pub returns-clause-stop : goal.returns-clause-stop
returns-clause-stop g c =
    served.collects-at-stop g.P.Plan.rules c.args.self.now c.go_on.new.self c.in-Some.stopped c.in_ok-stopped.stopped c.in-Some.ensures.ends c.go_on.ensures.begins
    c.in_ok-stopped.note c.in_ok-stopped.ensures.collected c.in_ok-stopped.ensures.makes c.go_on.ensures.used
