-- A need is served between two epochs.
use Rattle.std.proofs.Common.{refl, ◌≡◌, ◌+◌, ◌<◌, ◌≤◌, sym, ◌∙◌, ap, ℕ, inl, inr, arith, replicate}
use Rattle.std.proofs.lemmas.Result.{err_from_is_err_and}
use Rattle.object_model.specs.Objects.{size_of}
use Rattle.managed_value.specs.Histories.{collections_made, mutators_of_heap}
use Rattle.managed_value.specs.Allocations.{kept_by, used_with}
use Rattle.managed_value.specs.declared.managed.ManagedHeap.{ManagedHeap}
use Rattle.managed_heap.specs.Worlds.{empty_seat}
use Rattle.managed_value.proofs.Places as places
use Rattle.managed_value.proofs.Searched.{as-before-still}
use Rattle.managed_value.proofs.Served as served
use Rattle.managed_value.proofs.Stops.{one-worker}
use Rattle.managed_value.proofs.managed.ManagedHeap.serve.Goals as goal

pub overflow_add-m : goal.overflow_add-m
overflow_add-m g c =
    let below : c.args.m < mutators_of_heap c.args.self.now = c.requires.place in
    let few : mutators_of_heap c.args.self.now ≤ 16 = places.few-there g.P.Plan.rules c.args.self.now c.requires.usable in
    omega arith

pub place_or_collect-requires-clause-stopped : goal.place_or_collect-requires-clause-stopped
place_or_collect-requires-clause-stopped g c κs within = c.in-Some.ensures.ends.stopped

pub place_or_collect-requires-clause-may : goal.place_or_collect-requires-clause-may
place_or_collect-requires-clause-may g c κs within =
    served.may-at-stop g.P.Plan.rules c.args.self.now c.in-Some.stopped c.args.m c.args.need c.in-Some.ensures.ends c.requires.place c.requires.may
    (let few : c.args.need.register < 16 = c.requires.register in omega arith) c.requires.refs c.requires.nums

pub place_or_collect-requires-clause-collections : goal.place_or_collect-requires-clause-collections
place_or_collect-requires-clause-collections g c κs within =
    let few : collections_made c.args.self.now + 2 < 1099511627776 = c.requires.may.collections in
    let nursery : c.in-Some.stopped.nursery ≡ c.args.self.now.nursery = c.in-Some.ensures.ends.nursery in
    let full : c.in-Some.stopped.full ≡ c.args.self.now.full = c.in-Some.ensures.ends.full in
    omega arith

pub go_on-requires-clause-lost : goal.go_on-requires-clause-lost
go_on-requires-clause-lost g c = ap (λ (h : ManagedHeap g.row.P.Denot). h.world) c.stop.ensures.lost

pub go_on-requires-clause-stopped : goal.go_on-requires-clause-stopped
go_on-requires-clause-stopped g c = c.in_ok-stopped.ensures.stopped

pub go_on-requires-clause-one : goal.go_on-requires-clause-one
go_on-requires-clause-one g c =
    one-worker g.P.Plan.rules c.in-Some.stopped c.in_ok-stopped.stopped c.in-Some.ensures.ends.stopped c.in-Some.ensures.ends.workers
    (λ t now stands. let k = c.in_ok-stopped.ensures.serves t now stands in (k.0, k.3))

pub go_on-requires-clause-some : goal.go_on-requires-clause-some
go_on-requires-clause-some g c =
    served.some-served g.P.Plan.rules c.args.self.now c.in-Some.stopped c.in_ok-stopped.stopped (c.args.m + 1) _ c.requires.usable c.in-Some.ensures.ends
    c.in_ok-stopped.ensures.births

pub go_on-requires-clause-seats : goal.go_on-requires-clause-seats
go_on-requires-clause-seats g c =
    c.in_ok-seats.ensures ∙ ap (λ (n : ℕ). replicate n empty_seat)
    (sym (served.as-many-served g.P.Plan.rules c.args.self.now c.in-Some.stopped c.in_ok-stopped.stopped (c.args.m + 1) _ c.in-Some.ensures.ends c.in_ok-stopped.ensures.births))

pub returns-in_err-seats-clause-made : goal.returns-in_err-seats-clause-made
returns-in_err-seats-clause-made g c =
    let p = err_from_is_err_and c.from_residual.result c.from_residual.ensures.1 in
    rw (p.1) (inl (as-before-still g.P.Plan.rules c.args.self.now c.requires.usable))

pub returns-in_default-clause-made : goal.returns-in_default-clause-made
returns-in_default-clause-made g c = absurd (c.stop.ensures.some c.in_default.is)

pub returns-in_err-stopped-clause-made : goal.returns-in_err-stopped-clause-made
returns-in_err-stopped-clause-made g c =
    let p = err_from_is_err_and c.from_residual-in_err-stopped.result c.from_residual-in_err-stopped.ensures.1 in
    rw (p.1) (inr (record {
      before = c.in-Some.stopped;
      ends = c.in-Some.ensures.ends;
      room = c.in_err-stopped.ensures.lost;
      lost = ap (λ (h : ManagedHeap g.row.P.Denot). h.world) c.stop.ensures.lost;
    }))

pub returns-clause-made : goal.returns-clause-made
returns-clause-made g c =
    let what = c.in_ok-stopped.placed in
    let wanted : ℕ = size_of c.args.need.refs c.args.need.nums in
    served.serves-need g.P.Plan.rules c.args.self.now c.go_on.new.self c.in-Some.stopped c.in_ok-stopped.stopped c.in-Some.ensures.ends c.go_on.ensures.begins
    c.args.m c.args.need c.requires.place c.requires.plan.fill c.in_ok-stopped.ensures.counts c.in_ok-stopped.note (c.in_ok-stopped.ensures.noted refl) what c.in_ok-stopped.ensures.serves c.in_ok-stopped.ensures.births
    c.in_ok-stopped.ensures.refused
    (c.go_on.ensures.used ∙ c.count_words-self.ensures ∙ ap (λ (n : ℕ). used_with what n c.kept_words.result) c.size_words-size.ensures
    ∙ ap (λ (n : ℕ). used_with what wanted n) c.kept_words.ensures
    ∙ ap (λ (h : ManagedHeap g.row.P.Denot). used_with what wanted (kept_by c.in_ok-stopped.note h.words)) c.stop.ensures.lost)

pub returns-clause-stop : goal.returns-clause-stop
returns-clause-stop g c =
    let what = c.in_ok-stopped.placed in
    let wanted : ℕ = size_of c.args.need.refs c.args.need.nums in
    served.serves-at-stop g.P.Plan.rules c.args.self.now c.go_on.new.self c.in-Some.stopped c.in_ok-stopped.stopped c.in-Some.ensures.ends c.go_on.ensures.begins
    c.args.m c.args.need what c.in_ok-stopped.ensures.serves c.in_ok-stopped.note (c.in_ok-stopped.ensures.noted refl)
    (c.go_on.ensures.used ∙ c.count_words-self.ensures ∙ ap (λ (n : ℕ). used_with what n c.kept_words.result) c.size_words-size.ensures
    ∙ ap (λ (n : ℕ). used_with what wanted n) c.kept_words.ensures
    ∙ ap (λ (h : ManagedHeap g.row.P.Denot). used_with what wanted (kept_by c.in_ok-stopped.note h.words)) c.stop.ensures.lost)
