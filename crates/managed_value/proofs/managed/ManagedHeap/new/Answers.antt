-- A heap that begins has no entry.
use Rattle.std.proofs.Common.{◌≡◌, ◌≤◌, sym, ◌∙◌, ap, subst, ℕ, replicate}
use Rattle.std.specs.Prelude.{Result, IfOk}
use Rattle.heap_layout.specs.declared.layout.Layout.{Layout}
use Rattle.heap_layout.specs.declared.layout.LayoutFault.{LayoutFault}
use Rattle.object_model.specs.Objects.{empty_heap}
use Rattle.heap_users.specs.Beginnings.{without_stop}
use Rattle.managed_heap.specs.Worlds.{empty_seat}
use Rattle.managed_value.proofs.FirstEntries as first
use Rattle.managed_value.proofs.managed.ManagedHeap.new.Goals as goal

pub go_on-requires-clause-one : goal.go_on-requires-clause-one
go_on-requires-clause-one g c = first.first-worker g.P.Plan.rules c.in_ok-stopped.stopped c.unwrap-layout.result.blocks c.args.mutators c.in_ok-stopped.ensures.stands

pub go_on-requires-clause-some : goal.go_on-requires-clause-some
go_on-requires-clause-some g c = subst (λ (n : ℕ). 1 ≤ n) (sym c.in_ok-stopped.ensures.mutators) c.requires.some

pub go_on-requires-clause-seats : goal.go_on-requires-clause-seats
go_on-requires-clause-seats g c = c.in_ok-seats.ensures ∙ ap (λ (n : ℕ). replicate n empty_seat) (sym c.in_ok-stopped.ensures.mutators)

pub returns-clause-usable : goal.returns-clause-usable
returns-clause-usable g c = c.go_on.ensures.begins.usable

pub returns-clause-places : goal.returns-clause-places
returns-clause-places g c = c.go_on.ensures.begins.places ∙ c.in_ok-stopped.ensures.mutators

pub returns-clause-births : goal.returns-clause-births
returns-clause-births g c = first.first-births g.P.Plan.rules c.in_ok-stopped.stopped c.go_on.new.self c.unwrap-layout.result.blocks c.args.mutators c.go_on.ensures.begins c.in_ok-stopped.ensures.stands

pub returns-clause-entries : goal.returns-clause-entries
returns-clause-entries g c = first.first-entries g.P.Plan.rules c.in_ok-stopped.stopped c.go_on.new.self c.unwrap-layout.result.blocks c.args.mutators c.go_on.ensures.begins c.in_ok-stopped.ensures.stands

pub returns-clause-collections : goal.returns-clause-collections
returns-clause-collections g c = first.first-counts g.P.Plan.rules c.in_ok-stopped.stopped c.go_on.new.self c.unwrap-layout.result.blocks c.args.mutators c.go_on.ensures.begins c.in_ok-stopped.ensures.stands

pub returns-clause-empty : goal.returns-clause-empty
returns-clause-empty g c = λ w here.
    let same : c.unwrap-layout.result.blocks ≡ c.args.blocks = subst (λ (r : Result Layout LayoutFault). IfOk r (λ l. l.blocks ≡ c.args.blocks)) c.unwrap-layout.ensures c.new.ensures.blocks in
    first.first-empty g.P.Plan.rules c.in_ok-stopped.stopped c.go_on.new.self c.unwrap-layout.result.blocks c.args.mutators c.go_on.ensures.begins c.in_ok-stopped.ensures.stands w here
    ∙ ap (λ n. without_stop (empty_heap n)) same
