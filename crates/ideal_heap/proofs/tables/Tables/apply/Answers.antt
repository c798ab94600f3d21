use Rattle.std.proofs.Common.{ap, sym, ◌∙◌, inl, inr}
use Rattle.ideal_heap.specs.Ideal.{step}
use Rattle.ideal_heap.specs.Tables.{tables_heap}
use Rattle.ideal_heap.proofs.CommandLemmas.{new-done, gc-done, meet-done}
use Rattle.ideal_heap.proofs.tables.Tables.apply.Goals as goal

pub returns-in_ok-create-in-New-clause-step : goal.returns-in_ok-create-in-New-clause-step
returns-in_ok-create-in-New-clause-step c =
    new-done (tables_heap c.args.self.now) (tables_heap c.create.new.self) c.args.mutator c.in-New.d c.in-New.refs c.in-New.nums c.in_ok-create-in-New.field-0
    c.in_ok-create-in-New.ensures.heap.0 c.in_ok-create-in-New.ensures.heap.1
    ∙ ap (λ x. step (tables_heap c.args.self.now) c.args.mutator x) (sym c.in-New.is)

pub returns-in-Gc-clause-step : goal.returns-in-Gc-clause-step
returns-in-Gc-clause-step c = elim c.in-Gc.is [
  | inl gc ↦ gc-done (tables_heap c.args.self.now) c.args.mutator ∙ ap (λ x. step (tables_heap c.args.self.now) c.args.mutator x) (sym gc)
  | inr meet ↦ meet-done (tables_heap c.args.self.now) c.args.mutator ∙ ap (λ x. step (tables_heap c.args.self.now) c.args.mutator x) (sym meet)
]
