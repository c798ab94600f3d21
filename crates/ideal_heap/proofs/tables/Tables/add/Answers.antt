use Rattle.std.proofs.Common.{sym, ◌∙◌, refl}
use Rattle.ideal_heap.specs.Tables.{tables_heap}
use Rattle.ideal_heap.proofs.CommandLemmas.{below-from, past-from, add-null, add-past, add-done}
use Rattle.ideal_heap.proofs.tables.Tables.add.Goals as goal

pub returns-in_default-clause-step : goal.returns-in_default-clause-step
returns-in_default-clause-step c = add-null (tables_heap c.args.self.now) c.args.mutator c.args.register c.args.index c.args.number (sym c.register.ensures ∙ c.in_default.is)

pub returns-in_default-get-clause-step : goal.returns-in_default-get-clause-step
returns-in_default-get-clause-step c = add-past (tables_heap c.args.self.now) c.args.mutator c.args.register c.args.index c.args.number c.in-Some.name c.nums.result.now (sym c.register.ensures ∙ c.in-Some.is) c.nums.ensures (past-from c.args.index _ c.in_default-get.ensures.lookup.0)

pub returns-clause-step : goal.returns-clause-step
returns-clause-step c = add-done (tables_heap c.args.self.now) (tables_heap c.set_number.new.self) c.args.mutator c.args.register c.args.index c.args.number c.in-Some.name c.nums.result.now c.in-Some-get.field-0.now _
    (sym c.register.ensures ∙ c.in-Some.is) c.nums.ensures (below-from c.args.index _ c.in-Some-get.ensures.lookup.0) c.in-Some-get.ensures.lookup.1 refl c.set_number.ensures.heap
