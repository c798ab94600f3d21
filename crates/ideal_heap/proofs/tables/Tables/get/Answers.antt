use Rattle.std.proofs.Common.{sym, ◌∙◌}
use Rattle.ideal_heap.specs.Tables.{tables_heap}
use Rattle.ideal_heap.proofs.CommandLemmas.{below-from, past-from, get-null, get-past, get-done}
use Rattle.ideal_heap.proofs.tables.Tables.get.Goals as goal

pub returns-in_default-clause-step : goal.returns-in_default-clause-step
returns-in_default-clause-step c = get-null (tables_heap c.args.self.now) c.args.mutator c.args.destination c.args.register c.args.index (sym c.register.ensures ∙ c.in_default.is)

pub returns-in_default-get-clause-step : goal.returns-in_default-get-clause-step
returns-in_default-get-clause-step c = get-past (tables_heap c.args.self.now) c.args.mutator c.args.destination c.args.register c.args.index c.in-Some.name c.refs.result.now (sym c.register.ensures ∙ c.in-Some.is) c.refs.ensures (past-from c.args.index _ c.in_default-get.ensures.lookup.0)

pub returns-clause-step : goal.returns-clause-step
returns-clause-step c = get-done (tables_heap c.args.self.now) (tables_heap c.set_register.new.self) c.args.mutator c.args.destination c.args.register c.args.index c.in-Some.name c.refs.result.now c.in-Some-get.field-0.now c.reply_of_global.result
    (sym c.register.ensures ∙ c.in-Some.is) c.refs.ensures (below-from c.args.index _ c.in-Some-get.ensures.lookup.0) c.in-Some-get.ensures.lookup.1 c.reply_of_global.ensures c.set_register.ensures.heap
