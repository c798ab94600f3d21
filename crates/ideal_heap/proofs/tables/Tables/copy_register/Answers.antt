use Rattle.ideal_heap.specs.Tables.{tables_heap}
use Rattle.ideal_heap.proofs.CommandLemmas.{move-done}
use Rattle.ideal_heap.proofs.tables.Tables.copy_register.Goals as goal

pub returns-clause-step : goal.returns-clause-step
returns-clause-step c = move-done (tables_heap c.args.self.now) (tables_heap c.set_register.new.self) c.args.mutator c.args.destination c.args.source c.register-value.result c.register-value.ensures c.set_register.ensures.heap
