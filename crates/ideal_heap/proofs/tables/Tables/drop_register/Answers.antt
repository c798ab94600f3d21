use Rattle.ideal_heap.specs.Tables.{tables_heap}
use Rattle.ideal_heap.proofs.CommandLemmas.{drop-done}
use Rattle.ideal_heap.proofs.tables.Tables.drop_register.Goals as goal

pub returns-clause-step : goal.returns-clause-step
returns-clause-step c = drop-done (tables_heap c.args.self.now) (tables_heap c.set_register.new.self) c.args.mutator c.args.register c.set_register.ensures.heap
