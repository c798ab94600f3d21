use Rattle.ideal_heap.specs.Tables.{tables_heap}
use Rattle.ideal_heap.proofs.CommandLemmas.{load-done}
use Rattle.ideal_heap.proofs.tables.Tables.load.Goals as goal

pub returns-clause-step : goal.returns-clause-step
returns-clause-step c = load-done (tables_heap c.args.self.now) (tables_heap c.set_register.new.self) c.args.mutator c.args.destination c.args.global c.global-value.result c.reply_of_global.result c.global-value.ensures c.reply_of_global.ensures c.set_register.ensures.heap
