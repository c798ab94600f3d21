use Rattle.ideal_heap.specs.Tables.{tables_heap}
use Rattle.ideal_heap.proofs.CommandLemmas.{share-done}
use Rattle.ideal_heap.proofs.tables.Tables.share.Goals as goal

pub returns-clause-step : goal.returns-clause-step
returns-clause-step c = share-done (tables_heap c.args.self.now) (tables_heap c.set_global.new.self) c.args.mutator c.args.global c.args.source c.register-value.result c.register-value.ensures c.set_global.ensures.heap
