use Rattle.std.proofs.Common.{ap}
use Rattle.ideal_heap.specs.Names.{name}
use Rattle.ideal_heap.specs.Tables.{tables_heap, record_in}
use Rattle.ideal_heap.proofs.CommandLemmas.{new-birth, new-heap}
use Rattle.ideal_heap.proofs.tables.Tables.create.Goals as goal

pub returns-clause-heap : goal.returns-clause-heap
returns-clause-heap c = (
  ap (λ k. name c.args.mutator k) (new-birth (tables_heap c.args.self.now) (tables_heap c.store.new.self) c.args.mutator c.births.result (record_in c.in_ok-object.object) c.in_ok-store.ensures.heap c.births.ensures),
  new-heap (tables_heap c.args.self.now) (tables_heap c.store.new.self) (tables_heap c.set_register.new.self) c.args.mutator c.args.destination c.args.refs c.args.nums c.births.result (record_in c.in_ok-object.object)
      c.in_ok-object.ensures.0 c.in_ok-store.ensures.heap c.births.ensures c.set_register.ensures.heap,
)
