use Rattle.std.proofs.Common.{refl}
use Rattle.ideal_heap.specs.Ideal.{put_number}
use Rattle.ideal_heap.specs.Tables.{tables_heap}
use Rattle.ideal_heap.proofs.UpdateLemmas.{number-born}
use Rattle.ideal_heap.proofs.TableLemmas.{placed, heap-record}
use Rattle.ideal_heap.proofs.tables.Tables.set_number.Goals as goal

pub returns-clause-heap : goal.returns-clause-heap
returns-clause-heap c = heap-record c.args.self.now.mutators.items c.args.self.now.globals c.args.name c.index_mut.result.now _ c.index_mut-2.result.now _
    (λ x. put_number x c.args.index c.args.number)
    (placed c.args.self.now.mutators.items c.args.self.now.globals c.args.name c.index_mut.result.now c.index_mut-2.result.now
    (number-born (tables_heap c.args.self.now) c.args.name c.args.index c.requires) c.index_mut.ensures.value c.index_mut-2.ensures.value)
    refl refl refl refl
