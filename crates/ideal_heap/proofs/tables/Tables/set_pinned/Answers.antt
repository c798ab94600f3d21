use Rattle.std.proofs.Common.{refl}
use Rattle.ideal_heap.proofs.TableLemmas.{placed, heap-pinned}
use Rattle.ideal_heap.proofs.tables.Tables.set_pinned.Goals as goal

pub returns-clause-heap : goal.returns-clause-heap
returns-clause-heap c = heap-pinned c.args.self.now.mutators.items c.args.self.now.globals c.args.name c.index_mut.result.now _ c.index_mut-2.result.now _
    c.args.pinned
    (placed c.args.self.now.mutators.items c.args.self.now.globals c.args.name c.index_mut.result.now c.index_mut-2.result.now
    c.requires c.index_mut.ensures.value c.index_mut-2.ensures.value)
    refl refl refl refl
