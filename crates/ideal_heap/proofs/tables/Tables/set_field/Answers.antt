use Rattle.std.proofs.Common.{refl}
use Rattle.ideal_heap.specs.Ideal.{put_field, field_of}
use Rattle.ideal_heap.specs.Tables.{tables_heap}
use Rattle.ideal_heap.proofs.UpdateLemmas.{field-born}
use Rattle.ideal_heap.proofs.TableLemmas.{placed, heap-record, field-put}
use Rattle.ideal_heap.proofs.tables.Tables.set_field.Goals as goal

pub returns-clause-heap : goal.returns-clause-heap
returns-clause-heap c = heap-record c.args.self.now.mutators.items c.args.self.now.globals c.args.name c.index_mut.result.now _ c.index_mut-2.result.now _
    (λ x. put_field x c.args.index (field_of c.args.value))
    (placed c.args.self.now.mutators.items c.args.self.now.globals c.args.name c.index_mut.result.now c.index_mut-2.result.now
    (field-born (tables_heap c.args.self.now) c.args.name c.args.index c.requires) c.index_mut.ensures.value c.index_mut-2.ensures.value)
    refl refl (field-put c.index_mut-2.result.now.refs.items c.index_mut-2.result.now.nums.items c.args.index c.args.value) refl
