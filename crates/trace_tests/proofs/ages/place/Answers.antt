use Rattle.object_model.specs.Heaps.{heap_state}
use Rattle.trace_tests.proofs.LargeObjects.{still-remembers}
use Rattle.trace_tests.proofs.ages.place.Goals as goal

pub remembering-requires : goal.remembering-requires
remembering-requires c = record {
  remembers =
      still-remembers (heap_state c.args.aged.heap) (heap_state c.write_large-heap.result) c.args.block c.args.shape.now.refs c.args.shape.now.nums c.args.name.now
      c.args.aged.heap.lawful c.requires.room c.write_large-heap.ensures c.args.aged.remembers;
}
