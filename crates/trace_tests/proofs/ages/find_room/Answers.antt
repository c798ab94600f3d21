use Rattle.std.proofs.Common.{◌∙◌, ap}
use Rattle.object_model.specs.Heaps.{heap_state}
use Rattle.object_model.specs.Objects.{blocks_for}
use Rattle.trace_tests.proofs.LargeObjects.{some-room, first-name, new-name}
use Rattle.trace_tests.proofs.ages.find_room.Goals as goal

pub returns : goal.returns
returns g c =
    some-room (heap_state c.args.heap.now) c.words.result.now c.layout.result.now c.blocks_for-count.result c.args.shape.now.refs c.args.shape.now.nums c.args.name.now
    c.args.heap.now.lawful c.words.ensures c.layout.ensures (c.blocks_for-count.ensures ∙ ap blocks_for c.size_words.ensures)
    (first-name c.args.name.now c.check_name.ensures.mutator c.check_name.ensures.born c.check_name.ensures.few) c.check_shape.ensures.refs c.check_shape.ensures.large c.check_shape.ensures.nums
    (new-name (heap_state c.args.heap.now) c.args.mutators.now c.args.name.now c.check_users.ensures c.check_name.ensures.later)
    c.find_run.result c.find_run.ensures.run
