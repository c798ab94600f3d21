use Rattle.std.proofs.Common.{sym, ◌∙◌}
use Rattle.object_model.specs.Heaps.{heap_state}
use Rattle.write_barrier.proofs.LoggedWords.{none-unflagged}
use Rattle.write_barrier.proofs.list.add_if_flagged.Goals as goal

pub returns-then-not-flags-block : goal.returns-then-not-flags-block
returns-then-not-flags-block c = c.requires.before
    ∙ sym (none-unflagged (heap_state c.args.heap.now) c.args.flags.now c.requires.flags c.args.block c.if-not-flags-block.true)
