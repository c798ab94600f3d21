use Rattle.object_model.specs.Heaps.{heap_state}
use Rattle.write_barrier.proofs.LoggedWords.{WordLeft}
use Rattle.write_barrier.proofs.list.add_word.Given as goal

abbrev pub invariant-loop-rest : goal.invariant-loop-rest
invariant-loop-rest l = WordLeft (heap_state l.fn.heap) l.fn.index l.rest l.logged.items

abbrev pub decreases-loop-rest : goal.decreases-loop-rest
decreases-loop-rest l = l.rest
