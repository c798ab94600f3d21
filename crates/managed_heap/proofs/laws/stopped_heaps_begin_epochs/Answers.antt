use Rattle.object_model.specs.Heaps.{heap_state}
use Rattle.collector.proofs.Offered.{full-offered, nursery-offered}
use Rattle.managed_heap.proofs.EpochLaws as epochs
use Rattle.managed_heap.proofs.laws.stopped_heaps_begin_epochs.Goals as goal

pub returns-clause-few : goal.returns-clause-few
returns-clause-few g c = λ rules stopped. stopped.order.few

pub returns-clause-users : goal.returns-clause-users
returns-clause-users g c = λ rules stopped. epochs.users rules c.args.heap.now stopped

pub returns-clause-remembers : goal.returns-clause-remembers
returns-clause-remembers g c = λ rules stopped. epochs.remembers rules c.args.heap.now stopped

pub returns-clause-notes : goal.returns-clause-notes
returns-clause-notes g c = λ rules stopped. stopped.order.notes

pub returns-clause-flags : goal.returns-clause-flags
returns-clause-flags g c = λ rules stopped. stopped.order.flags

pub returns-clause-full : goal.returns-clause-full
returns-clause-full g c = λ rules. full-offered rules (heap_state c.args.heap.now.heap)

pub returns-clause-nursery : goal.returns-clause-nursery
returns-clause-nursery g c = λ rules stopped young base.
    nursery-offered rules (heap_state c.args.heap.now.heap) young base (epochs.remembers rules c.args.heap.now stopped)
