use Rattle.std.proofs.Common.{refl}
use Rattle.managed_heap.proofs.FirstHeap as first
use Rattle.managed_heap.proofs.stopped_heap.StoppedHeap.new.Goals as goal

pub returns-clause-stopped : goal.returns-clause-stopped
returns-clause-stopped g c =
    first.stopped-first g.P.Plan.rules _ c.args.layout.blocks c.args.mutators
    c.in_ok-heap.ensures (c.in_ok-notes.ensures.notes g.P.Plan.rules.fill) (c.in_ok-notes.ensures.flags g.P.Plan.rules) c.in_ok-mutators.ensures.states c.in_ok-mutators.ensures.places refl refl c.requires.few c.requires.some_worker c.requires.few_workers

pub returns-clause-stands : goal.returns-clause-stands
returns-clause-stands g c t rules workers blocks traces =
    first.stands-first g.P.Plan.rules _ c.args.layout.blocks c.args.mutators
    c.in_ok-heap.ensures (c.in_ok-notes.ensures.notes g.P.Plan.rules.fill) (c.in_ok-notes.ensures.flags g.P.Plan.rules) c.in_ok-mutators.ensures.states c.in_ok-mutators.ensures.places refl refl c.requires.few c.requires.some_worker c.requires.few_workers
    t rules workers blocks traces
