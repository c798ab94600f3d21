-- The first moment of a session.
use Rattle.std.proofs.Common.{◌≡◌, ◌≤◌, arith, length}
use Rattle.mm_runtime.proofs.FirstManager as first
use Rattle.mm_runtime.proofs.manager.Manager.begin_stored.Goals as goal

pub returns-clause-ready : goal.returns-clause-ready
returns-clause-ready g c =
    let count : c.len.result ≡ length c.args.traces.items = omega (arith, c.len.ensures, c.args.traces.ok.0) in
    first.ready g.P.Plan.rules _ c.args.layout.blocks c.len.result c.args.workers c.args.traces.items c.in_ok-heap.ensures.stands c.in_ok-heap.ensures.stopped.order c.in_ok-heap.ensures.mutators
    count c.in_ok-progress.ensures.traces c.in_ok-progress.ensures.fresh
    (let some : 1 ≤ length c.args.traces.items = c.requires.some in omega arith) (let few : length c.args.traces.items ≤ 16 = c.requires.few in omega arith) c.requires.runnable

pub returns-clause-closes : goal.returns-clause-closes
returns-clause-closes g c t rules blocks workers traces =
    let count : c.len.result ≡ length c.args.traces.items = omega (arith, c.len.ensures, c.args.traces.ok.0) in
    first.closes g.P.Plan.rules _ c.args.layout.blocks c.len.result c.args.workers c.args.traces.items c.in_ok-heap.ensures.stands c.in_ok-heap.ensures.stopped.order c.in_ok-heap.ensures.mutators
    count c.in_ok-progress.ensures.traces c.in_ok-progress.ensures.fresh
    (let some : 1 ≤ length c.args.traces.items = c.requires.some in omega arith) (let few : length c.args.traces.items ≤ 16 = c.requires.few in omega arith) c.requires.runnable
    t rules blocks workers traces
