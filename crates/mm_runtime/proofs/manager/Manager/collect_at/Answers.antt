-- A full collection, and then the replies.
use Rattle.std.proofs.Common.{◌+◌, ◌≤◌, refl, arith}
use Rattle.std.proofs.lemmas.Bool.{false≢true}
use Rattle.object_model.specs.Heaps.{heap_state}
use Rattle.managed_heap.specs.Stopped.{collections_of}
use Rattle.managed_heap.proofs.EpochLaws.{remembers}
use Rattle.mm_runtime.proofs.Bounds.{collections-few}
use Rattle.mm_runtime.proofs.Collected.{stopped-of}
use Rattle.mm_runtime.proofs.GcStops as stops
use Rattle.mm_runtime.proofs.manager.Manager.collect_at.Goals as goal

pub returns-then-not-some_gc-clause-gc : goal.returns-then-not-some_gc-clause-gc
returns-then-not-some_gc-clause-gc g c =
    stops.nothing g.P.Plan.rules c.args.ends.now c.args.self (λ some. false≢true (c.if-not-some_gc.ensures.1 some))

pub collect_noting-requires-clause-offered : goal.collect_noting-requires-clause-offered
collect_noting-requires-clause-offered g c κs within =
    c.requires.plan.full (heap_state c.args.self.heap.heap) (remembers g.P.Plan.rules c.args.self.heap (stopped-of g.P.Plan.rules 0 c.args.self c.requires.stop))

pub collect_noting-requires-clause-stopped : goal.collect_noting-requires-clause-stopped
collect_noting-requires-clause-stopped g c κs within = stopped-of g.P.Plan.rules 0 c.args.self c.requires.stop

pub collect_noting-requires-clause-collections : goal.collect_noting-requires-clause-collections
collect_noting-requires-clause-collections g c κs within =
    let few : collections_of c.args.self.heap ≤ 32000000 + 0 = collections-few g.P.Plan.rules 0 c.args.self c.requires.stop.order in
    omega arith

pub returns-clause-order : goal.returns-clause-order
returns-clause-order g c =
    stops.in-order g.P.Plan.rules c.args.ends.now c.args.self c.in_ok-heap.heap _ c.reply_to_gcs.new.progress c.in_ok-heap.ensures.collected.1 c.requires.gcs
    c.reply_to_gcs.ensures (c.if-not-some_gc.ensures.0 refl) c.requires.count c.requires.stop

pub returns-clause-gc : goal.returns-clause-gc
returns-clause-gc g c =
    stops.for-gcs g.P.Plan.rules c.args.ends.now c.args.self c.in_ok-heap.heap _ c.reply_to_gcs.new.progress c.in_ok-heap.ensures.collected.1 c.requires.gcs
    c.reply_to_gcs.ensures (c.if-not-some_gc.ensures.0 refl) c.requires.count

pub returns-clause-others : goal.returns-clause-others
returns-clause-others g c =
    stops.others g.P.Plan.rules c.args.ends.now c.args.self c.in_ok-heap.heap _ c.reply_to_gcs.new.progress c.in_ok-heap.ensures.collected.1 c.requires.gcs
    c.reply_to_gcs.ensures (c.if-not-some_gc.ensures.0 refl) c.requires.count

pub returns-clause-replied : goal.returns-clause-replied
returns-clause-replied g c =
    stops.replied-kept g.P.Plan.rules c.args.ends.now c.args.self c.in_ok-heap.heap _ c.reply_to_gcs.new.progress c.in_ok-heap.ensures.collected.1 c.requires.gcs
    c.reply_to_gcs.ensures (c.if-not-some_gc.ensures.0 refl) c.requires.count c.requires.stop
