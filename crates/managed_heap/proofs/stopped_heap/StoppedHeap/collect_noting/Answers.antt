-- With no note asked for, a plan that reclaims nothing counts the collection.
use Rattle.std.proofs.Common.{◌≡◌, sym, ◌∙◌, subst}
use Rattle.object_model.specs.Heaps.{heap_state}
use Rattle.object_model.specs.declared.collect.Collect.{Collect}
use Rattle.object_model.specs.declared.collect.Collect.TheVariants.{Full}
use Rattle.collector.proofs.Offered.{full-of}
use Rattle.managed_heap.specs.Stopped.{HasCollected}
use Rattle.managed_heap.proofs.Collected.{makes-from}
use Rattle.managed_heap.proofs.stopped_heap.StoppedHeap.collect_noting.Goals as goal

pub returns-clause-makes : goal.returns-clause-makes
returns-clause-makes g c =
    let full : c.args.kind ≡ Full = full-of g.P.Plan.plan g.P.Plan.rules g.met.P.Plan.rules_are_of_plan (sym c.collects-reclaims.ensures ∙ c.if-reclaims.false) c.args.kind (heap_state c.args.self.heap) c.requires.offered in
    let made = c.count_collection.ensures.collected in
    makes-from g.P.Plan.rules c.args.kind c.args.self c.count_collection.result made.0
    (subst (λ (k : Collect). HasCollected g.P.Plan.rules k c.args.self c.count_collection.result made.0) (sym full) made.1)
