use Rattle.std.proofs.Common.{refl, sym, ◌∙◌, ap, subst, IfNone, Option}
use Rattle.object_model.specs.Heaps.{heap_state}
use Rattle.sessions.specs.Fitting.{Fits}
use Rattle.plan_api.specs.Counting.{session_counts, session_reserve}
use Rattle.managed_heap.specs.declared.spot.Spot.{Spot}
use Rattle.managed_heap.proofs.Spots.{run-spot, no-run, run-granted-back, first-in, none-in}
use Rattle.managed_heap.proofs.stopped_heap.StoppedHeap.find_large.Goals as goal

pub returns-in_err-block-clause-none : goal.returns-in_err-block-clause-none
returns-in_err-block-clause-none g c =
    subst (λ (o : Option Spot). IfNone o (Fits g.P.Plan.rules (heap_state c.args.self.now.heap) c.args.size → ⊥)) (sym c.from_residual.ensures)
    (no-run g.P.Plan.rules (heap_state c.args.self.now.heap) c.blocks_for-count.result c.args.size c.requires.large c.blocks_for-count.ensures
    (none-in (heap_state c.args.self.now.heap) c.words.result.now c.layout.result.now c.blocks_for-count.result c.words.ensures c.layout.ensures c.in_err-block.ensures.run))

pub returns-clause-spot : goal.returns-clause-spot
returns-clause-spot g c =
    run-spot g.P.Plan.rules (heap_state c.args.self.now.heap) c.in_ok-block.block c.blocks_for-count.result c.args.size c.requires.large c.blocks_for-count.ensures
    (run-granted-back g.P.Plan.rules (session_reserve c.reserve.result) (session_counts c.counts.result.now) (heap_state c.args.self.now.heap) c.blocks_for-count.result _
    c.reserve.ensures (ap session_counts c.counts.ensures ∙ c.requires.counts) c.blocks_for-count.ensures (c.if-not-is_run_grantable.ensures.0 refl))
    (first-in (heap_state c.args.self.now.heap) c.words.result.now c.layout.result.now c.in_ok-block.block c.blocks_for-count.result c.words.ensures c.layout.ensures c.in_ok-block.ensures.run)
