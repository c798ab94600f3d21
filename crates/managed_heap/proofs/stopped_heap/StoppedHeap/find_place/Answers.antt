use Rattle.std.proofs.Common.{refl, sym, ◌∙◌, ap, subst, arith, IfNone, Option}
use Rattle.std.proofs.lemmas.Bool.{false≢true}
use Rattle.object_model.specs.Heaps.{heap_state}
use Rattle.sessions.specs.Fitting.{Fits}
use Rattle.plan_api.specs.Counting.{session_counts, session_reserve}
use Rattle.block_regions.specs.Notes.{FillsHoles}
use Rattle.managed_heap.specs.declared.spot.Spot.{Spot}
use Rattle.managed_heap.proofs.Spots.{hole-spot, free-spot, no-grant, no-free, granted, granted-back}
use Rattle.managed_heap.proofs.stopped_heap.StoppedHeap.find_place.Goals as goal

pub lowest_hole-requires-clause-fills : goal.lowest_hole-requires-clause-fills
lowest_hole-requires-clause-fills g c = subst FillsHoles (sym c.alloc_kind.ensures) c.requires.plan.fill

pub returns-in-Some-clause-spot : goal.returns-in-Some-clause-spot
returns-in-Some-clause-spot g c =
    hole-spot g.P.Plan.rules c.alloc_kind.result (heap_state c.args.self.now.heap) c.in-Some.block c.in-Some.offset c.args.size
    c.alloc_kind.ensures (omega arith) c.in-Some.ensures.some

pub returns-then-not-is_grantable-clause-none : goal.returns-then-not-is_grantable-clause-none
returns-then-not-is_grantable-clause-none g c =
    no-grant g.P.Plan.rules c.alloc_kind.result (heap_state c.args.self.now.heap) c.args.size c.alloc_kind.ensures (omega arith) c.in_default.ensures.none
    (λ grant. false≢true (c.if-not-is_grantable.ensures.1 (granted g.P.Plan.rules (session_reserve c.reserve-reserve.result) (session_counts c.counts.result.now) (heap_state c.args.self.now.heap)
    c.reserve-reserve.ensures (ap session_counts c.counts.ensures ∙ c.in_default.ensures.notes.counts) grant)))

pub returns-in_err-block-clause-none : goal.returns-in_err-block-clause-none
returns-in_err-block-clause-none g c =
    subst (λ (o : Option Spot). IfNone o (Fits g.P.Plan.rules (heap_state c.args.self.now.heap) c.args.size → ⊥)) (sym c.from_residual.ensures)
    (no-grant g.P.Plan.rules c.alloc_kind.result (heap_state c.args.self.now.heap) c.args.size c.alloc_kind.ensures (omega arith) c.in_default.ensures.none
    (no-free g.P.Plan.rules (heap_state c.args.self.now.heap) c.in_err-block.ensures.none))

pub returns-clause-spot : goal.returns-clause-spot
returns-clause-spot g c =
    free-spot g.P.Plan.rules c.alloc_kind.result (heap_state c.args.self.now.heap) c.in_ok-block.block c.args.size
    c.alloc_kind.ensures (omega arith) c.in_default.ensures.none
    (granted-back g.P.Plan.rules (session_reserve c.reserve-reserve.result) (session_counts c.counts.result.now) (heap_state c.args.self.now.heap)
    c.reserve-reserve.ensures (ap session_counts c.counts.ensures ∙ c.in_default.ensures.notes.counts) (c.if-not-is_grantable.ensures.0 refl))
    c.in_ok-block.ensures.some.0 c.in_ok-block.ensures.some.1
