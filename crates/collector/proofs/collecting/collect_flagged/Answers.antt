use Rattle.std.proofs.Common.{◌≡◌, ◌∙◌, sym, subst, true}
use Rattle.object_model.specs.Heaps.{heap_state}
use Rattle.sessions.specs.Collecting.{Collects}
use Rattle.block_release.specs.Knowing.{IsRunUnder}
use Rattle.collector.specs.Collected.{FillsInTurn, LeavesFewBlocks}
use Rattle.collector.specs.Tallies.{IsNote}
use Rattle.collector.specs.declared.worker.TracingStart.{TracingStart}
use Rattle.collector.proofs.Offered.{full-of}
use Rattle.collector.proofs.WholeNotes.{collects-all}
use Rattle.collector.proofs.collecting.collect_flagged.Goals as goal

pub count_only-requires-clause-full : goal.count_only-requires-clause-full
count_only-requires-clause-full g c =
    full-of g.P.Plan.plan g.P.Plan.rules g.met.P.Plan.rules_are_of_plan (sym c.collects-reclaims.ensures ∙ c.if-not-reclaims.true) c.args.collect (heap_state c.args.heap) c.requires.offered

pub finish-requires : goal.finish-requires
finish-requires g c =
    let start : TracingStart = record { heap = c.args.heap; run = c.in_ok-run.run'; roots = c.args.roots } in
    (start, c.args.workers, c.in_ok-trace.ensures, subst (λ k. IsRunUnder g.P.Plan.rules k (heap_state c.args.heap) c.in_ok-run.run') (sym c.in_ok-run.ensures.under.collect) c.in_ok-run.ensures.under)

pub returns-clause-collected : goal.returns-clause-collected
returns-clause-collected g c =
    let start : TracingStart = record { heap = c.args.heap; run = c.in_ok-run.run'; roots = c.args.roots } in
    let all : g.P.Plan.rules.collects ≡ true = sym c.collects-reclaims.ensures ∙ c.if-not-reclaims.false in
    let shown : IsRunUnder g.P.Plan.rules c.in_ok-run.run'.collect (heap_state c.args.heap) c.in_ok-run.run' =
    subst (λ k. IsRunUnder g.P.Plan.rules k (heap_state c.args.heap) c.in_ok-run.run') (sym c.in_ok-run.ensures.under.collect) c.in_ok-run.ensures.under in
    let left = c.finish.ensures start c.args.workers c.in_ok-trace.ensures shown in
    collects-all g.P.Plan.rules c.args.workers c.args.collect (heap_state c.args.heap) c.args.roots.items (heap_state c.finish.result.heap) c.finish.result.roots.items c.finish.result.note
    g.P.Plan.rules.collects all
    (subst (λ k. (made : Collects g.P.Plan.rules c.args.workers k (heap_state c.args.heap) c.args.roots.items (heap_state c.finish.result.heap) c.finish.result.roots.items) × IsNote k (heap_state c.args.heap) made.target (heap_state c.finish.result.heap) c.finish.result.note × (c.args.workers ≡ 1 → FillsInTurn (heap_state c.args.heap) made.target))
    c.in_ok-run.ensures.under.collect (left.0, left.1, left.2))

pub returns-clause-blocks : goal.returns-clause-blocks
returns-clause-blocks g c =
    let start : TracingStart = record { heap = c.args.heap; run = c.in_ok-run.run'; roots = c.args.roots } in
    let shown : IsRunUnder g.P.Plan.rules c.in_ok-run.run'.collect (heap_state c.args.heap) c.in_ok-run.run' =
    subst (λ k. IsRunUnder g.P.Plan.rules k (heap_state c.args.heap) c.in_ok-run.run') (sym c.in_ok-run.ensures.under.collect) c.in_ok-run.ensures.under in
    subst (λ k. LeavesFewBlocks g.P.Plan.rules c.args.workers k (heap_state c.args.heap) (heap_state c.finish.result.heap) c.finish.result.note)
    c.in_ok-run.ensures.under.collect (c.finish.ensures start c.args.workers c.in_ok-trace.ensures shown).3
