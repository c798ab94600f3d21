use Rattle.std.proofs.Common.{◌≡◌, ◌<◌, Bool, IsTrue, refl, sym, ◌∙◌, ap, subst}
use Rattle.heap_layout.specs.Zones.{IsAddress}
use Rattle.object_model.specs.Times.{times}
use Rattle.trace_core.proofs.Begun.{listed-held}
use Rattle.std.specs.Prelude.{if◌then◌else◌}
use Rattle.std.proofs.lemmas.Bool.{cond-true, cond-false}
use Rattle.object_model.specs.Objects.{HeapState, state_of}
use Rattle.object_model.specs.Heaps.{heap_state}
use Rattle.trace_core.specs.Runs.{is_nursery, without_lines, without_unlogs, with_unlogs, begun}
use Rattle.plain_tracer.proofs.BeginningTracer.{is-full, straight, turned, begins}
use Rattle.plain_tracer.proofs.plain_trace.PlainTrace.begin.Goals.{then-eq, else-eq}
use Rattle.plain_tracer.proofs.plain_trace.PlainTrace.begin.Goals as goal

row : (c : goal.Joined-eq) → state_of c.if-eq.row ≡ begun (heap_state c.args.heap) c.args.run
row c = elim c.if-eq.branch as (λ _. state_of c.if-eq.row ≡ begun s c.args.run) [
  | then-eq w ↦ ap state_of w.row-is ∙ w.clear_bits.ensures ∙ ap cleared c.into_row-row.ensures.state
      ∙ sym (cond-false young (with_unlogs s c.args.run.logged.items) (cleared s) (straight young (is-full c.args.run.collect c.eq.result c.eq.ensures ∙ w.if-eq.true)))
  | else-eq w ↦ ap state_of w.row-is ∙ w.set_unlogs.ensures ∙ ap (with_unlogs (state_of c.into_row-row.result)) w.deref.ensures.value ∙ ap (λ h. with_unlogs h c.args.run.logged.items) c.into_row-row.ensures.state
      ∙ sym (cond-true young (with_unlogs s c.args.run.logged.items) (cleared s) (turned young (is-full c.args.run.collect c.eq.result c.eq.ensures ∙ w.if-eq.false)))
]
  where
    s : HeapState
    s = heap_state c.args.heap

    young : Bool
    young = is_nursery c.args.run.collect

    cleared : HeapState → HeapState
    cleared h = without_unlogs (if c.args.run.lines then without_lines h else h)

pub returns-clause-tracks : goal.returns-clause-tracks
returns-clause-tracks c = begins (heap_state c.args.heap) c.args.run c.args.heap.lawful.but_lines c.requires _ (row c) refl refl refl

pub set_unlogs-requires-clause-objects : goal.set_unlogs-requires-clause-objects
set_unlogs-requires-clause-objects c a some =
    let young : IsTrue (is_nursery c.args.run.collect) = turned (is_nursery c.args.run.collect) (is-full c.args.run.collect c.eq.result c.eq.ensures ∙ c.if-eq.false) in
    subst (λ b. IsAddress b a) (sym (ap (λ (h : HeapState). h.blocks) c.into_row-row.ensures.state))
    (listed-held (heap_state c.args.heap) c.args.run.logged.items (c.requires.nursery young) a (subst (λ l. 0 < times a l) c.deref.ensures.value some)).address
