use Rattle.std.proofs.Common.{◌≡◌, sym, ap, ◌∙◌, subst, Bool, List, map}
use Rattle.std.specs.Prelude.{IfOk}
use Rattle.std.specs.List.{range_with_len}
use Rattle.object_model.specs.declared.collect.Collect.{Collect}
use Rattle.object_model.specs.Heaps.{heap_state}
use Rattle.object_model.specs.Objects.{HeapState}
use Rattle.sessions.specs.Plans.{StickyImmix as sticky_immix, rules_of}
use Rattle.sessions.specs.Collecting.{is_evacuated}
use Rattle.plans.proofs.Candidates.{candidates-shown}
use Rattle.plans.proofs.stickyimmix.StickyImmixPlan.from_blocks.Goals as goal

abbrev evacuated : HeapState → Collect → List Bool
evacuated s collect = map (is_evacuated (rules_of sticky_immix) collect s) (range_with_len 0 s.blocks)

-- a nursery collection evacuates nothing
pub returns-in-Nursery : goal.returns-in-Nursery
returns-in-Nursery c =
    subst (λ (collect : Collect). IfOk c.no_blocks.result (λ v. v.items ≡ evacuated (heap_state c.args.heap.now) collect)) (sym c.in-Nursery.is) c.no_blocks.ensures

pub returns-in_ok-from-in-Full : goal.returns-in_ok-from-in-Full
returns-in_ok-from-in-Full c =
    let s = heap_state c.args.heap.now in
    candidates-shown s c.words.result.now c.layout.result.now.blocks _ c.words.ensures c.layout.ensures c.in_ok-from-in-Full.ensures
    ∙ ap (evacuated s) (sym c.in-Full.is)
