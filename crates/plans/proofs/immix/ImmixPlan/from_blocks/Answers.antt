use Rattle.std.proofs.Common.{◌≡◌, refl, sym, ◌∙◌, IsTrue, map}
use Rattle.std.specs.List.{range_with_len}
use Rattle.std.proofs.lemmas.Bool.{true≢false}
use Rattle.object_model.specs.declared.collect.Collect.{Collect}
use Rattle.object_model.specs.declared.collect.Collect.TheVariants.{Nursery, Full}
use Rattle.object_model.specs.Heaps.{heap_state}
use Rattle.object_model.specs.Objects.{HeapState}
use Rattle.sessions.specs.Plans.{Immix as immix, rules_of}
use Rattle.sessions.specs.Collecting.{is_candidate, is_evacuated}
use Rattle.plans.proofs.Candidates.{candidates-shown}
use Rattle.plans.proofs.immix.ImmixPlan.from_blocks.Goals as goal

-- only full collections are made
evacuated : (c : Collect) (s : HeapState) → (c ≡ Nursery → IsTrue (rules_of immix).young)
    → map (is_candidate s) (range_with_len 0 s.blocks) ≡ map (is_evacuated (rules_of immix) c s) (range_with_len 0 s.blocks)
evacuated Full s only = refl
evacuated Nursery s only = absurd (true≢false (sym (only refl)))

pub returns : goal.returns
returns c =
    let s = heap_state c.args.heap.now in
    candidates-shown s c.words.result.now c.layout.result.now.blocks _ c.words.ensures c.layout.ensures c.in_ok-from.ensures ∙ evacuated c.args._collect s c.requires
