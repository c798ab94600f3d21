use Rattle.std.proofs.Common.{sym, ◌∙◌, ap, arith, ◌++◌, ◌∷◌, [], map, append_assoc}
use Rattle.std.specs.List.{range_with_len}
use Rattle.std.proofs.lemmas.List.FromFn.{map-range_with_len_more}
use Rattle.object_model.specs.Heaps.{heap_state}
use Rattle.object_model.specs.Objects.{global_at}
use Rattle.mm_runtime.proofs.reports.add_globals.Goals as goal

pub loop-global-preserved : goal.loop-global-preserved
loop-global-preserved c =
    let s = heap_state c.args.heap.now in
    let front = map (global_at (heap_state c.args.heap.now)) (range_with_len 0 c.loop-global.global) in
    c.in_ok-push.ensures.items ∙ ap (λ xs. xs ++ c.global_at.result ∷ []) c.loop-global.invariant
    ∙ append_assoc c.args.roots.now.items front (c.global_at.result ∷ [])
    ∙ ap (λ v. c.args.roots.now.items ++ (front ++ v ∷ [])) c.global_at.ensures
    ∙ ap (λ xs. c.args.roots.now.items ++ xs) (sym (map-range_with_len_more (global_at s) 0 c.loop-global.global c.loop-global.global (omega arith)))
