use Rattle.std.proofs.Common.{subst, sym, ℕ, List, [], length, slice_index}
use Rattle.heap_graph.specs.declared.walk.Walk.{Walk}
use Rattle.object_model.specs.Objects.{HeapState}
use Rattle.object_model.specs.Heaps.{heap_state}
use Rattle.heap_graph.specs.Places.{AreReached}
use Rattle.heap_graph.specs.Walks.{met, IsWalk, Adds}
use Rattle.heap_graph.proofs.GraphLemmas.{are-reached}
use Rattle.heap_graph.proofs.object_graph.reachable.Goals as goal

pub returns : goal.returns
returns c =
    let s : HeapState = heap_state c.args.heap.now in
    let roots : List ℕ = c.args.roots.now in
    let first : List ℕ = met c.visit_roots.new.self in
    let last : Walk = c.follow.new.self in
    let walk : IsWalk s last = c.in_ok-follow.ensures.walk in
    let from_roots : Adds (λ i. slice_index roots i) (length roots) [] first =
    subst (λ l. Adds (λ i. slice_index roots i) (length roots) l first) c.in_ok-walk.ensures.none c.in_ok-visit_roots.ensures.adds in
    subst (AreReached s roots) (sym c.into_addresses.ensures) (are-reached s roots first (met c.visit_globals.new.self) (met last)
    from_roots c.in_ok-visit_globals.ensures.adds c.in_ok-follow.ensures.closes walk.held walk.apart)
