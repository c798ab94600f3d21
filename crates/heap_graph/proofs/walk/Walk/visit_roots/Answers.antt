use Rattle.std.proofs.Common.{◌≡◌, refl, length, slice_index, subst, arith}
use Rattle.heap_graph.specs.Walks.{met, Adds}
use Rattle.heap_graph.proofs.WalkLemmas.{adds-nothing, adds-next}
use Rattle.heap_graph.proofs.walk.Walk.visit_roots.Goals as goal

pub loop-root-init : goal.loop-root-init
loop-root-init c = record { walk = c.requires.walk; adds = adds-nothing (λ i. slice_index c.args.roots.now i) (met c.args.self.now) }

pub loop-root-preserved : goal.loop-root-preserved
loop-root-preserved c = record {
  walk = c.in_ok-visit.ensures.walk;
  adds = adds-next (λ i. slice_index c.args.roots.now i) c.loop-root.root-index _ (met c.args.self.now) (met c.loop-root.self) _ refl c.loop-root.invariant.adds c.in_ok-visit.ensures.adds;
}

pub returns-clause-adds : goal.returns-clause-adds
returns-clause-adds c =
    let all : c.loop-root.root-index ≡ length c.args.roots.now = omega arith in
    subst (λ n. Adds (λ i. slice_index c.args.roots.now i) n (met c.args.self.now) (met c.loop-root.self)) all c.loop-root.invariant.adds
