use Rattle.std.proofs.Common.{◌≡◌, ◌<◌, ◌≤◌, ℕ, length, sym, subst, arith}
use Rattle.std.proofs.lemmas.List.Elements.{All-get_or}
use Rattle.heap_layout.specs.Zones.{row_words}
use Rattle.heap_graph.specs.declared.walk.Walk.{Walk}
use Rattle.object_model.specs.Objects.{HeapState, IsHeld}
use Rattle.object_model.specs.Heaps.{heap_state}
use Rattle.heap_graph.specs.Walks.{met, ClosesFields}
use Rattle.heap_graph.proofs.WalkLemmas.{met-most, met-at, more-met, closes-nothing, closes-next}
use Rattle.heap_graph.proofs.walk.Walk.follow.Goals as goal

pub loop-next-init : goal.loop-next-init
loop-next-init c = record { walk = c.requires.walk; inside = omega arith; closes = closes-nothing (heap_state c.args.heap.now) (met c.args.self.now) }

pub visit_fields-requires-clause-held : goal.visit_fields-requires-clause-held
visit_fields-requires-clause-held c =
    let w : Walk = c.loop-next.self in
    let n : ℕ = c.loop-next.next in
    let all : n < length (met w) = omega (arith, c.len.ensures, w.addresses.ok) in
    subst (IsHeld (heap_state c.args.heap.now)) (sym (met-at w n c.index-address.result.now all c.index-address.ensures))
    (All-get_or (IsHeld (heap_state c.args.heap.now)) (met w) n 0 all c.loop-next.invariant.walk.held)

pub loop-next-smaller : goal.loop-next-smaller
loop-next-smaller c =
    let w : Walk = c.loop-next.self in
    let most : length (met w) ≤ row_words (heap_state c.args.heap.now).blocks = met-most (heap_state c.args.heap.now) w c.loop-next.invariant.walk in
    let inside : c.loop-next.next < length (met w) = omega (arith, c.len.ensures, w.addresses.ok) in
    omega arith

pub loop-next-preserved : goal.loop-next-preserved
loop-next-preserved c =
    let s : HeapState = heap_state c.args.heap.now in
    let w : Walk = c.loop-next.self in
    let n : ℕ = c.loop-next.next in
    let all : n < length (met w) = omega (arith, c.len.ensures, w.addresses.ok) in
    record {
      walk = c.in_ok-visit_fields.ensures.walk;
      inside = omega (arith, more-met (met w) (met c.visit_fields.new.self) _ _ c.in_ok-visit_fields.ensures.adds);
      closes = closes-next s n c.index-address.result.now (met c.args.self.now) (met w) (met c.visit_fields.new.self) all
          (met-at w n c.index-address.result.now all c.index-address.ensures) c.loop-next.invariant.closes c.in_ok-visit_fields.ensures.adds;
    }

pub returns-clause-closes : goal.returns-clause-closes
returns-clause-closes c =
    let w : Walk = c.loop-next.self in
    let all : c.loop-next.next ≡ length (met w) = omega (arith, c.len.ensures, w.addresses.ok) in
    subst (λ n. ClosesFields (heap_state c.args.heap.now) n (met c.args.self.now) (met w)) all c.loop-next.invariant.closes
