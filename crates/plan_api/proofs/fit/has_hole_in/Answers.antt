use Rattle.std.proofs.Common.{sym, ◌∙◌}
use Rattle.std.proofs.lemmas.Bool.{true≢false}
use denote.Enum.Bare.{same_false}
use Rattle.heap_layout.specs.contracts.block.Kind.{the_type}
use Rattle.object_model.specs.Objects.{HeapState}
use Rattle.object_model.specs.Heaps.{heap_state}
use Rattle.plan_api.proofs.BlockViews.{orderly-apart}
use Rattle.plan_api.proofs.HoleTests.{hole-room, hole-word}
use Rattle.plan_api.proofs.fit.has_hole_in.Goals as goal

pub returns-then-eq : goal.returns-then-eq
returns-then-eq c =
    let s : HeapState = heap_state c.args.heap.now in
    let first = c.first_hole.ensures s c.args.block c.view.ensures (orderly-apart s c.args.block c.args.heap.now.lawful.but_lines.order) in
    let room = hole-room c.args.fill s c.args.block c.args.size c.first_hole.result first in
    ((λ some. room.0 (sym c.is_some.ensures ∙ some)), (λ hole. c.is_some.ensures ∙ room.1 hole))

pub returns-else-eq : goal.returns-else-eq
returns-else-eq c =
    let s : HeapState = heap_state c.args.heap.now in (
      (λ wrong. absurd (true≢false (sym wrong ∙ c.if-eq.false))),
      (λ hole. absurd (same_false the_type c.block.result.kind c.args.fill (sym c.if-eq.ensures) (hole-word c.args.fill s c.args.block c.args.size hole.0 c.block.result c.block.ensures.valid c.block.ensures.code hole.1))),
    )
