use Rattle.std.proofs.Common.{◌≡◌, sym, ◌∙◌, ap, subst, IsTrue, ◌+◌, arith}
use Rattle.std.proofs.lemmas.Bool.{leb-true, le-leb}
use Rattle.heap_layout.specs.Zones.{block_start}
use Rattle.object_model.specs.Objects.{HeapState, state_over, is_start, size_at}
use Rattle.object_model.specs.Lawful.{HasObject}
use Rattle.releasable_rows.proofs.TestedBlocks.{start-found}
use Rattle.releasable_rows.proofs.releasable.is_in_cell.Goals as goal

pub returns-in_default : goal.returns-in_default
returns-in_default g c =
    let s : HeapState = state_over (g.W.Words.words c.args.words.now) c.args.layout.now 0 0 in
    let start : IsTrue (is_start s c.address-address.result) = start-found s c.address-address.result c.marks_at.result.start c.marks_at.ensures.start c.if-not-marks_at.false in
    let object = c.requires.objects.object c.args.offset (omega arith) (subst (λ x. IsTrue (is_start s x)) c.address-address.ensures start) in
    absurd (c.in_default.ensures.none c.args.layout.now (subst (HasObject s) (sym c.address-address.ensures) object))

pub returns : goal.returns
returns g c =
    let s : HeapState = state_over (g.W.Words.words c.args.words.now) c.args.layout.now 0 0 in
    let start : IsTrue (is_start s c.address-address.result) = start-found s c.address-address.result c.marks_at.result.start c.marks_at.ensures.start c.if-not-marks_at.false in
    let size : c.in-Some.size ≡ size_at s (block_start s.blocks c.args.block + c.args.offset) = (c.in-Some.ensures.some c.args.layout.now).1 ∙ ap (size_at s) c.address-address.ensures in (
      λ fits _. record { start = c.if-offset-cell-ne0.false; room = (let room = leb-true c.in-Some.size c.args.cell fits in omega arith); within = omega arith },
      λ cell. le-leb c.in-Some.size c.args.cell (let room = (cell (subst (λ x. IsTrue (is_start s x)) c.address-address.ensures start)).room in omega arith),
    )
