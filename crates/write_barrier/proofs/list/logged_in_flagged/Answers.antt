use Rattle.std.proofs.Common.{◌≡◌, ◌∙◌, ap, sym, subst, arith}
use Rattle.heap_layout.specs.Zones.{row_words, block_start}
use Rattle.object_model.specs.Heaps.{heap_state}
use Rattle.object_model.specs.Ages.{ListsLogged}
use Rattle.write_barrier.specs.Listed.{logged_below}
use Rattle.write_barrier.proofs.LoggedLists.{none-before, lists}
use Rattle.write_barrier.proofs.list.logged_in_flagged.Goals as goal

pub loop-block-init : goal.loop-block-init
loop-block-init c = c.new-logged.ensures.items ∙ sym (none-before (heap_state c.args.heap.now))

pub returns : goal.returns
returns c =
    let s = heap_state c.args.heap.now in
    let last = c.loop-block.auto.block-end in
    let end : block_start s.blocks c.loop-block.block ≡ row_words s.blocks = omega (arith, last, c.loop-block-test.false, c.blocks-block-end.ensures, c.layout.ensures) in
    subst (ListsLogged s) (sym (c.loop-block.invariant ∙ ap (logged_below s) end)) (lists s)
