use Rattle.std.proofs.Common.{ℕ, ◌+◌, sym, ◌∙◌, subst}
use Rattle.object_model.specs.Heaps.{heap_state}
use Rattle.object_model.proofs.HeldCounts.{KindsBelow, one-counted, no-kind-counted}
use Rattle.object_model.proofs.heap.Heap.kind_count.Goals.{then-block_has, else-block_has}
use Rattle.object_model.proofs.heap.Heap.kind_count.Goals as goal

pub loop-block-preserved : goal.loop-block-preserved
loop-block-preserved c =
    let s = heap_state c.args.self.now in
    let counts = c.loop-block.invariant in
    elim c.if-block_has.branch [
      | then-block_has w ↦ subst (λ (n : ℕ). KindsBelow s c.args.kind (c.loop-block.block + 1) n) (sym w.count-is)
          (one-counted s c.args.kind c.loop-block.block c.loop-block.count counts (sym c.block_has.ensures ∙ w.if-block_has.true))
      | else-block_has w ↦ subst (λ (n : ℕ). KindsBelow s c.args.kind (c.loop-block.block + 1) n) (sym w.count-is)
          (no-kind-counted s c.args.kind c.loop-block.block c.loop-block.count counts (sym c.block_has.ensures ∙ w.if-block_has.false))
    ]
