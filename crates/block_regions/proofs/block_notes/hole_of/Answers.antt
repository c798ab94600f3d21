use Rattle.std.proofs.Common.{◌≡◌, sym, subst}
use Rattle.object_model.specs.Objects.{HeapState, state_over}
use Rattle.object_model.specs.Lawful.{IsReadableBlock}
use Rattle.object_model.specs.Heaps.{heap_state}
use Rattle.block_sweeps.specs.Sweeping.{AreApart}
use Rattle.plan_api.specs.Holes.{IsFirstHole}
use Rattle.plan_api.proofs.BlockViews as viewing
use Rattle.block_regions.proofs.block_notes.hole_of.Goals as goal

pub hole_in_block-requires-clause-block : goal.hole_in_block-requires-clause-block
hole_in_block-requires-clause-block c =
    let s : HeapState = heap_state c.args.heap.now in
    let same : s ≡ state_over c.words.result.now c.layout.result.now s.number s.base = viewing.state-same s c.words.result.now c.layout.result.now c.words.ensures c.layout.ensures in
    viewing.block-anyway c.words.result.now c.layout.result.now s.number s.base 0 0 c.args.block
    (subst (λ (x : HeapState). IsReadableBlock x c.args.block) same (viewing.lawful-block s c.args.block c.args.heap.now.lawful c.requires.block))

pub hole_in_block-requires-clause-apart : goal.hole_in_block-requires-clause-apart
hole_in_block-requires-clause-apart c =
    let s : HeapState = heap_state c.args.heap.now in
    let same : s ≡ state_over c.words.result.now c.layout.result.now s.number s.base = viewing.state-same s c.words.result.now c.layout.result.now c.words.ensures c.layout.ensures in
    let apart : AreApart (state_over c.words.result.now c.layout.result.now s.number s.base) c.args.block
    = subst (λ (x : HeapState). AreApart x c.args.block) same (viewing.orderly-apart s c.args.block c.args.heap.now.lawful.but_lines.order) in
    λ a x i held other here there inside within. apart a x i (record { address = held.address; start = held.start })
    (record { address = other.address; start = other.start }) here there inside within

pub returns : goal.returns
returns c =
    let s : HeapState = heap_state c.args.heap.now in
    let same : s ≡ state_over c.words.result.now c.layout.result.now s.number s.base = viewing.state-same s c.words.result.now c.layout.result.now c.words.ensures c.layout.ensures in
    subst (λ (x : HeapState). IsFirstHole c.args.fill x c.args.block 0 c.args.size c.hole_in_block.result) (sym same) (c.hole_in_block.ensures s.number s.base)
