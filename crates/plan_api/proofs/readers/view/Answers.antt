use Rattle.std.proofs.Common.{◌≡◌, sym, subst}
use Rattle.object_model.specs.Objects.{HeapState, state_over}
use Rattle.object_model.specs.Lawful.{IsReadableBlock}
use Rattle.object_model.specs.Heaps.{heap_state}
use Rattle.plan_api.specs.Views.{IsViewOf}
use Rattle.plan_api.proofs.BlockViews as viewing
use Rattle.plan_api.proofs.readers.view.Goals as goal

pub view_in-requires : goal.view_in-requires
view_in-requires c =
    let s : HeapState = heap_state c.args.heap.now in
    let same : s ≡ state_over c.words.result.now c.layout.result.now s.number s.base = viewing.state-same s c.words.result.now c.layout.result.now c.words.ensures c.layout.ensures in
    viewing.block-anyway c.words.result.now c.layout.result.now s.number s.base 0 0 c.args.block
    (subst (λ (x : HeapState). IsReadableBlock x c.args.block) same (viewing.lawful-block s c.args.block c.args.heap.now.lawful c.requires))

pub returns : goal.returns
returns c =
    let s : HeapState = heap_state c.args.heap.now in
    let same : s ≡ state_over c.words.result.now c.layout.result.now s.number s.base = viewing.state-same s c.words.result.now c.layout.result.now c.words.ensures c.layout.ensures in
    subst (λ (x : HeapState). IsViewOf x c.args.block c.view_in.result) (sym same) (c.view_in.ensures s.number s.base)
