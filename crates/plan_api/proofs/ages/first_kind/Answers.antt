use Rattle.std.proofs.Common.{◌≡◌, ℕ, ◌<◌, sym, subst, ap, ◌∙◌}
use Rattle.object_model.specs.Ages.{RemembersYoung}
use Rattle.object_model.specs.Lawful.{IsReadableBlock}
use Rattle.object_model.specs.Objects.{HeapState, state_over}
use Rattle.object_model.specs.Heaps.{heap_state}
use Rattle.sessions.specs.Collecting.{first_collection}
use Rattle.plan_api.proofs.BlockViews.{state-same, lawful-block, block-anyway}
use Rattle.plan_api.proofs.ages.first_kind.Goals as goal

pub first_kind_in-requires-clause-readable : goal.first_kind_in-requires-clause-readable
first_kind_in-requires-clause-readable c = λ k there.
    let s : HeapState = heap_state c.args.heap.now in
    let words = c.words.result.now in
    let l = c.layout.result.now in
    block-anyway words l s.number s.base 0 0 k (subst (λ (x : HeapState). IsReadableBlock x k) (state-same s words l c.words.ensures c.layout.ensures)
    (lawful-block s k c.args.heap.now.lawful (subst (λ (n : ℕ). k < n) c.layout.ensures there)))

pub returns : goal.returns
returns c = λ r young.
    let s : HeapState = heap_state c.args.heap.now in
    let words = c.words.result.now in
    let l = c.layout.result.now in
    let same : s ≡ state_over words l s.number c.base.result = state-same s words l c.words.ensures c.layout.ensures ∙ ap (state_over words l s.number) (sym c.base.ensures) in
    let first : c.first_kind_in.result ≡ first_collection r (state_over words l s.number c.base.result) = c.first_kind_in.ensures r s.number young (subst (λ (x : HeapState). RemembersYoung x) same c.requires) in
    first ∙ ap (first_collection r) (sym same)
