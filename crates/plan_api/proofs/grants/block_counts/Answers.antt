use Rattle.std.proofs.Common.{ℕ, ◌<◌, sym, subst, ap, ◌∙◌, IsTrue}
use Rattle.object_model.specs.Objects.{HeapState, block_word}
use Rattle.object_model.specs.Heaps.{heap_state}
use Rattle.heap_layout.specs.Blocks.{is_block_code}
use Rattle.sessions.specs.Fitting.{counts_of}
use Rattle.plan_api.proofs.BlockViews.{state-same, lawful-block}
use Rattle.plan_api.proofs.grants.block_counts.Goals as goal

pub block_counts_in-requires-clause-codes : goal.block_counts_in-requires-clause-codes
block_counts_in-requires-clause-codes c = λ k there.
    let s : HeapState = heap_state c.args.heap.now in
    let words = c.words.result.now in
    let l = c.layout.result.now in
    subst (λ (x : HeapState). IsTrue (is_block_code (block_word x k))) (state-same s words l c.words.ensures c.layout.ensures)
    (lawful-block s k c.args.heap.now.lawful (subst (λ (n : ℕ). k < n) c.layout.ensures there)).code

pub returns : goal.returns
returns c =
    let s : HeapState = heap_state c.args.heap.now in
    c.block_counts_in.ensures ∙ ap counts_of (sym (state-same s c.words.result.now c.layout.result.now c.words.ensures c.layout.ensures))
