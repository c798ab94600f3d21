use Rattle.std.proofs.Common.{◌≡◌, ◌+◌, ◌≤◌, ℕ, arith, inl, inr, sym, ◌∙◌, ap, subst, List, slice_index, ◌/◌, ◌%◌}
use Rattle.heap_layout.specs.Zones.{block_start}
use Rattle.object_model.specs.Objects.{HeapState, state_over, size_at}
use Rattle.plan_api.specs.Views.{IsObjectsEnd}
use Rattle.plan_api.proofs.BlockViews as viewing
use Rattle.plan_api.proofs.readers.view_in.Goals as goal
use Rattle.plan_api.proofs.readers.view_in.Goals.{in-Some, in-None}

pub object_size-requires-clause-word : goal.object_size-requires-clause-word
object_size-requires-clause-word g c =
    let s : HeapState = state_over (g.W.Words.words c.args.words.now) c.args.layout.now 0 0 in
    let inside = viewing.object-inside s c.args.block c.requires c.start_words-starts.result c.start_words-starts.ensures.len c.start_words-starts.ensures.words c.in-Some.offset c.in-Some.ensures in
    omega (arith, c.address.ensures)

pub object_size-requires-clause-refs : goal.object_size-requires-clause-refs
object_size-requires-clause-refs g c =
    let words : List ℕ = g.W.Words.words c.args.words.now in
    let s : HeapState = state_over words c.args.layout.now 0 0 in
    let lies = viewing.object-lies s c.args.block c.requires c.start_words-starts.result c.start_words-starts.ensures.len c.start_words-starts.ensures.words c.in-Some.offset c.in-Some.ensures in
    subst (λ (a : ℕ). slice_index words (a + 1) % 65536 ≤ 1024) (sym c.address.ensures) lies.0.refs

pub object_size-requires-clause-nums : goal.object_size-requires-clause-nums
object_size-requires-clause-nums g c =
    let words : List ℕ = g.W.Words.words c.args.words.now in
    let s : HeapState = state_over words c.args.layout.now 0 0 in
    let lies = viewing.object-lies s c.args.block c.requires c.start_words-starts.result c.start_words-starts.ensures.len c.start_words-starts.ensures.words c.in-Some.offset c.in-Some.ensures in
    subst (λ (a : ℕ). slice_index words (a + 1) / 65536 ≤ 60000) (sym c.address.ensures) lies.0.nums

pub overflow_add-end : goal.overflow_add-end
overflow_add-end g c =
    let words : List ℕ = g.W.Words.words c.args.words.now in
    let s : HeapState = state_over words c.args.layout.now 0 0 in
    let small = viewing.offset-small s c.args.block c.requires c.start_words-starts.result c.start_words-starts.ensures.len c.start_words-starts.ensures.words c.in-Some.offset c.in-Some.ensures in
    let lies = viewing.object-lies s c.args.block c.requires c.start_words-starts.result c.start_words-starts.ensures.len c.start_words-starts.ensures.words c.in-Some.offset c.in-Some.ensures in
    let refs : slice_index words (c.address.result + 1) % 65536 ≤ 1024 = subst (λ (a : ℕ). slice_index words (a + 1) % 65536 ≤ 1024) (sym c.address.ensures) lies.0.refs in
    let nums : slice_index words (c.address.result + 1) / 65536 ≤ 60000 = subst (λ (a : ℕ). slice_index words (a + 1) / 65536 ≤ 60000) (sym c.address.ensures) lies.0.nums in
    omega (arith, c.object_size.ensures)

pub returns : goal.returns
returns g c =
    let words : List ℕ = g.W.Words.words c.args.words.now in
    let s : HeapState = state_over words c.args.layout.now 0 0 in
    let starts : List ℕ = c.start_words-starts.result in
    let end : IsObjectsEnd s c.args.block c.match-last_bit.end = elim c.match-last_bit.branch as (λ _. IsObjectsEnd s c.args.block c.match-last_bit.end) [
      | in-Some w ↦
          let size : w.object_size.result ≡ size_at s (block_start c.args.layout.now.blocks c.args.block + w.in-Some.offset) = w.object_size.ensures ∙ ap (size_at s) w.address.ensures in
          inr (
            block_start c.args.layout.now.blocks c.args.block + w.in-Some.offset,
            viewing.last-held s c.args.block starts c.requires.block c.start_words-starts.ensures.len (λ x below. viewing.starts-read s starts c.args.block x c.requires.block c.start_words-starts.ensures.words below) w.in-Some.offset c.match-last_bit.end w.in-Some.ensures
                (sym (w.end-is ∙ ap (λ n. w.in-Some.offset + n) size)),
          )
      | in-None w ↦ inl (viewing.none-held s c.args.block starts c.requires.block c.start_words-starts.ensures.len (λ x below. viewing.starts-read s starts c.args.block x c.requires.block c.start_words-starts.ensures.words below) w.in-None.ensures, w.end-is)
    ] in
    viewing.view-of words c.args.layout.now c.args.block _ c.requires c.block_word_in.ensures.code c.block_word_in.ensures.valid c.line_words.ensures.words c.start_words-starts.ensures.words end
