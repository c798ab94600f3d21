use Rattle.std.proofs.Common.{◌≡◌, ◌∙◌, ap, ℕ, List, ◌+◌, arith, take, slice_index}
use Rattle.std.proofs.lemmas.List.{take_all, take_more}
use Rattle.object_model.specs.Heaps.{heap_state}
use Rattle.object_model.specs.Objects.{HeapState, size_at}
use Rattle.object_model.specs.Counting.{count_words_at}
use Rattle.driver.proofs.LiveOrder.{words-more}
use Rattle.driver.proofs.report.words_at.Goals as goal

pub loop-at-preserved : goal.loop-at-preserved
loop-at-preserved c =
    let s : HeapState = heap_state c.args.heap.now in
    let live : List ℕ = c.args.live.now in
    let i : ℕ = c.loop-at.at-index in
    let a : ℕ = slice_index live i in
    let size : c.size_words.result ≡ size_at s a = omega (arith, c.size_words.ensures, c.shape_at.ensures.refs, c.shape_at.ensures.nums) in
    let more : count_words_at s (take (i + 1) live) ≡ count_words_at s (take i live) + size_at s a =
    ap (count_words_at s) (take_more live i 0 c.loop-at-test.true) ∙ words-more s (take i live) a in
    let before = c.loop-at.invariant.words in
    record {
      words = omega (arith, more, size, before, c.from-words.ensures);
      few = omega (arith, c.loop-at.invariant.few, c.from-words.ensures);
    }

pub returns : goal.returns
returns c = c.loop-at.invariant.words ∙ ap (count_words_at (heap_state c.args.heap.now)) (take_all c.loop-at.at-index c.args.live.now (omega (arith, c.loop-at-test.false)))
