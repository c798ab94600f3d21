use Rattle.std.proofs.Common.{◌≡◌, ◌+◌, ◌*◌, ◌^◌, ◌<◌, sym, ap, subst, ◌∙◌, arith}
use Rattle.object_model.specs.Heaps.{heap_state}
use Rattle.heap_layout.specs.Zones.{row_words, heap_of}
use Rattle.object_model.proofs.HeldCounts.{CountsBelow, counts-first, held_at, words_at, below, held-count, held-words}
use Rattle.object_model.proofs.HeldWords.{word-counted, few-started}
use Rattle.object_model.proofs.heap.Heap.held_count.Goals as goal

pub loop-index-init : goal.loop-index-init
loop-index-init c =
    let s = heap_state c.args.self.now in
    let first : heap_of s.blocks ≡ heap_of s.blocks + 64 * 0 = omega arith in
    subst (λ a. CountsBelow s a 0 0) first (counts-first s)

pub overflow_add-objects : goal.overflow_add-objects
overflow_add-objects c =
    let s = heap_state c.args.self.now in
    let few = few-started s c.loop-index.index c.count_starts-more.result.0 c.count_starts-more.ensures.objects in
    let most = c.args.self.now.lawful.but_lines.order.row.most in
    let inside : c.loop-index.index < 64 * s.blocks = omega (arith, c.loop-index-test.true, c.blocks-index-end.ensures, c.layout.ensures) in
    omega (arith, c.loop-index.invariant.few, few, most, inside)

pub overflow_add-words : goal.overflow_add-words
overflow_add-words c =
    let s = heap_state c.args.self.now in
    let most = c.args.self.now.lawful.but_lines.order.row.most in
    let inside : c.loop-index.index < 64 * s.blocks = omega (arith, c.loop-index-test.true, c.blocks-index-end.ensures, c.layout.ensures) in
    let small : c.count_starts-more.result.1 < 2 ^ 32 = c.count_starts-more.ensures.few in
    omega (arith, c.loop-index.invariant.few_words, small, most, inside)

pub loop-index-preserved : goal.loop-index-preserved
loop-index-preserved c =
    word-counted (heap_state c.args.self.now) c.loop-index.index c.loop-index.objects c.loop-index.words c.count_starts-more.result.0 c.count_starts-more.result.1
    c.loop-index.invariant c.count_starts-more.ensures.objects c.count_starts-more.ensures.words c.count_starts-more.ensures.few

pub returns-clause-objects : goal.returns-clause-objects
returns-clause-objects c =
    let s = heap_state c.args.self.now in
    let last = c.loop-index.auto.index-end in
    let end : heap_of s.blocks + 64 * c.loop-index.index ≡ row_words s.blocks = omega (arith, last, c.loop-index-test.false, c.blocks-index-end.ensures, c.layout.ensures) in
    c.loop-index.invariant.objects ∙ ap (below (held_at s)) end ∙ sym (held-count s)

pub returns-clause-words : goal.returns-clause-words
returns-clause-words c =
    let s = heap_state c.args.self.now in
    let last = c.loop-index.auto.index-end in
    let end : heap_of s.blocks + 64 * c.loop-index.index ≡ row_words s.blocks = omega (arith, last, c.loop-index-test.false, c.blocks-index-end.ensures, c.layout.ensures) in
    c.loop-index.invariant.words ∙ ap (below (words_at s)) end ∙ sym (held-words s)
