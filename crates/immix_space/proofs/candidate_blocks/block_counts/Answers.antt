use Rattle.std.proofs.Common.{◌≡◌, sym, ap, ◌∙◌, ◌%◌}
use Rattle.object_model.specs.Objects.{HeapState, state_over, word_at, block_word}
use Rattle.immix_space.proofs.RecyclableBlocks.{other-kind, none-marked, all-marked, counted}
use Rattle.immix_space.proofs.candidate_blocks.block_counts.Goals as goal

pub returns-then-get : goal.returns-then-get
returns-then-get g c =
    let s : HeapState = state_over (g.W.Words.words c.args.words.now) c.args.layout.now 0 0 in
    let read : c.get.result ≡ block_word s c.args.block = c.get.ensures ∙ ap (word_at s) c.block_at.ensures in
    other-kind s c.args.block (λ is. c.if-get.true (ap (λ n. n % 256) read ∙ is))

pub returns-then-counts-eq0 : goal.returns-then-counts-eq0
returns-then-counts-eq0 g c = none-marked (state_over (g.W.Words.words c.args.words.now) c.args.layout.now 0 0) c.args.block (sym c.line_counts-counts.ensures.marked ∙ c.if-counts-eq0.true)

pub returns-then-counts-ge-BLOCK_LINES : goal.returns-then-counts-ge-BLOCK_LINES
returns-then-counts-ge-BLOCK_LINES g c =
    all-marked (state_over (g.W.Words.words c.args.words.now) c.args.layout.now 0 0) c.args.block c.line_counts-counts.result.marked c.line_counts-counts.ensures.marked c.if-counts-ge-BLOCK_LINES.true

pub returns : goal.returns
returns g c =
    let s : HeapState = state_over (g.W.Words.words c.args.words.now) c.args.layout.now 0 0 in
    let read : c.get.result ≡ block_word s c.args.block = c.get.ensures ∙ ap (word_at s) c.block_at.ensures in
    counted s c.args.block c.line_counts-counts.result c.line_counts-counts.ensures.holes c.line_counts-counts.ensures.marked c.requires.block
    (ap (λ n. n % 256) (sym read) ∙ c.if-get.false) c.if-counts-eq0.false c.if-counts-ge-BLOCK_LINES.false
