use Rattle.heap_layout.specs.declared.block.Kind.TheVariants as kinds
use Rattle.object_model.specs.Objects.{state_over}
use Rattle.object_model.proofs.WordReads.{kind-shown}
use Rattle.block_release.proofs.SweptBlocks.{either}
use Rattle.block_release.proofs.ReleaseLoop.{bits-shown, lines-shown, kept-shown}
use Rattle.block_release.proofs.releasing.release_next.Goals as goal

pub sweep_by_bits-left-requires-clause-shows : goal.sweep_by_bits-left-requires-clause-shows
sweep_by_bits-left-requires-clause-shows g c =
    let s = state_over c.args.words.now c.args.layout.now 0 0 in
    (c.args.base, (bits-shown g.P.Plan.rules c.args.collect c.args.base s c.args.block c.args.evacuated c.args.known (c.is_shown.ensures.known c.if-is_shown.true) c.requires.shows).0)

pub returns-then-is_shown : goal.returns-then-is_shown
returns-then-is_shown g c =
    let l = c.args.layout.now in let k = c.args.block in let r = g.P.Plan.rules in
    let s = state_over c.args.words.now l 0 0 in
    let w = c.block_word_in-word.result in
    let shows = bits-shown r c.args.collect c.args.base s k c.args.evacuated c.args.known (c.is_shown.ensures.known c.if-is_shown.true) c.requires.shows in
    let lines = lines-shown r c.args.collect c.args.base s k c.args.evacuated c.args.known w c.block_word_in-word.ensures.valid c.block_word_in-word.ensures.code (c.is_shown.ensures.lines c.if-is_shown.true) c.requires.shows in
    either r c.args.collect l c.args.base k c.args.words.now c.sweep_by_bits-left.new.words c.requires.block
    (λ is. c.is_shown.ensures.head c.if-is_shown.true (kind-shown s k kinds.LargeHead w c.block_word_in-word.ensures.valid c.block_word_in-word.ensures.code is))
    (λ is. c.is_shown.ensures.tail c.if-is_shown.true (kind-shown s k kinds.LargeTail w c.block_word_in-word.ensures.valid c.block_word_in-word.ensures.code is)) lines c.sweep_by_bits-left.result
    (λ left. c.sweep_by_bits-left.ensures.left left r c.args.collect c.args.base shows.0 shows.1) (λ none. c.sweep_by_bits-left.ensures.none none r c.args.collect c.args.base shows.0)

pub release_kept_lines-requires-clause-lines : goal.release_kept_lines-requires-clause-lines
release_kept_lines-requires-clause-lines g c =
    let s = state_over c.args.words.now c.args.layout.now 0 0 in
    (kept-shown g.P.Plan.rules c.args.collect c.args.base s c.args.block c.args.evacuated c.args.known (c.keeps_lines.ensures.known c.if-keeps_lines.true) c.requires.shows).3

pub release_kept_lines-requires-clause-shows : goal.release_kept_lines-requires-clause-shows
release_kept_lines-requires-clause-shows g c =
    let s = state_over c.args.words.now c.args.layout.now 0 0 in
    (c.args.base, (kept-shown g.P.Plan.rules c.args.collect c.args.base s c.args.block c.args.evacuated c.args.known (c.keeps_lines.ensures.known c.if-keeps_lines.true) c.requires.shows).0)

pub returns-then-keeps_lines : goal.returns-then-keeps_lines
returns-then-keeps_lines g c =
    let s = state_over c.args.words.now c.args.layout.now 0 0 in
    let shows = kept-shown g.P.Plan.rules c.args.collect c.args.base s c.args.block c.args.evacuated c.args.known (c.keeps_lines.ensures.known c.if-keeps_lines.true) c.requires.shows in
    c.release_kept_lines.ensures c.args.collect c.args.base shows.0 shows.2
