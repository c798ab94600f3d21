use Rattle.std.proofs.Common.{◌≡◌, ℕ, ◌+◌, ◌/◌, ◌%◌, ap, subst, arith, List}
use Rattle.heap_layout.specs.Zones.{first, LineWords}
use Rattle.line_bits.specs.LineMarks.{SetsRun}
use Rattle.line_bits.proofs.MarkedLines.{marks-in-word, marks-none, marks-more, marks-lines, last-address}
use Rattle.line_bits.proofs.marks.mark.Goals as goal

pub line_of-last-requires : goal.line_of-last-requires
line_of-last-requires g c = last-address c.args.layout.now.blocks c.args.address c.args.size c.requires.address c.requires.some c.requires.last

pub loop-word-init : goal.loop-word-init
loop-word-init g c = marks-none c.args.layout.now.blocks c.line_of-first.result c.line_of-last.result (g.W.Words.words c.args.words.now)

pub loop-word-preserved : goal.loop-word-preserved
loop-word-preserved g c =
    let b : ℕ = c.args.layout.now.blocks in
    let mid : List ℕ = g.W.Words.words c.loop-word.words in
    let new : List ℕ = g.W.Words.words c.set_run-in-loop-word.new.words in
    let word : ℕ = c.loop-word.word in
    let base = c.line_at-base.ensures in
    let at : c.line_at-base.result + word ≡ first b LineWords + word = omega arith in
    let sets : SetsRun mid new (first b LineWords + word) c.saturating_sub-low.result c.min-high.result =
    subst (λ (i : ℕ). SetsRun mid new i c.saturating_sub-low.result c.min-high.result) at c.set_run-in-loop-word.ensures in
    marks-more b c.line_of-first.result c.line_of-last.result word c.saturating_sub-low.result c.min-high.result (g.W.Words.words c.args.words.now) mid new
    c.loop-word.auto.word c.loop-word-test.true (omega (arith, c.saturating_sub-low.ensures)) (omega (arith, c.min-high.ensures))
    c.loop-word.invariant sets

pub returns : goal.returns
returns g c =
    let most = c.loop-word.auto.word-end (omega arith) in
    marks-lines c.args.layout.now c.args.address c.args.size c.line_of-first.result c.line_of-last.result c.loop-word.word (g.W.Words.words c.args.words.now) (g.W.Words.words c.loop-word.words)
    c.requires.address c.requires.some c.line_of-first.ensures.line c.line_of-last.ensures.line (omega arith) c.loop-word.invariant

pub returns-then-first-last : goal.returns-then-first-last
returns-then-first-last g c =
    let b : ℕ = c.args.layout.now.blocks in
    let old : List ℕ = g.W.Words.words c.args.words.now in
    let new : List ℕ = g.W.Words.words c.set_run.new.words in
    let from : ℕ = c.line_of-first.result in
    let to : ℕ = c.line_of-last.result in
    let base = c.line_at-base.ensures in
    let at : c.line_at-base.result + from / 64 ≡ first b LineWords + from / 64 = omega arith in
    let sets : SetsRun old new (first b LineWords + from / 64) (from % 64) (to % 64) =
    subst (λ (i : ℕ). SetsRun old new i (c.line_of-first.result % 64) (c.line_of-last.result % 64)) at c.set_run.ensures in
    marks-lines c.args.layout.now c.args.address c.args.size from to (from / 64 + 1) old new
    c.requires.address c.requires.some c.line_of-first.ensures.line c.line_of-last.ensures.line (ap (λ n. n + 1) c.if-first-last.true)
    (marks-in-word b from to old new c.if-first-last.true sets)
