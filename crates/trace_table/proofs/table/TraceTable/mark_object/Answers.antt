use Rattle.std.proofs.Common.{◌≡◌, ℕ, ◌+◌, ◌-◌, ◌/◌, ◌≤◌, ap, ◌∙◌, subst, arith}
use Rattle.heap_layout.specs.Zones.{line_at, row_words}
use Rattle.object_model.specs.Lines.{TouchesLine}
use Rattle.trace_core.specs.Setups.{Setup, blocks, size}
use Rattle.trace_table.specs.Seats.{setup_at}
use Rattle.trace_table.proofs.MarkedLines.{marks-not, marks-trans, touched-between, lines-next}
use Rattle.trace_table.proofs.table.TraceTable.mark_object.Goals as goal

pub loop-word-init : goal.loop-word-init
loop-word-init c = record {
  seat = c.requires.seat;
  marks = marks-not c.args.seat.now.seat.me.0;
  lines = λ line least most below. absurd (omega arith);
}

pub loop-word-preserved : goal.loop-word-preserved
loop-word-preserved c = let i = c.loop-word.invariant in record {
  seat = c.mark_word.ensures.seat;
  marks = marks-trans _ _ _ i.marks c.mark_word.ensures.marks;
  lines = lines-next (setup_at c.args.self.now) c.loop-word.seat.seat.me.0 c.mark_word.new.seat.seat.me.0 c.line_of-first.result c.line_of-last.result c.loop-word.word
      c.mark_word.ensures.marks.keeps i.lines c.mark_word.ensures.lines;
}

pub returns-clause-lines : goal.returns-clause-lines
returns-clause-lines c = λ line touches. (let p : Setup = setup_at c.args.self.now in let t : ℕ = c.args.target in let x : ℕ = c.args.x in
    let size-is : c.args.words ≡ size p x = c.requires.words in let same : c.args.self.now.layout.blocks ≡ blocks p = c.requires.table.layout in
    let between = touched-between p x t c.line_of-first.result c.line_of-last.result c.requires.start (subst (λ n. t + n ≤ row_words (blocks p)) size-is c.requires.within)
    (c.line_of-first.ensures.line ∙ ap (λ b. line_at b t) same)
    (c.line_of-last.ensures.line ∙ ap (λ b. line_at b (t + c.args.words - 1)) same ∙ ap (λ n. line_at (blocks p) (t + n - 1)) size-is)
    line (subst (λ n. TouchesLine (blocks p) t n line) size-is touches) in
    let most : c.line_of-last.result / 64 + 1 ≤ c.loop-word.word = omega arith in
    c.loop-word.invariant.lines line between.0 between.1 (let below = between.1 in omega arith))
