use Rattle.std.proofs.Common.{◌-◌, ◌≡◌, sym, ◌∙◌, true≢false, arith, slice_index}
use Rattle.object_model.specs.Objects.{state_over}
use Rattle.releasable_rows.proofs.TestedBlocks.{no-line-word}
use Rattle.releasable_rows.proofs.releasable.has_no_line.Goals as goal

pub returns-then-get-ne0 : goal.returns-then-get-ne0
returns-then-get-ne0 g c =
    let index = c.loop-index.index in
    let read : slice_index (g.W.Words.words c.args.words.now) index ≡ c.get.result = sym c.get.ensures in (
      λ wrong. absurd (true≢false (sym wrong)),
      λ none. absurd (no-line-word (state_over (g.W.Words.words c.args.words.now) c.args.layout.now 0 0) c.args.block
          (index - c.line_at-lines.result) index none (omega arith) (omega arith) (omega arith) (λ zero. c.if-get-ne0.true (sym read ∙ zero))),
    )
