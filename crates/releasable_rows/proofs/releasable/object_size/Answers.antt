use Rattle.std.proofs.Common.{sym, ◌∙◌}
use Rattle.object_model.specs.Objects.{state_over}
use Rattle.releasable_rows.proofs.TestedBlocks.{no-shape}
use Rattle.releasable_rows.proofs.releasable.object_size.Goals as goal

pub returns-in_default-clause-none : goal.returns-in_default-clause-none
returns-in_default-clause-none g c layout = no-shape (state_over (g.W.Words.words c.args.words.now) layout 0 0) c.args.address
    (λ x refs nums is. c.in_default.ensures.none x refs nums (is ∙ sym c.get-2.ensures))
