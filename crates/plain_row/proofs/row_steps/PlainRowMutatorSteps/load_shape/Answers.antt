-- The object in the register can be read.
use Rattle.std.proofs.Common.{sym, subst, ℕ}
use Rattle.object_model.specs.Objects.{state_of}
use Rattle.object_model.specs.Lawful.{IsReadable}
use Rattle.plain_row.proofs.LoadSteps.{readable}
use Rattle.plain_row.proofs.row_steps.PlainRowMutatorSteps.load_shape.Goals as goal

pub shape_at-requires : goal.shape_at-requires
shape_at-requires c = subst (λ (n : ℕ). IsReadable (state_of c.args.self.now.row) n) (sym c.register.ensures)
    (readable c.args.self.now c.requires.ready c.args.register c.requires.register c.requires.some)
