use Rattle.std.proofs.Common.{refl}
use Rattle.object_model.specs.Objects.{state_over}
use Rattle.block_sweeps.proofs.TouchedLines.{adds-object}
use Rattle.block_sweeps.proofs.lines.add_object.Goals as goal

pub returns : goal.returns
returns g c = adds-object (state_over (g.W.Words.words c.args.words.now) c.args.layout.now 0 0) c.args.block c.args.offset c.address.result _ c.object_size-size.result
    c.args.lines.now c.set_run.new.lines c.address.ensures refl c.object_size-size.ensures c.set_run.ensures
