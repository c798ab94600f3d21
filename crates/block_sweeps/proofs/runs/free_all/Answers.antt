use Rattle.std.proofs.Common.{◌≡◌, subst, arith}
use Rattle.object_model.specs.Objects.{state_over}
use Rattle.block_sweeps.specs.RunSweeps.{FreesAll}
use Rattle.block_sweeps.proofs.FreedRuns.{frees-none, frees-more}
use Rattle.block_sweeps.proofs.runs.free_all.Goals as goal

pub loop-block-init : goal.loop-block-init
loop-block-init g c = frees-none (g.W.Words.words c.args.words.now) c.args.layout.now c.args.from

pub loop-block-preserved : goal.loop-block-preserved
loop-block-preserved g c = frees-more (g.W.Words.words c.args.words.now) (g.W.Words.words c.loop-block.words) (g.W.Words.words c.free_block.new.words) c.args.layout.now
    c.args.from c.loop-block.block c.loop-block.auto.block (omega arith) c.loop-block.invariant c.free_block.ensures

pub returns : goal.returns
returns g c =
    let all : c.loop-block.block ≡ c.args.to = omega arith in
    subst (FreesAll (state_over (g.W.Words.words c.args.words.now) c.args.layout.now 0 0) (state_over (g.W.Words.words c.loop-block.words) c.args.layout.now 0 0) c.args.from) all c.loop-block.invariant
