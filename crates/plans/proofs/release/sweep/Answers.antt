use Rattle.std.proofs.Common.{sym, subst, ◌%◌, if◌then◌else◌}
use Rattle.object_model.specs.Objects.{state_over, block_word}
use Rattle.block_sweeps.specs.Sweeping.{Sweeps}
use Rattle.plan_api.proofs.SweptSmallBlocks.{unowned-code}
use Rattle.plans.proofs.release.sweep.Goals as goal

pub returns-then-kept-clause-swept : goal.returns-then-kept-clause-swept
returns-then-kept-clause-swept g c =
    let s = state_over (g.W.Words.words c.args.words.now) c.args.layout.now 0 0 in
    let t = state_over (g.W.Words.words c.release_block.new.words) c.args.layout.now 0 0 in
    subst (λ kept. Sweeps c.args.base (if kept then 8 else block_word s c.args.block % 65536) s t c.args.block) (sym c.if-kept.true) c.release_block.ensures.swept

pub returns-clause-swept : goal.returns-clause-swept
returns-clause-swept g c =
    let s = state_over (g.W.Words.words c.args.words.now) c.args.layout.now 0 0 in
    let t = state_over (g.W.Words.words c.sweep_block.new.words) c.args.layout.now 0 0 in
    subst (λ kept. Sweeps c.args.base (if kept then 8 else block_word s c.args.block % 65536) s t c.args.block) (sym c.if-kept.false)
    (subst (λ after. Sweeps c.args.base after s t c.args.block) (unowned-code c.args.word.now (block_word s c.args.block) c.requires.valid c.requires.code) c.sweep_block.ensures.swept)
