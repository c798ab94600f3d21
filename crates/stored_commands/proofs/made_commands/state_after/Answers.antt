use Rattle.std.proofs.Common.{◌≡◌, ◌∙◌, arith, ap}
use Rattle.stored_commands.specs.Stretches.{state_at}
use Rattle.stored_commands.proofs.Stretches.{state-more}
use Rattle.stored_commands.proofs.made_commands.state_after.Goals as goal

pub loop-i-preserved : goal.loop-i-preserved
loop-i-preserved c = λ n is. state-more n c.loop-i.i c.loop-i.draws.state c.form.new.self.state _ (c.loop-i.invariant n is) c.form.ensures

pub returns : goal.returns
returns c =
    let most = c.loop-i.auto.i-end c.requires in
    let end : c.loop-i.i ≡ c.args.k = omega (arith, most, c.loop-i-test.false) in
    λ n is. c.loop-i.invariant n is ∙ ap (λ k. state_at n k) end
