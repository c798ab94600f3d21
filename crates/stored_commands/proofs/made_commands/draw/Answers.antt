use Rattle.std.proofs.Common.{◌≡◌, ◌∙◌, ℕ, ◌+◌, ◌<◌, arith, ap, length}
use Rattle.std.proofs.lemmas.List.{length-set}
use Rattle.stored_commands.specs.Stretches.{state_at}
use Rattle.stored_commands.proofs.Stretches.{state-more, drawn-more}
use Rattle.stored_commands.proofs.made_commands.draw.Goals as goal

pub loop-i-preserved : goal.loop-i-preserved
loop-i-preserved c =
    let start : ℕ = c.args.start in
    let i : ℕ = c.loop-i.i in
    let now = c.loop-i.invariant in
    let inside : i < length c.loop-i.forms = grind arith in
    let next : start + i + 1 ≡ start + (i + 1) = omega arith in record {
      len = length-set c.loop-i.forms i c.form.result ∙ now.len;
      state = λ n is. state-more n (start + i) c.loop-i.draws.state c.form.new.self.state _ (now.state n is) c.form.ensures ∙ ap (λ k. state_at n k) next;
      drawn = λ n is. drawn-more n start i c.loop-i.draws.state c.form.new.self.state c.loop-i.forms c.form.result inside (now.state n is) c.form.ensures (now.drawn n is);
    }
