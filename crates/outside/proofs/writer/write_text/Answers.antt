use Rattle.std.proofs.Common.{arith, ◌-◌, ◌≤◌}
use Rattle.std.proofs.lemmas.Grind.{common_steps}
use Rattle.outside.proofs.Pieces.{writes_more}
use Rattle.outside.proofs.writer.write_text.Goals as goal

pub loop-at-preserved : goal.loop-at-preserved
loop-at-preserved g c =
    let few : c.in_ok-n.n ≤ c.min-end.result - c.loop-at.at = grind (arith, common_steps) in record {
      within = grind (arith, common_steps);
      later = omega (arith, c.loop-at.invariant.later, c.in_ok-n.ensures.later);
      written = writes_more _ _ _ _ _ _ _ few c.loop-at.invariant.written c.in_ok-n.ensures.added;
    }
