-- A stretch is drawn.
use Rattle.std.proofs.Common.{◌≡◌, ◌-◌}
use Rattle.stored_commands.specs.Stretches.{IsStretch}
use Rattle.stored_commands.proofs.made_commands.draw_around.Given as goal

abbrev pub invariant-loop-stretch : goal.invariant-loop-stretch
invariant-loop-stretch l = (IsStretch l.stretch) × (l.stretch.count ≡ l.fn.stretch.count)

abbrev pub decreases-loop-stretch : goal.decreases-loop-stretch
decreases-loop-stretch l = l.stretch.count - l.stretch.end
