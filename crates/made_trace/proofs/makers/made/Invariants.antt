-- The first commands are copied.
use Rattle.std.proofs.Common.{◌≡◌, ◌-◌, take, length}
use Rattle.stored_commands.specs.Made.{made_trace}
use Rattle.made_trace.proofs.makers.made.Given as goal

abbrev pub invariant-loop-command : goal.invariant-loop-command
invariant-loop-command l = (l.commands.items ≡ take (length l.commands.items) l.trace) × (l.trace ≡ made_trace l.n)

abbrev pub decreases-loop-command : goal.decreases-loop-command
decreases-loop-command l = length l.trace - length l.commands.items
