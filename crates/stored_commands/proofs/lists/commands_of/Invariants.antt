-- The first commands are copied.
use Rattle.std.proofs.Common.{◌≡◌, ◌-◌, take, length}
use Rattle.stored_commands.proofs.lists.commands_of.Given as goal

abbrev pub invariant-loop-command : goal.invariant-loop-command
invariant-loop-command l = l.commands.items ≡ take (length l.commands.items) l.trace

abbrev pub decreases-loop-command : goal.decreases-loop-command
decreases-loop-command l = length l.trace - length l.commands.items
