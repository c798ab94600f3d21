-- The first commands are stored.
use Rattle.std.proofs.Common.{◌≡◌, take}
use Rattle.stored_commands.proofs.lists.stored.Given as goal

abbrev pub invariant-loop-command : goal.invariant-loop-command
invariant-loop-command l = l.trace ≡ take l.command-index l.commands
