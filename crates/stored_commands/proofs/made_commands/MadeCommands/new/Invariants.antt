-- So many forms are there.
use Rattle.std.proofs.Common.{◌≤◌, length}
use Rattle.stored_commands.proofs.made_commands.MadeCommands.new.Given as goal

abbrev pub invariant-loop : goal.invariant-loop
invariant-loop l = l.counter ≤ length l.drawn.items
