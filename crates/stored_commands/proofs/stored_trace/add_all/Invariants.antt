-- The first commands are added.
use Rattle.std.proofs.Common.{◌≡◌, ◌++◌, take}
use Rattle.stored_commands.proofs.stored_trace.add_all.Given as goal

abbrev pub invariant-loop-k : goal.invariant-loop-k
invariant-loop-k l = l.to ≡ l.fn.to ++ take l.k l.commands
