use Rattle.std.proofs.Common.{arith}
use Rattle.stored_commands.proofs.Copies.{copied-more, copied-all}
use Rattle.stored_commands.proofs.lists.commands_of.Goals as goal

pub loop-command-preserved : goal.loop-command-preserved
loop-command-preserved c = rw c.in_ok-push.ensures.items (copied-more c.args.trace.now c.loop-command.commands.items c.command.result c.loop-command.invariant (grind arith))

pub returns : goal.returns
returns c = copied-all c.args.trace.now c.loop-command.commands.items c.loop-command.invariant (grind arith)
