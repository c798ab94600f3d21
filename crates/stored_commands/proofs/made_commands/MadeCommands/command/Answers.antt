use Rattle.std.proofs.Common.{sym, arith}
use Rattle.stored_commands.proofs.Stretches.{trace-past}
use Rattle.stored_commands.proofs.made_commands.MadeCommands.command.Goals as goal

pub returns-then-k-self : goal.returns-then-k-self
returns-then-k-self c = rw (← c.self.view_is) (sym (trace-past c.self.inside.stretch.count c.args.k (omega (arith, c.if-k-self.true))))
