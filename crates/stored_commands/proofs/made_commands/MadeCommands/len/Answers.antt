use Rattle.std.proofs.Common.{sym}
use Rattle.stored_commands.proofs.Stretches.{trace-length}
use Rattle.stored_commands.proofs.made_commands.MadeCommands.len.Goals as goal

pub returns-clause-count : goal.returns-clause-count
returns-clause-count c = rw (← c.self.view_is) (sym (trace-length c.self.inside.stretch.count))
