use Rattle.std.proofs.Common.{arith}
use Rattle.stored_commands.proofs.early_commands.EarlyCommands.push.Goals as goal

pub invariant_of-self : goal.invariant_of-self
invariant_of-self c = (omega (arith, c.len.ensures.count, c.len-2.ensures.count), omega (arith, c.len.ensures.small, c.len-2.ensures.small))
