use Rattle.std.proofs.Common.{refl, arith}
use Rattle.stored_commands.proofs.Stretches.{drawn-none, trace-none}
use Rattle.stored_commands.proofs.made_commands.MadeCommands.none.Goals as goal

pub invariant_of-result : goal.invariant_of-result
invariant_of-result c = record {
  order = omega arith;
  within = omega arith;
  few = omega arith;
  room = λ some. absurd (omega (arith, some));
  state = refl;
  drawn = drawn-none 0 0 0 c.new.result.items (omega arith);
}

pub returns : goal.returns
returns c = trace-none
