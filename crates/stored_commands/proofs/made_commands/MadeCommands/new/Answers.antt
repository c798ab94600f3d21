use Rattle.std.proofs.Common.{◌≤◌, length, arith}
use Rattle.stored_commands.proofs.Stretches.{drawn-none}
use Rattle.stored_commands.proofs.made_commands.MadeCommands.new.Goals as goal

pub invariant_of-result : goal.invariant_of-result
invariant_of-result c =
    let many : 1024 ≤ length c.loop.drawn.items = omega (arith, c.loop.invariant, c.loop-test.false) in record {
      order = omega arith;
      within = omega arith;
      few = omega arith;
      room = λ some. omega (arith, many);
      state = c.from.ensures;
      drawn = drawn-none c.args.count 0 0 c.loop.drawn.items (omega arith);
    }
