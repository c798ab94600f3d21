use Rattle.std.proofs.Common.{◌<◌, ◌^◌, arith, rules}
use Rattle.racing_mutator.proofs.Looking.{poll-loads}
use Rattle.racing_mutator.proofs.Barrier.{stop-small}
use Rattle.racing_mutator.proofs.racing.Racing.stop_word.Goals as goal

pub returns-clause-looks : goal.returns-clause-looks
returns-clause-looks g c = poll-loads g.P.Plan.rules _ _ _ (search rules) (search rules) c.look.ensures.notes c.look.ensures.step c.requires.own.2 c.look.ensures.registers

pub overflow_cast-result : goal.overflow_cast-result
overflow_cast-result g c = let n : c.look.result < 2 ^ 32 = stop-small g.P.Plan.rules c.args.self.now _ _ c.requires.own.2 c.look.ensures.step in omega (arith, n)
