-- The machine clears the register.
use Rattle.std.proofs.Common.{refl}
use Rattle.plain_row.proofs.LoadSteps.{clears}
use Rattle.plain_row.proofs.row_steps.PlainRowMutatorSteps.clear_register.Goals as goal

pub returns-clause-ready : goal.returns-clause-ready
returns-clause-ready c = (clears c.args.self.now c.requires.ready c.set_register.new.self c.args.s 0 c.set_register.ensures c.requires.register refl).after

pub returns-clause-goes : goal.returns-clause-goes
returns-clause-goes c = (clears c.args.self.now c.requires.ready c.set_register.new.self c.args.s 0 c.set_register.ensures c.requires.register refl).goes
