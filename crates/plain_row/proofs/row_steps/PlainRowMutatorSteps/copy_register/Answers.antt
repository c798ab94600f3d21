-- The machine copies the register.
use Rattle.plain_row.proofs.LoadSteps.{copies}
use Rattle.plain_row.proofs.row_steps.PlainRowMutatorSteps.copy_register.Goals as goal

pub returns-clause-ready : goal.returns-clause-ready
returns-clause-ready c = (copies c.args.self.now c.requires.ready c.set_register.new.self c.args.d c.register-address.result c.set_register.ensures
    c.args.s c.requires.target c.requires.source c.register-address.ensures).after

pub returns-clause-goes : goal.returns-clause-goes
returns-clause-goes c = (copies c.args.self.now c.requires.ready c.set_register.new.self c.args.d c.register-address.result c.set_register.ensures
    c.args.s c.requires.target c.requires.source c.register-address.ensures).goes
