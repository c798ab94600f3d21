-- The machine loads the global into the register.
use Rattle.object_model.specs.Objects.{state_of}
use Rattle.plain_row.proofs.LoadSteps.{order, loads-global, finds, reply_to}
use Rattle.plain_row.proofs.row_steps.PlainRowMutatorSteps.load_global.Goals as goal

pub global-address-requires-clause-order : goal.global-address-requires-clause-order
global-address-requires-clause-order c = order c.args.self.now c.requires.ready

pub returns-clause-ready : goal.returns-clause-ready
returns-clause-ready c = (loads-global c.args.self.now c.requires.ready c.set_register.new.self c.args.d c.global-address.result c.set_register.ensures
    c.args.g c.requires.register c.requires.global c.global-address.ensures.value).after

pub returns-clause-goes : goal.returns-clause-goes
returns-clause-goes c = (
  reply_to (state_of c.args.self.now.row) c.global-address.result,
  (loads-global c.args.self.now c.requires.ready c.set_register.new.self c.args.d c.global-address.result c.set_register.ensures
      c.args.g c.requires.register c.requires.global c.global-address.ensures.value).goes,
  finds c.args.self.now c.requires.ready c.set_register.new.self c.args.d c.global-address.result c.set_register.ensures c.requires.register,
)
