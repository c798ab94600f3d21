use Rattle.std.proofs.Common.{subst}
use Rattle.ideal_heap.specs.declared.command.Command.TheVariants as command
use Rattle.mutator_calls.specs.Effects.{nothing, enters}
use Rattle.mutator_calls.proofs.access.get.Goals as goal

pub returns-in-Ok-clause-goes : goal.returns-in-Ok-clause-goes
returns-in-Ok-clause-goes g c =
    let found = c.load_field.ensures.goes in
    subst (λ r. g.S.MutatorSteps.makes_steps c.args.seat.now (enters (command.Get c.args.d c.args.s c.args.i) r) c.found.new.seat)
    (c.found.ensures.found found.0 found.2)
    (g.met.S.MutatorSteps.one_after_another _ _ _ nothing (enters (command.Get c.args.d c.args.s c.args.i) found.0)
    (g.met.S.MutatorSteps.loads_do_nothing _ _ c.in-Ok.ensures.goes.0)
    (g.met.S.MutatorSteps.one_after_another _ _ _ (enters (command.Get c.args.d c.args.s c.args.i) found.0) nothing found.1
    (g.met.S.MutatorSteps.loads_do_nothing _ _ c.found.ensures.looks)))
