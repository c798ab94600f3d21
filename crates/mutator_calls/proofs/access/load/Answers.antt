use Rattle.std.proofs.Common.{subst}
use Rattle.ideal_heap.specs.declared.command.Command.TheVariants as command
use Rattle.mutator_calls.specs.Effects.{nothing, enters}
use Rattle.mutator_calls.proofs.access.load.Goals as goal

pub returns-clause-goes : goal.returns-clause-goes
returns-clause-goes g c =
    let found = c.load_global.ensures.goes in
    subst (λ r. g.S.MutatorSteps.makes_steps c.args.seat.now (enters (command.Load c.args.d c.args.g) r) c.found.new.seat)
    (c.found.ensures.found found.0 found.2)
    (g.met.S.MutatorSteps.one_after_another _ _ _ (enters (command.Load c.args.d c.args.g) found.0) nothing found.1
    (g.met.S.MutatorSteps.loads_do_nothing _ _ c.found.ensures.looks))
