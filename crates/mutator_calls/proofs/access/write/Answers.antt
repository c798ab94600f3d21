use Rattle.mutator_calls.specs.Effects.{nothing}
use Rattle.mutator_calls.proofs.access.write.Goals as goal

pub returns-in-Ok-clause-goes : goal.returns-in-Ok-clause-goes
returns-in-Ok-clause-goes g c =
    g.met.S.MutatorSteps.one_after_another _ _ _ nothing _ (g.met.S.MutatorSteps.loads_do_nothing _ _ c.in-Ok.ensures.goes.0)
    c.store_number.ensures.goes
