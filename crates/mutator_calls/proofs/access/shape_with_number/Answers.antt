use Rattle.mutator_calls.specs.Effects.{nothing}
use Rattle.mutator_calls.proofs.access.shape_with_number.Goals as goal

pub returns-then-j-shape-clause-goes : goal.returns-then-j-shape-clause-goes
returns-then-j-shape-clause-goes g c =
    g.met.S.MutatorSteps.one_after_another _ _ _ nothing _ (g.met.S.MutatorSteps.loads_do_nothing _ _ c.in_ok-shape.ensures.goes.0)
    c.answer_range.ensures.goes
