use Rattle.std.proofs.Common.{subst, sym}
use Rattle.ideal_heap.specs.declared.command.Command.TheVariants as command
use Rattle.mutator_calls.specs.Effects.{nothing, enters}
use Rattle.mutator_calls.proofs.access.swap.Goals as goal

pub returns-in-Ok-clause-goes : goal.returns-in-Ok-clause-goes
returns-in-Ok-clause-goes g c =
    subst (λ r. g.S.MutatorSteps.makes_steps c.args.seat.now (enters (command.Swap c.args.s c.args.j c.args.was c.args.next) r)
    c.exchange_number.new.self) (sym c.yes_or_no.ensures)
    (g.met.S.MutatorSteps.one_after_another _ _ _ nothing _ (g.met.S.MutatorSteps.loads_do_nothing _ _ c.in-Ok.ensures.goes.0)
    c.exchange_number.ensures.goes)
