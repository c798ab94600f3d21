use Rattle.std.proofs.Common.{ap, refl, inl, inr, [], ◌∷◌}
use Rattle.ideal_heap.specs.declared.command.Command.TheVariants as command
use Rattle.ideal_heap.specs.declared.reply.Reply.TheVariants as reply
use Rattle.mutator_calls.specs.Effects.{nothing, enters, logs}
use Rattle.mutator_calls.proofs.access.put.Goals as goal

pub returns-then-needs_log-clause-goes : goal.returns-then-needs_log-clause-goes
returns-then-needs_log-clause-goes g c =
    let first = c.in-Ok.ensures.goes.0 in
    let looks = g.met.S.MutatorSteps.looks_again _ _ _ first c.needs_log.ensures.looks in
    let address = g.S.MutatorSteps.address c.needs_log.new.seat c.args.s in
    let needed = c.needs_log.ensures.needed c.if-needs_log.true in (
      address ∷ [],
      g.met.S.MutatorSteps.one_after_another _ _ _ nothing (logs (address ∷ []) (command.Put c.args.s c.args.i c.args.v) reply.Done)
          (g.met.S.MutatorSteps.loads_do_nothing _ _ looks) c.log_and_store_field.ensures.goes,
      inr (
        ap (λ a. a ∷ []) (g.met.S.MutatorSteps.registers_stay _ _ c.args.s looks),
        refl,
        g.met.S.MutatorSteps.plans_stay _ _ first needed.0,
        g.met.S.MutatorSteps.ages_stay _ _ c.args.s first needed.1,
        g.met.S.MutatorSteps.marks_stay _ _ c.args.s first needed.2,
      ),
    )

pub returns-else-needs_log-clause-goes : goal.returns-else-needs_log-clause-goes
returns-else-needs_log-clause-goes g c =
    let looks = g.met.S.MutatorSteps.looks_again _ _ _ c.in-Ok.ensures.goes.0 c.needs_log.ensures.looks in (
      [],
      g.met.S.MutatorSteps.one_after_another _ _ _ nothing (enters (command.Put c.args.s c.args.i c.args.v) reply.Done)
          (g.met.S.MutatorSteps.loads_do_nothing _ _ looks) c.store_field.ensures.goes,
      inl (refl, λ done. (c.needs_log.new.seat, looks, c.needs_log.ensures.barred c.if-needs_log.false)),
    )
