use Rattle.std.proofs.Common.{[], ◌∷◌, refl, ap, rules}
use Rattle.ideal_heap.specs.declared.command.Command.TheVariants as command
use Rattle.ideal_heap.specs.declared.reply.Reply.{Reply}
use Rattle.ideal_heap.specs.Runs.{entry}
use Rattle.racing_mutator.specs.RacingSeats.{local}
use Rattle.racing_mutator.proofs.Entered.{step-does}
use Rattle.racing_mutator.proofs.Pinned.{pin-reply}
use Rattle.racing_mutator.proofs.racing.RacingMutatorSteps.set_pin.Goals as goal

pub returns-clause-goes : goal.returns-clause-goes
returns-clause-goes g c = step-does g.P.Plan.rules _ _ _ _ (search rules) (search rules) c.set-word.ensures.notes refl c.set-word.ensures.step _
    (ap (λ (y : Reply). entry (local c.args.self.now).number (command.Pin c.args.s) y ∷ []) (pin-reply c.set-word.result _ _ _ c.pin_bit-at.ensures.place (search rules)))
    refl refl refl refl refl
