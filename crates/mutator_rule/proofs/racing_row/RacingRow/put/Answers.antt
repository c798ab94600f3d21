-- The word is there already, or the seat is as it was, and stores it.
use Rattle.std.proofs.Common.{◌≡◌, sym, subst, ℕ}
use Rattle.mutator_core.specs.Machine.{word_of_event, stored, local_after}
use Rattle.mutator_core.specs.Guards.{MayStep}
use Rattle.mutator_rule.specs.declared.views.MutatorView.{MutatorView}
use Rattle.mutator_rule.specs.Views.{epoch_with}
use Rattle.mutator_rule.specs.Logs.{MakesStep}
use Rattle.mutator_rule.specs.Seats.{known}
use Rattle.mutator_rule.proofs.racing_row.RacingRow.put.Goals as goal

pub put_as-requires-clause-may : goal.put_as-requires-clause-may
put_as-requires-clause-may g c =
    subst (λ (v : MutatorView). MayStep (epoch_with g.P.EpochRules.rules v.start) v.local c.args.event.now) (sym (c.finds_as.ensures.nothing c.if-finds_as.false)) c.requires.may

pub put_as-requires-clause-place : goal.put_as-requires-clause-place
put_as-requires-clause-place g c =
    subst (λ (v : MutatorView). word_of_event (epoch_with g.P.EpochRules.rules v.start) v.local c.args.event.now ≡ c.args.at) (sym (c.finds_as.ensures.nothing c.if-finds_as.false)) c.requires.place

pub put_as-requires-clause-stored : goal.put_as-requires-clause-stored
put_as-requires-clause-stored g c =
    subst (λ (v : MutatorView). stored (epoch_with g.P.EpochRules.rules v.start) v.local c.args.event.now ≡ (λ (n : ℕ). c.args.new)) (sym (c.finds_as.ensures.nothing c.if-finds_as.false)) c.requires.stored

pub put_as-requires-clause-quiet : goal.put_as-requires-clause-quiet
put_as-requires-clause-quiet g c =
    subst (λ (v : MutatorView). (n : ℕ) → (local_after (epoch_with g.P.EpochRules.rules v.start) v.local c.args.event.now n).registers ≡ v.local.registers)
    (sym (c.finds_as.ensures.nothing c.if-finds_as.false)) c.requires.quiet

pub put_as-requires-clause-births : goal.put_as-requires-clause-births
put_as-requires-clause-births g c =
    subst (λ (v : MutatorView). (n : ℕ) → (local_after (epoch_with g.P.EpochRules.rules v.start) v.local c.args.event.now n).births ≡ v.local.births)
    (sym (c.finds_as.ensures.nothing c.if-finds_as.false)) c.requires.births

pub returns-clause-step : goal.returns-clause-step
returns-clause-step g c =
    let step = c.put_as.ensures.step in
    (step.0, subst (λ (v : MutatorView). MakesStep g.P.EpochRules.rules v c.args.event.now step.0 (known c.put_as.new.me)) (c.finds_as.ensures.nothing c.if-finds_as.false) step.1)

pub returns-then-finds_as-clause-step : goal.returns-then-finds_as-clause-step
returns-then-finds_as-clause-step g c = (c.args.new, c.finds_as.ensures.step c.if-finds_as.true)
