use Rattle.std.proofs.Common.{refl, ap, rules}
use Rattle.mutator_core.specs.declared.state.Local.{Local}
use Rattle.racing_mutator.proofs.Budgets.{ticket-fits}
use Rattle.racing_mutator.proofs.Entered.{step-makes}
use Rattle.racing_mutator.proofs.racing.Racing.draw_ticket.Goals as goal

pub returns-clause-makes : goal.returns-clause-makes
returns-clause-makes g c = step-makes g.P.Plan.rules _ _ _ _ (search rules) (search rules) c.add.ensures.notes refl c.add.ensures.step (λ some. ap (λ (l : Local). l.stop) c.add.ensures.step.local)

pub returns-clause-fits : goal.returns-clause-fits
returns-clause-fits g c = ticket-fits g.P.Plan.rules c.args.self.now _ c.add.result c.requires.ready.own.2 c.add.ensures.step
