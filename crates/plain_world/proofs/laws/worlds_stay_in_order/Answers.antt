use Rattle.std.proofs.Common.{sym, subst}
use Rattle.sessions.specs.Collecting.{Remembers}
use Rattle.plain_row.proofs.EpochFacts as facts
use Rattle.plain_world.proofs.CallLemmas.{stop-cases}
use Rattle.plain_world.proofs.laws.worlds_stay_in_order.Goals as goal

pub returns-clause-order : goal.returns-clause-order
returns-clause-order g c = λ p i part is. facts.order p i is.log c.args.world.now.row is.at

pub returns-clause-remembers : goal.returns-clause-remembers
returns-clause-remembers g c = λ p i part is.
    subst (Remembers p.rules) (sym is.at.heap) (facts.moment p i is.log c.args.world.now.row is.at).epoch.remembers

pub returns-clause-stop : goal.returns-clause-stop
returns-clause-stop g c = λ p i part is. stop-cases c.args.world.now.row p i is.log is.at

pub returns-clause-fill : goal.returns-clause-fill
returns-clause-fill g c = λ p i part is. is.at.fill

pub returns-clause-allowance : goal.returns-clause-allowance
returns-clause-allowance g c = λ p i part is. is.at.allowed
