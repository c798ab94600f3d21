use Rattle.std.proofs.Common.{sym, subst}
use Rattle.sessions.specs.Grants.{BlockCounts, HoldsReserve}
use Rattle.sessions.specs.Fitting.{counts_of}
use Rattle.plan_api.proofs.Takings.{taken-counts}
use Rattle.plan_api.proofs.laws.plans_hold_reserves.Goals as goal

pub returns-clause-clear : goal.returns-clause-clear
returns-clause-clear g c = g.met.P.Plan.holes_are_clear

pub returns-clause-reserve : goal.returns-clause-reserve
returns-clause-reserve g c = λ old new n holds few takes.
    let counts = taken-counts g.P.Plan.rules.fill old new n g.met.P.Plan.fill_has_holes takes in
    subst (λ (x : BlockCounts). HoldsReserve g.P.Plan.rules.reserve x) (sym counts.1) (g.met.P.Plan.reserve_is_kept (counts_of old) n holds few)
