use Rattle.std.proofs.Common.{◌<◌, ◌≤◌, lit<, arith}
use Rattle.sessions.proofs.WorkedFits as worked
use Rattle.sessions.proofs.fitting_laws.grants_on_worked_heaps.Goals as goal

pub returns-clause-nothing : goal.returns-clause-nothing
returns-clause-nothing c = (lit< tt, λ grant. let wrong : 0 < 0 = grant in omega arith)

pub returns-clause-copies : goal.returns-clause-copies
returns-clause-copies c = (lit< tt, λ grant. let wrong : 3 < 2 = grant in omega arith)

pub returns-clause-headroom : goal.returns-clause-headroom
returns-clause-headroom c = (lit< tt, λ grant. let wrong : 1 < 1 = grant in omega arith)

pub returns-clause-run : goal.returns-clause-run
returns-clause-run c = (lit< tt, λ grant. let wrong : 4 ≤ 3 = grant in omega arith)

pub returns-clause-copied : goal.returns-clause-copied
returns-clause-copied c = (lit< tt, λ grant. let wrong : 4 ≤ 3 = grant in omega arith)

pub returns-clause-headed : goal.returns-clause-headed
returns-clause-headed c = (lit< tt, λ grant. let wrong : 4 ≤ 3 = grant in omega arith)

pub returns-clause-mixed : goal.returns-clause-mixed
returns-clause-mixed c = (lit< tt, (λ grant. let wrong : 6 < 1 = grant in omega arith), (λ grant. let wrong : 1 < 1 = grant in omega arith))

pub returns-clause-odd : goal.returns-clause-odd
returns-clause-odd c = (lit< tt, λ grant. let wrong : 3 < 3 = grant in omega arith)

pub returns-clause-holds : goal.returns-clause-holds
returns-clause-holds c = worked.holds-none

pub returns-clause-after : goal.returns-clause-after
returns-clause-after c = worked.grant-after
