use Rattle.std.proofs.Common.{◌≤◌, arith}
use Rattle.plan_api.proofs.PartLaws.{whole-part}
use Rattle.plan_api.proofs.laws.first_parts.Goals as goal

pub returns-clause-next : goal.returns-clause-next
returns-clause-next c = λ fill s k from size x y one other.
    let low : x.next ≤ y.next = one.first y.next y.end other.hole in
    let high : y.next ≤ x.next = other.first x.next x.end one.hole in
    omega (arith, low, high)

pub returns-clause-none : goal.returns-clause-none
returns-clause-none c = λ fill s k from size x none one. none x.next x.end one.hole

pub returns-clause-before : goal.returns-clause-before
returns-clause-before c = λ fill s k size at x one hole. let found = whole-part fill s k size at hole in one.first at found.0 found.1
