use Rattle.plan_api.proofs.PartLaws.{whole-part, part-whole, part-start, part-within, part-clear}
use Rattle.plan_api.proofs.laws.hole_parts.Goals as goal

pub returns-clause-whole : goal.returns-clause-whole
returns-clause-whole c = λ fill s k size at. (whole-part fill s k size at, part-whole fill s k size at)

pub returns-clause-start : goal.returns-clause-start
returns-clause-start c = part-start

pub returns-clause-within : goal.returns-clause-within
returns-clause-within c = part-within

pub returns-clause-clear : goal.returns-clause-clear
returns-clause-clear c = part-clear
