use Rattle.plan_api.proofs.ReserveLaws.{nothing-kept, copies-kept, headroom-kept}
use Rattle.plan_api.proofs.laws.reserves_are_kept.Goals as goal

pub returns-clause-nothing : goal.returns-clause-nothing
returns-clause-nothing c = nothing-kept

pub returns-clause-copies : goal.returns-clause-copies
returns-clause-copies c = copies-kept

pub returns-clause-headroom : goal.returns-clause-headroom
returns-clause-headroom c = headroom-kept
