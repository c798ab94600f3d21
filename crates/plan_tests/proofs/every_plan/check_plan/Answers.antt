use Rattle.std.proofs.Common.{sym, subst}
use Rattle.object_model.specs.Ages.{RemembersYoung}
use Rattle.object_model.proofs.Zeros.{remembers}
use Rattle.plan_tests.proofs.every_plan.check_plan.Goals as goal

-- an empty heap remembers
pub asks-requires : goal.asks-requires
asks-requires g c = λ young. subst RemembersYoung (sym c.in_ok-heap.ensures) (remembers _)
