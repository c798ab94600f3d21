use Rattle.object_model.specs.Objects.{state_over}
use Rattle.plan_api.proofs.YoungBits.{YoungLeft}
use Rattle.plan_api.proofs.ages.begins_young_in.Given as goal

abbrev pub invariant-loop-rest : goal.invariant-loop-rest
invariant-loop-rest g l = YoungLeft (state_over (g.W.Words.words l.words) l.layout 0 l.base) l.index l.rest

abbrev pub decreases-loop-rest : goal.decreases-loop-rest
decreases-loop-rest g l = l.rest
