use Rattle.plan_api.proofs.EvacuationLaws.{none-large, listed-moves}
use Rattle.plan_api.proofs.evacuation_laws.evacuated_blocks.Goals as goal

pub returns-clause-small : goal.returns-clause-small
returns-clause-small c = none-large

pub returns-clause-listed : goal.returns-clause-listed
returns-clause-listed c = listed-moves
