use Rattle.plan_api.proofs.Takings.{taken-counts}
use Rattle.plan_api.proofs.laws.taken_blocks_are_counted.Goals as goal

pub returns : goal.returns
returns c = taken-counts
