use Rattle.programs.proofs.GrowthLemmas as growth
use Rattle.programs.proofs.growth.heaps_grow.Goals as goal

pub returns-clause-after : goal.returns-clause-after
returns-clause-after c = growth.after-grown

pub returns-clause-step : goal.returns-clause-step
returns-clause-step c = growth.step-grown

pub returns-clause-ideal : goal.returns-clause-ideal
returns-clause-ideal c = growth.ideal-grown
