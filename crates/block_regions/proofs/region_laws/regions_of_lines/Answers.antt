use Rattle.block_regions.proofs.LineRegions.{here-inside, here-next, here-some}
use Rattle.block_regions.proofs.region_laws.regions_of_lines.Goals as goal

pub returns-clause-inside : goal.returns-clause-inside
returns-clause-inside c = here-inside

pub returns-clause-next : goal.returns-clause-next
returns-clause-next c = here-next

pub returns-clause-some : goal.returns-clause-some
returns-clause-some c = here-some
