use Rattle.heap_layout.proofs.ZoneLemmas.{cover, apart, in-zone_inside}
use Rattle.heap_layout.proofs.zones.zones_partition.Goals as goal

pub returns-clause-cover : goal.returns-clause-cover
returns-clause-cover c = cover

pub returns-clause-apart : goal.returns-clause-apart
returns-clause-apart c = apart

pub returns-clause-inside : goal.returns-clause-inside
returns-clause-inside c = in-zone_inside
