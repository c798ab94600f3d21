-- The number of the heap rises, and the collection is counted.
use Rattle.std.proofs.Common.{refl, ◌∙◌, ap}
use Rattle.object_model.specs.Objects.{state_of}
use Rattle.object_model.specs.declared.collect.Collect.TheVariants.{Full}
use Rattle.object_model.proofs.Counts.{counted, lawful-counted}
use Rattle.managed_heap.proofs.Collected.{stopped-made}
use Rattle.managed_heap.proofs.CountedStops.{counted-collection}
use Rattle.managed_heap.proofs.stopped_heap.StoppedHeap.count_collection.Goals as goal

pub from_row-heap-requires : goal.from_row-heap-requires
from_row-heap-requires g c = lawful-counted (state_of c.into_row-row.result) c.into_row-row.ensures.lawful

pub returns-clause-collected : goal.returns-clause-collected
returns-clause-collected g c =
    counted-collection g.P.Plan.plan g.P.Plan.rules g.met.P.Plan.rules_are_of_plan c.args.self _ c.requires.stopped c.requires.none
    (c.from_row-heap.ensures ∙ ap counted c.into_row-row.ensures.state) refl refl refl c.renew_notes.ensures.notes c.renew_notes.ensures.flags

pub returns-clause-stopped : goal.returns-clause-stopped
returns-clause-stopped g c = let made = returns-clause-collected g c in stopped-made g.P.Plan.rules Full c.args.self _ made.0 made.1 c.requires.stopped
