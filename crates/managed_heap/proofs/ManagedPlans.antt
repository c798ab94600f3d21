-- The plans that a manager runs.
use Rattle.std.proofs.Common.{◌≡◌, true, false}
use Rattle.heap_layout.specs.declared.block.Kind.TheVariants as kinds
use Rattle.sessions.specs.Plans.{Rules, NoGc, rules_of}
use Rattle.block_regions.specs.Notes.{FillsHoles}
use Rattle.collector.proofs.Offered.{full-offered, first-offered}
use Rattle.managed_heap.specs.Stopped.{IsManaged}

-- the collections are offered under all rules
pub managed : (r : Rules) → FillsHoles r.fill → IsManaged r
managed r fills = record { fill = fills; first = first-offered r; full = λ s remembers. full-offered r s }

pub holes : IsManaged (record (rules_of NoGc) { fill = kinds.Mature }) → ⊥
holes managed = let wrong : false ≡ true = managed.fill in cc
