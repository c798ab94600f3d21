-- The room that a block of a mutator's own has for an object.
use Rattle.std.specs.Prelude.{◌≡◌, ◌≢◌, ℕ, ◌+◌, ◌<◌, ◌≤◌, ◌⊎◌, Option, Some, None}
use Rattle.heap_layout.specs.declared.block.Kind.{Kind}
use Rattle.heap_layout.specs.declared.region.Region.{Region}
use Rattle.object_model.specs.Objects.{HeapState, class_at}
use Rattle.sessions.specs.Fitting.{class_for}
use Rattle.plan_api.specs.Holes.{IsFirstHole}
use Rattle.local_allocators.specs.declared.own_block.OwnRoom.{OwnRoom}
use Rattle.local_allocators.specs.declared.own_block.OwnRoom.TheVariants.{Nothing, Rest, Hole}
use Rattle.local_allocators.specs.MutatorRegions.{FillsLines}

-- Block k, of which the region is left for its owner, has this room for an object of the size;
-- `hole` is the block of the owner's hole region. Without lines it is the region, if the block has
-- the size's class. Under lines it is the first hole with room from the region's end on, in the
-- block of the hole region alone.
abbrev pub IsOwnRoom : Kind → HeapState → Option ℕ → ℕ → Region → ℕ → OwnRoom → Type 0
IsOwnRoom fill s hole k region size Nothing =
    (FillsLines fill → hole ≡ Some k → IsFirstHole fill s k region.end size None)
    × ((FillsLines fill → ⊥)
    → (region.end < region.next + size) ⊎ (class_at s k ≢ class_for fill size))
IsOwnRoom fill s hole k region size Rest = (FillsLines fill → ⊥)
    × (class_at s k ≡ class_for fill size) × (region.next + size ≤ region.end)
IsOwnRoom fill s hole k region size (Hole next) = FillsLines fill × (hole ≡ Some k)
    × IsFirstHole fill s k region.end size (Some next)
