-- Where the next object goes, of the two regions that a mutator fills under a plan with lines.
use Rattle.heap_layout.specs.declared.layout.TheConstants.{LINE_WORDS}
use Rattle.std.specs.Prelude.{◌≡◌, ℕ, ◌+◌, ◌<◌, ◌≤◌, ◌⊎◌}
use Rattle.heap_layout.specs.declared.region.Region.{Region}
use Rattle.plan_api.specs.declared.cursors.Cursors.{Cursors}

-- the region has room for the size
abbrev pub RegionHasRoom : Region → ℕ → Type 0
RegionHasRoom region size = region.next + size ≤ region.end

-- the region after its first `size` words were taken
abbrev pub region_after : Region → ℕ → Region
region_after region size = record region { next = region.next + size }

-- The overflow region is tried: the size is above a line, and the hole region lacks room.
pub record TriesOverflow (cursors : Cursors) (size : ℕ) : Type 0 where
  pub above : LINE_WORDS < size
  pub full : RegionHasRoom cursors.hole size → ⊥

-- The object is at offset `at` of block k: the first words of the hole region, which has room.
pub record PlacesInHole (old new : Cursors) (size k at : ℕ) : Type 0 where
  pub room : RegionHasRoom old.hole size
  pub block : k ≡ old.hole_block
  pub offset : at ≡ old.hole.next
  pub after : new ≡ record old { hole = region_after old.hole size }

-- The object is at offset `at` of block k: the first words of the overflow region, which is tried
-- and has room.
pub record PlacesInOverflow (old new : Cursors) (size k at : ℕ) : Type 0 where
  pub tried : TriesOverflow old size
  pub room : RegionHasRoom old.over size
  pub block : k ≡ old.over_block
  pub offset : at ≡ old.over.next
  pub after : new ≡ record old { over = region_after old.over size }

-- the object is placed in one of the two regions, and the other one stays as it is
abbrev pub PlacesInRegion : Cursors → Cursors → ℕ → ℕ → ℕ → Type 0
PlacesInRegion old new size k at = PlacesInHole old new size k at
    ⊎ PlacesInOverflow old new size k at

-- no region that is tried has room
pub record LacksRoom (cursors : Cursors) (size : ℕ) : Type 0 where
  pub hole : RegionHasRoom cursors.hole size → ⊥
  pub over : TriesOverflow cursors size → RegionHasRoom cursors.over size → ⊥
