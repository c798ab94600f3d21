-- Where one mutator puts a new object, in any world.
use Rattle.std.specs.Prelude.{◌≡◌, ℕ, ◌+◌, ◌⊎◌, Some}
use Rattle.heap_layout.specs.Zones.{block_start}
use Rattle.heap_layout.specs.declared.block.Kind.{Kind}
use Rattle.object_model.specs.Objects.{HeapState, owner_at}
use Rattle.sessions.specs.Fitting.{HasCellFor, class_for}
use Rattle.plan_api.specs.declared.cursors.Cursors.{Cursors}
use Rattle.plan_api.specs.Cursors.{TriesOverflow, PlacesInRegion}
use Rattle.local_allocators.specs.MutatorRegions.{MutatorRegions, FillsLines, cursors_of, TriesBlock}
use Rattle.local_allocators.specs.MutatorRegions.{KeepsOthers, OffersRoom, MayLeaveClass}

-- What a world is to the allocation of one mutator: the kind of the blocks that mutators fill, the
-- heap, and the mutator's number and regions.
pub record LocalView : Type 0 where
  pub fill : Kind
  pub heap : HeapState
  pub number : ℕ
  pub regions : MutatorRegions

-- The new object at the address lies in a block that the mutator allocates objects of this size in
-- now, which it owns. It begins the first hole with room for it, of a block that was the mutator's
-- or nobody's, or a block that was Free. In cells it has one of the class for the size. Under lines
-- it may also begin the rest of the region that takes it, or a later hole of the block of the hole
-- region; and it is in the one of the two regions that takes it, which begins after it now:
-- `before` are the two as the object was placed. The mutator's other regions stay.
pub record IsPlacedIn (old new : LocalView) (address size : ℕ) : Type 0 where
  pub block : ℕ
  pub offset : ℕ
  pub place : address ≡ block_start new.heap.blocks block + offset
  pub owner : owner_at new.heap block ≡ new.number
  pub current : TriesBlock new.fill new.regions size block
  pub cell : HasCellFor new.fill new.heap block offset size
  pub spot : OffersRoom old.fill old.regions old.heap old.number block offset size
  -- a block that the mutator finds is the one for the size's class, but a Free one in overflow
  -- allocation
  pub class : MayLeaveClass old.fill old.regions old.heap old.number size block
      ⊎ (new.regions.blocks (class_for new.fill size) ≡ Some block)
  pub before : Cursors
  pub region : FillsLines new.fill
      → PlacesInRegion before (cursors_of new.regions) size block offset
  pub others : KeepsOthers old.fill size (FillsLines old.fill × TriesOverflow before size)
      old.regions new.regions
