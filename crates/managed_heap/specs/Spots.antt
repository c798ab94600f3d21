-- Where an object is placed at a stop, and what that writes.
use Rattle.std.specs.Prelude.{◌≡◌, ℕ, ◌+◌, ◌<◌, ◌≤◌, ◌⊎◌, MatchBool, nat_eq}
use Rattle.heap_layout.specs.declared.block.Kind.{Kind}
use Rattle.heap_layout.specs.declared.block.Kind.TheVariants as kinds
use Rattle.heap_layout.specs.Zones.{block_start}
use Rattle.ideal_heap.specs.declared.name.Name.{Name}
use Rattle.object_model.specs.Objects.{HeapState, HasKind, size_of, blocks_for}
use Rattle.object_model.specs.declared.shape.TheConstants.{MAX_MEDIUM_WORDS}
use Rattle.object_model.specs.Births.{with_block, MakesRun}
use Rattle.object_model.specs.Changes.{WritesObject}
use Rattle.sessions.specs.Plans.{Rules}
use Rattle.sessions.specs.Fitting.{Fits, HasHole, HasSomeHole, class_for}
use Rattle.sessions.specs.Sessions.{block_of_kind}
use Rattle.large_space.specs.FreeRuns.{IsFirstRun}
use Rattle.plan_api.specs.Relisting.{Relists}
use Rattle.managed_heap.specs.declared.spot.Spot.{Spot}

-- An object of this size is to be placed here: at the start of the first hole with room in the
-- lowest block that has one, or, if there is none, at the start of the lowest Free block.
pub record IsPlaceIn (fill : Kind) (s : HeapState) (size : ℕ) (spot : Spot) : Type 0 where
  pub small : size ≤ MAX_MEDIUM_WORDS
  pub inside : spot.block < s.blocks
  pub spot_is : MatchBool spot.free
      (HasKind s spot.block kinds.Free × (spot.offset ≡ 0) × (HasSomeHole fill s size → ⊥))
      (HasHole fill s spot.block spot.offset size)
  pub lowest : (k from : ℕ) → HasHole fill s k from size
      → (spot.block < k) ⊎ ((spot.block ≡ k) × (spot.offset ≤ from))
  pub lowest_free : HasKind s spot.block kinds.Free → (k : ℕ) → HasKind s k kinds.Free
      → spot.block ≤ k

-- a large object of this size is to be placed here: at the start of the lowest run of as many Free
-- blocks as it needs
pub record IsRunAt (s : HeapState) (size : ℕ) (spot : Spot) : Type 0 where
  pub large : MAX_MEDIUM_WORDS < size
  pub count : spot.run ≡ blocks_for size
  pub start : spot.offset ≡ 0
  pub run : IsFirstRun s spot.block spot.run

-- an object of this size is to be placed here, a large one in a run of blocks
abbrev pub IsPlaceForSize : Kind → HeapState → ℕ → Spot → Type 0
IsPlaceForSize fill s size spot =
    MatchBool (nat_eq spot.run 0) (IsPlaceIn fill s size spot) (IsRunAt s size spot)

-- the size fits, and this is its place
pub record IsSpot (rules : Rules) (s : HeapState) (size : ℕ) (spot : Spot) : Type 0 where
  pub fits : Fits rules s size
  pub place : IsPlaceForSize rules.fill s size spot

-- The block of the spot gets its word if it is Free. All else is unchanged.
abbrev pub TakesSpotBlock : Kind → HeapState → Spot → ℕ → HeapState → Type 0
TakesSpotBlock fill old spot size new = MatchBool spot.free
    (new ≡ with_block old spot.block (block_of_kind fill (class_for fill size))) (new ≡ old)

-- The blocks of the spot become a run if it has one. Else its block gets its word if it is Free.
abbrev pub TakesSpot : Kind → HeapState → Spot → ℕ → HeapState → Type 0
TakesSpot fill old spot size new =
    MatchBool (nat_eq spot.run 0) (TakesSpotBlock fill old spot size new)
    (MakesRun old new spot.block spot.run)

-- The block of the spot is relisted: where mutators fill lines, its line bits become those of the
-- lines that its objects touch. The blocks of a run have no lines that are filled.
abbrev pub RelistsSpot : Rules → HeapState → Spot → HeapState → Type 0
RelistsSpot rules old spot new = MatchBool (nat_eq spot.run 0)
    (Relists rules old new spot.block × (new.number ≡ old.number) × (new.base ≡ old.base))
    (new ≡ old)

-- The object is written at the spot, whose blocks get their words first if they are Free. Then its
-- block is relisted.
pub record WritesAt (rules : Rules) (old : HeapState) (spot : Spot) (n : Name) (refs nums : ℕ)
    (new : HeapState) : Type 0 where
  pub between : HeapState
  pub block : TakesSpot rules.fill old spot (size_of refs nums) between
  pub written : HeapState
  pub object : WritesObject between written (block_start old.blocks spot.block + spot.offset)
      n refs nums
  pub relisted : RelistsSpot rules written spot new
