-- Which region of a mutator takes a new object, and how its regions move.
use Rattle.std.specs.Prelude.{◌≡◌, ◌≢◌, ℕ, ◌+◌, if◌then◌else◌, nat_eq, Bool, true, false, Option, Some, None, ◌∷◌}
use Rattle.heap_layout.specs.Zones.{block_start}
use Rattle.heap_layout.specs.declared.block.Kind.TheVariants as kinds
use Rattle.heap_layout.specs.declared.region.Region.{Region}
use Rattle.sessions.specs.Fitting.{class_for}
use Rattle.sessions.specs.Plans.{Rules}
use Rattle.plan_api.specs.Cursors.{RegionHasRoom, LacksRoom, region_after}
use Rattle.plan_api.specs.Holes.{IsFirstPart}
use Rattle.block_regions.specs.Regions.{first_region}
use Rattle.local_allocators.specs.MutatorRegions.{MutatorRegions, FillsLines, GoesOver, Overflows, cursors_of}
use Rattle.mutator_core.specs.declared.state.Local.{Local}
use Rattle.mutator_core.specs.Machine.{Epoch, address_in}
use Rattle.mutator_rule.specs.declared.seat.MutatorSeat.{MutatorSeat}
use Rattle.mutator_rule.specs.Seats.{local_of, epoch_of_seat}
use Rattle.racing_rooms.specs.NoRoom.{regions_at}
use Rattle.racing_rooms.specs.OwnHoles.{IsNextCell}

abbrev pub is_block : ℕ → Option ℕ → Bool
is_block k None = false
is_block k (Some j) = nat_eq j k

-- the regions with this one left of block k
abbrev pub with_left : ℕ → Region → MutatorRegions → MutatorRegions
with_left k region r = record r { left = λ b. if is_block k b then region else r.left b }

-- the regions with block k as the one for objects of the class, or, if `over`, as that of the
-- overflow region
abbrev pub with_block : Bool → ℕ → ℕ → MutatorRegions → MutatorRegions
with_block false class k r =
    record r { blocks = λ c. if nat_eq c class then Some k else r.blocks c }
with_block true class k r = record r { over = Some k }

-- Where a mutator with the regions r found the region for an object of this size, in block k. It
-- becomes the overflow region, if `over`, else the region for the size's class.
pub data IsRegionFor (p : Epoch) (r : MutatorRegions) (was now : Local) (size k : ℕ) (over : Bool)
    (region : Region) : Type 0 where
  -- it is that for the size's class
  in_class : now.owned ≡ was.owned → (GoesOver p.rules.fill r size → ⊥)
      → r.blocks (class_for p.rules.fill size) ≡ Some k → over ≡ false → region ≡ r.left (Some k)
      → IsRegionFor p r was now size k over region
  -- it is the overflow region
  in_overflow : now.owned ≡ was.owned → GoesOver p.rules.fill r size → r.over ≡ Some k
      → over ≡ true → region ≡ r.left (Some k) → IsRegionFor p r was now size k over region
  -- without lines: it is what was left of a block of the mutator's
  own_block : now.owned ≡ was.owned → (FillsLines p.rules.fill → ⊥) → over ≡ false
      → region ≡ r.left (Some k) → IsRegionFor p r was now size k over region
  -- with lines, where no region that is tried has room: it is the first hole with room past the
  -- hole region, in the block of that
  later_hole : now.owned ≡ was.owned → LacksRoom (cursors_of r) size → r.blocks 0 ≡ Some k
      → over ≡ false → IsFirstPart kinds.Immix p.before k (r.left (Some k)).end size region
      → IsRegionFor p r was now size k over region
  -- it is the first hole with room of a block that nobody owned, which the mutator took
  unowned_hole : now.owned
      ≡ record { block = k; class = class_for p.rules.fill size } ∷ was.owned
      → now.granted ≡ was.granted → over ≡ false
      → IsFirstPart p.rules.fill p.before k 0 size region
      → IsRegionFor p r was now size k over region
  -- it is a Free block, which the mutator took: its first cell, or all of it. In overflow
  -- allocation it becomes the overflow region.
  free_block : now.granted ≡ k ∷ was.granted → (over ≡ true → Overflows p.rules.fill r size)
      → (Overflows p.rules.fill r size → over ≡ true)
      → region ≡ first_region p.rules.fill (class_for p.rules.fill size)
      → IsRegionFor p r was now size k over region

-- What an object of this size leaves of the region that it begins, in block k: the rest of the
-- region, or the next free cell of the block.
pub record IsRestOf (p : Epoch) (l : Local) (k size : ℕ) (region rest : Region) : Type 0 where
  pub plain : p.rules.fill ≢ kinds.Cells → rest ≡ region_after region size
  pub cells : p.rules.fill ≡ kinds.Cells
      → IsNextCell p l k (class_for p.rules.fill size) region.end rest

-- The mutator found a region for an object of the size in block k. Its other regions are the same.
pub record FindsRegion (rules : Rules) (old : MutatorSeat) (size k : ℕ) (new : MutatorSeat)
    : Type 0 where
  pub over : Bool
  pub region : Region
  pub from : IsRegionFor (epoch_of_seat rules old) (regions_at old) (local_of old) (local_of new)
      size k over region
  pub regions : regions_at new
      ≡ with_left k region (with_block over (class_for rules.fill size) k (regions_at old))

-- The object of this size in register d begins what was left of block k, which begins after the
-- object now. All else that the mutator has left is the same.
pub record FillsFront (rules : Rules) (old : MutatorSeat) (k d size : ℕ) (new : MutatorSeat)
    : Type 0 where
  pub rest : Region
  pub room : RegionHasRoom ((regions_at old).left (Some k)) size
  pub front : address_in (local_of new) d ≡ block_start (epoch_of_seat rules old).before.blocks k
      + ((regions_at old).left (Some k)).next
  pub leaves : IsRestOf (epoch_of_seat rules old) (local_of new) k size
      ((regions_at old).left (Some k)) rest
  pub regions : regions_at new ≡ with_left k rest (regions_at old)

-- The object of this size in register d begins a region of the mutator, in block k, which begins
-- after the object now: the overflow region, if `over`, else the one for the size's class. The
-- mutator's other regions are the same.
pub record FillsRegion (rules : Rules) (old : MutatorSeat) (k d size : ℕ) (new : MutatorSeat)
    : Type 0 where
  pub over : Bool
  pub region : Region
  pub rest : Region
  pub from : IsRegionFor (epoch_of_seat rules old) (regions_at old) (local_of old) (local_of new)
      size k over region
  pub room : RegionHasRoom region size
  pub front : address_in (local_of new) d
      ≡ block_start (epoch_of_seat rules old).before.blocks k + region.next
  pub leaves : IsRestOf (epoch_of_seat rules old) (local_of new) k size region rest
  pub regions : regions_at new
      ≡ with_left k rest (with_block over (class_for rules.fill size) k (regions_at old))
