-- The hole region stays where another block's region is filled, or a block is taken for the overflow region.
use Rattle.std.proofs.Common.{◌≡◌, refl, sym, ◌∙◌, ap, subst, ℕ, ◌+◌, ◌≤◌, ◌⊎◌, inl, inr, Option, List}
use Rattle.std.specs.Prelude.{Some, None, slice_get, slice_set}
use Rattle.heap_layout.specs.declared.region.Region.{Region}
use Rattle.block_regions.specs.declared.block_notes.BlockNote.{BlockNote}
use Rattle.block_regions.specs.declared.block_notes.BlockNote.TheVariants.{Owned}
use Rattle.block_regions.proofs.Elements.{set-other}
use Rattle.plan_api.specs.Cursors.{RegionHasRoom}
use Rattle.local_allocators.specs.MutatorRegions.{KeepsHole, cursors_of}
use Rattle.local_allocators.specs.NotedRegions.{region_of, region_noted}
use Rattle.local_allocators.specs.Seats.{block_of}
use Rattle.mutator_core.specs.Guards.{allowance}
use Rattle.mutator_rule.specs.declared.seat.MutatorSeat.{MutatorSeat}
use Rattle.mutator_rule.specs.Seats.{local_of, epoch_of_seat}
use Rattle.sessions.specs.Plans.{Rules}
use Rattle.racing_rooms.specs.NoRoom.{regions_at}
use Rattle.racing_mutator.specs.Searches.{KeepsHoleRegion, KeepsBlocks}

-- the note of one block, not that of the hole region, changed
module _ (a b : MutatorSeat) (k : ℕ) (note : BlockNote) (blocks : b.notes.blocks.items ≡ slice_set a.notes.blocks.items k note) (zero : block_of (Some b.notes.local) 0 ≡ block_of (Some a.notes.local) 0) (apart : block_of (Some a.notes.local) 0 ≡ Some k → ⊥) where
  left-same : (o : Option ℕ) → (o ≡ Some k → ⊥) → region_of (slice_set a.notes.blocks.items k note) o ≡ region_of a.notes.blocks.items o
  left-same None other = refl
  left-same (Some j) other = ap region_noted (set-other a.notes.blocks.items k note j (λ same. other (ap (λ (x : ℕ). Some x) same)))

  pub hole-kept : KeepsHole (regions_at a) (regions_at b)
  hole-kept = record {
    block = zero;
    region = ap (λ (o : Option ℕ). region_of b.notes.blocks.items o) zero ∙ ap (λ (ns : List BlockNote). region_of ns (block_of (Some a.notes.local) 0)) blocks ∙ left-same (block_of (Some a.notes.local) 0) apart;
  }

-- a block with room for the size is not that of a hole region without
pub room-apart : (seat : MutatorSeat) (k owner size : ℕ) (region : Region) → slice_get seat.notes.blocks.items k ≡ Some (Owned owner region) → region.next + size ≤ region.end → (RegionHasRoom (cursors_of (regions_at seat)).hole size → ⊥)
    → block_of (Some seat.notes.local) 0 ≡ Some k → ⊥
room-apart seat k owner size region note room full is = full (subst (λ (o : Option ℕ). RegionHasRoom (region_of seat.notes.blocks.items o) size) (sym is) (subst (λ (n : Option BlockNote). RegionHasRoom (region_noted n) size) (sym note) room))

-- one after another
pub hole-twice : (a m b : MutatorSeat) → KeepsHole (regions_at a) (regions_at m) → KeepsHole (regions_at m) (regions_at b) → KeepsHole (regions_at a) (regions_at b)
hole-twice a m b one two = record { block = two.block ∙ one.block; region = two.region ∙ one.region }

-- the hole region lacks room still, while it stays
pub still-full : (a m : MutatorSeat) (size : ℕ) → KeepsHole (regions_at a) (regions_at m) → (RegionHasRoom (cursors_of (regions_at a)).hole size → ⊥) → RegionHasRoom (cursors_of (regions_at m)).hole size → ⊥
still-full a m size keeps full room = full (subst (λ (r : Region). RegionHasRoom r size) keeps.region room)

-- what a search left of the hole region is left after the object was made
pub overflow-then : (rules : Rules) (a m b : MutatorSeat) (size : ℕ) → KeepsBlocks m b → ((RegionHasRoom (cursors_of (regions_at m)).hole size → ⊥) → KeepsHole (regions_at m) (regions_at b)) → KeepsHoleRegion rules a size m → KeepsHoleRegion rules a size b
overflow-then rules a m b size keeps then is over = elim (is over) as (λ _. KeepsHole (regions_at a) (regions_at b) ⊎ ((t : ℕ) × ((local_of b).ticket ≡ Some t) × (allowance (epoch_of_seat rules a) ≤ t))) [
  | inl kept ↦ inl (hole-twice a m b kept (then (still-full a m size kept over.over.tried.full)))
  | inr spent ↦ inr (spent.0, keeps.ticket ∙ spent.1, spent.2)
]
