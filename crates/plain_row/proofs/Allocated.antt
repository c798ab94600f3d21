-- What an allocation changes in the world, in one record.
use Rattle.std.proofs.Common.{◌≡◌, sym, ◌∙◌, ap, subst, ℕ, ◌+◌, ◌≤◌, Vec, Global}
use Rattle.std.specs.Prelude.{Some, slice_get, slice_set}
use Rattle.heap_layout.specs.Zones.{block_start}
use Rattle.heap_layout.specs.declared.region.Region.{Region}
use Rattle.ideal_heap.specs.declared.name.Name.{Name}
use Rattle.ideal_heap.specs.Names.{name}
use Rattle.object_model.specs.declared.row.Row.{Row}
use Rattle.object_model.specs.Objects.{state_of, size_of}
use Rattle.object_model.specs.Changes.{WritesObject}
use Rattle.mutator_calls.specs.declared.need.Mutator.{Mutator}
use Rattle.plain_row.specs.declared.plain_row.PlainRow.{PlainRow}
use Rattle.block_regions.specs.declared.block_notes.BlockNote.{BlockNote}
use Rattle.block_regions.specs.declared.block_notes.BlockNote.TheVariants.{Owned}
use Rattle.plain_row.specs.Rows.{mutator_at_turn, number_at_turn, regions_at_turn}
use Rattle.block_regions.specs.Elements.{ChangesAt}
use Rattle.local_allocators.specs.MutatorRegions.{IsBlockFor}
use Rattle.block_regions.specs.Regions.{IsRestAfter}
use Rattle.plain_row.specs.Changes.{AllocatesInRow}

-- the mutator has an object more, at the start of the region that it allocates in, and owns what that leaves
pub record IsBorn (a b : PlainRow) (d : ℕ) (n : Name) (refs nums : ℕ) : Type 0 where
  pub block : ℕ
  pub region : Region
  pub left : Region
  pub turn : b.turn ≡ a.turn
  pub fill : b.fill ≡ a.fill
  pub young : b.young ≡ a.young
  pub allowance : b.allowance ≡ a.allowance
  pub counts : b.counts ≡ a.counts
  pub flags : b.flags ≡ a.flags
  pub owned : b.owned ≡ a.owned
  pub seats : b.seats ≡ a.seats
  pub current : IsBlockFor a.fill (regions_at_turn a) (size_of refs nums) block
  pub was : slice_get a.notes.items block ≡ Some (Owned (number_at_turn a) region)
  pub room : region.next + size_of refs nums ≤ region.end
  pub rest : IsRestAfter a.fill (state_of a.row) block (size_of refs nums) region left
  pub notes : ChangesAt a.notes.items b.notes.items block (Owned (number_at_turn a) left)
  pub mutator : Mutator
  pub is : mutator_at_turn a ≡ Some mutator
  pub mutators : ChangesAt a.mutators.items b.mutators.items a.turn (record mutator {
    births = mutator.births + 1;
    registers = slice_set mutator.registers d (block_start a.row.layout.blocks block + region.next);
  })
  pub named : n ≡ name mutator.number (mutator.births + 1)
  pub object : WritesObject (state_of a.row) (state_of b.row) (block_start a.row.layout.blocks block + region.next) n refs nums

pub allocated : (a b : PlainRow) (d : ℕ) (n : Name) (refs nums : ℕ) → AllocatesInRow a b d n refs nums → IsBorn a b d n refs nums
allocated a b d n refs nums by = record {
  block = by.block;
  region = by.region.region;
  left = by.region.rest;
  turn = ap (λ w. w.turn) by.rest ∙ by.count.plan.turn ∙ by.region.plan.turn;
  fill = ap (λ w. w.fill) by.rest ∙ by.count.plan.fill ∙ by.region.plan.fill;
  young = ap (λ w. w.young) by.rest ∙ by.count.plan.young ∙ by.region.plan.young;
  allowance = ap (λ w. w.allowance) by.rest ∙ by.count.plan.allowance ∙ by.region.plan.allowance;
  counts = ap (λ w. w.counts) by.rest ∙ by.count.plan.counts ∙ by.region.plan.counts;
  flags = ap (λ w. w.flags) by.rest ∙ by.count.plan.flags ∙ by.region.plan.flags;
  owned = ap (λ w. w.owned) by.rest ∙ by.count.owned ∙ by.region.owned;
  seats = ap (λ w. w.seats) by.rest ∙ by.count.seats ∙ by.region.seats;
  current = by.region.current;
  was = by.region.was;
  room = by.region.room;
  rest = by.region.left;
  notes = subst (λ (v : Vec BlockNote Global). ChangesAt a.notes.items v.items by.block (Owned (number_at_turn a) by.region.rest))
      (sym (ap (λ w. w.notes) by.rest ∙ by.count.notes)) by.region.notes;
  mutator = by.count.mutator;
  is = ap (λ k. slice_get a.mutators.items k) (sym by.region.plan.turn)
      ∙ ap (λ (v : Vec Mutator Global). slice_get v.items by.advanced.turn) (sym by.region.mutators) ∙ by.count.was;
  mutators = subst (λ (v : Vec Mutator Global). ChangesAt a.mutators.items v.items a.turn (record by.count.mutator { births = by.count.mutator.births + 1; registers = slice_set by.count.mutator.registers d (block_start a.row.layout.blocks by.block + by.region.region.next) })) (sym (ap (λ w. w.mutators) by.rest))
      (subst (λ k. ChangesAt a.mutators.items by.counted.mutators.items k (record by.count.mutator { births = by.count.mutator.births + 1; registers = slice_set by.count.mutator.registers d (block_start a.row.layout.blocks by.block + by.region.region.next) })) by.region.plan.turn
      (subst (λ (v : Vec Mutator Global). ChangesAt v.items by.counted.mutators.items by.advanced.turn (record by.count.mutator { births = by.count.mutator.births + 1; registers = slice_set by.count.mutator.registers d (block_start a.row.layout.blocks by.block + by.region.region.next) })) by.region.mutators counted));
  named = by.count.named;
  object = subst (λ (r : Row). WritesObject (state_of r) (state_of b.row) (block_start a.row.layout.blocks by.block + by.region.region.next) n refs nums) (by.count.row ∙ by.region.row)
      (subst (λ k. WritesObject (state_of by.counted.row) (state_of b.row) (block_start a.row.layout.blocks by.block + k) n refs nums) (sym by.region.begins) by.object);
}
  where
    counted : ChangesAt by.advanced.mutators.items by.counted.mutators.items by.advanced.turn (record by.count.mutator {
      births = by.count.mutator.births + 1;
      registers = slice_set by.count.mutator.registers d (block_start a.row.layout.blocks by.block + by.region.region.next);
    })
    counted = subst (λ k. ChangesAt by.advanced.mutators.items by.counted.mutators.items by.advanced.turn (record by.count.mutator {
      births = by.count.mutator.births + 1;
      registers = slice_set by.count.mutator.registers d (block_start a.row.layout.blocks by.block + k);
    })) (sym by.region.begins) by.count.mutators
