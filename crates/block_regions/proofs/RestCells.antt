-- The next free cell that a search finds is what an object leaves of its block.
use Rattle.std.proofs.Common.{◌≡◌, refl, sym, ap, subst, ℕ, ◌+◌, ◌*◌, ◌⊎◌, inl, inr, arith, List}
use Rattle.heap_layout.specs.declared.block.Kind.{Kind}
use Rattle.heap_layout.specs.declared.block.Kind.TheVariants as kinds
use Rattle.heap_layout.specs.declared.layout.Layout.{Layout}
use Rattle.heap_layout.specs.declared.region.Region.{Region}
use Rattle.object_model.specs.Objects.{HeapState, state_over, class_at, cell_words}
use Rattle.sessions.specs.Fitting.{IsFreeCell}
use Rattle.plan_api.specs.Prelude.{IsNextCell, HasNoCell}
use Rattle.block_regions.specs.Regions.{IsCellLeft, free, full, IsRestAfter}

-- which cells are free does not depend on the collection numbers
cell-anyway : (words : List ℕ) (l : Layout) (number base number' base' k at : ℕ) → IsFreeCell (state_over words l number base) k at → IsFreeCell (state_over words l number' base') k at
cell-anyway words l number base number' base' k at cell = record { index = cell.index; start = cell.start; inside = cell.inside; free = cell.free }

module _ (words : List ℕ) (l : Layout) (number base k from : ℕ) where
  pub next-left : (class at : ℕ) → class_at (state_over words l 0 0) k ≡ class → IsNextCell (state_over words l 0 0) k from at
      → IsCellLeft (state_over words l number base) k from (record { next = at; end = at + cell_words class })
  next-left class at same found = free (record {
    cell = cell-anyway words l 0 0 number base k at found.cell;
    after = found.after;
    first = λ x past cell. found.first x past (cell-anyway words l number base 0 0 k x cell);
  }) (ap (λ (c : ℕ). at + cell_words c) (sym same))

  pub none-left : HasNoCell (state_over words l 0 0) k from → IsCellLeft (state_over words l number base) k from (record { next = 4096; end = 4096 })
  none-left none = full (λ x past cell. none x past (cell-anyway words l number base 0 0 k x cell)) refl refl

-- a region of cells ends where a cell begins, or with the block
pub cell-end : (s : HeapState) (k class : ℕ) (r : Region) → class_at s k ≡ class → IsCellLeft s k 0 r → (r.end ≡ 4096) ⊎ ((index : ℕ) × (r.end ≡ index * cell_words class))
cell-end s k class r same (full none starts ends) = inl ends
cell-end s k class r same (free next ends) =
    let i : ℕ = next.cell.index in
    let c : ℕ = cell_words (class_at s k) in
    let starts : r.next ≡ i * c = next.cell.start in
    let end : r.end ≡ r.next + c = ends in
    let more : (i + 1) * c ≡ i * c + c = omega arith in
    inr (i + 1, subst (λ (n : ℕ). r.end ≡ (i + 1) * cell_words n) same (omega arith))

pub rest-cells : (fill : Kind) → fill ≡ kinds.Cells → (s : HeapState) (k size : ℕ) (region rest : Region) → IsCellLeft s k region.end rest → IsRestAfter fill s k size region rest
rest-cells fill cells s k size region rest left = subst (λ (f : Kind). IsRestAfter f s k size region rest) (sym cells) left
