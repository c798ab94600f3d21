-- The first free cell that the search by words finds is the first hole of a block of cells.
use Rattle.std.proofs.Common.{◌≡◌, refl, ℕ, ◌+◌, arith, List, Some, None}
use Rattle.heap_layout.specs.declared.block.Kind.TheVariants as kinds
use Rattle.heap_layout.specs.declared.layout.Layout.{Layout}
use Rattle.object_model.specs.Objects.{HeapState, state_over, HasKind, class_at, cell_words}
use Rattle.sessions.specs.Fitting.{IsFreeCell, class_of}
use Rattle.sessions.proofs.Holes.{class-room}
use Rattle.cell_space.specs.FreeCells.{IsNextCell, HasNoCell}
use Rattle.block_sweeps.specs.Sweeping.{AreApart}
use Rattle.plan_api.specs.Holes.{IsFirstPart, IsFirstHole}
use Rattle.plan_api.proofs.BlockViews.{held-anyway}

-- whether objects overlap, and which cells are free, does not depend on the collection numbers
pub apart-anyway : (words : List ℕ) (l : Layout) (number base number' base' k : ℕ) → AreApart (state_over words l number base) k → AreApart (state_over words l number' base') k
apart-anyway words l number base number' base' k apart =
    λ a x i holds held here there inside within. apart a x i (held-anyway words l number' base' number base a holds) (held-anyway words l number' base' number base x held) here there inside within

cell-anyway : (words : List ℕ) (l : Layout) (number base number' base' k at : ℕ) → IsFreeCell (state_over words l number base) k at → IsFreeCell (state_over words l number' base') k at
cell-anyway words l number base number' base' k at cell = record { index = cell.index; start = cell.start; inside = cell.inside; free = cell.free }

-- a block of another class has no hole for the size
pub class-shown : (s : HeapState) (k from size : ℕ) → (class_of size ≡ Some (class_at s k) → ⊥) → IsFirstHole kinds.Cells s k from size None
class-shown s k from size other = λ next end hole. other hole.part.1.class

module _ (words : List ℕ) (l : Layout) (number base k from size : ℕ) where
  pub next-part : HasKind (state_over words l 0 0) k kinds.Cells → class_of size ≡ Some (class_at (state_over words l 0 0) k) → (at : ℕ) → IsNextCell (state_over words l 0 0) k from at
      → IsFirstPart kinds.Cells (state_over words l number base) k from size (record { next = at; end = at + cell_words (class_at (state_over words l 0 0) k) })
  next-part kind class at found = record {
    hole = record {
      part = (kind, record { class = class; cell = cell-anyway words l 0 0 number base k at found.cell; after = found.after; ends = refl });
      room = (let room = class-room size (class_at (state_over words l 0 0) k) class in omega arith);
    };
    first = λ next end hole. found.first next hole.part.1.after (cell-anyway words l number base 0 0 k next hole.part.1.cell);
  }

  pub no-part : HasNoCell (state_over words l 0 0) k from → IsFirstHole kinds.Cells (state_over words l number base) k from size None
  no-part none = λ next end hole. none next hole.part.1.after (cell-anyway words l number base 0 0 k next hole.part.1.cell)
