-- Parts of holes at or after an offset, and the first part that has room.
use Rattle.heap_layout.specs.declared.layout.TheConstants.{LINE_WORDS, BLOCK_WORDS}
use Rattle.std.specs.Prelude.{◌≡◌, ℕ, ◌+◌, ◌*◌, ◌≤◌, max, Option, Some, None}
use Rattle.heap_layout.specs.declared.block.Kind.{Kind}
use Rattle.heap_layout.specs.declared.block.Kind.TheVariants as kinds
use Rattle.heap_layout.specs.declared.region.Region.{Region}
use Rattle.object_model.specs.Objects.{HeapState, HasKind, class_at, cell_words, lines_for}
use Rattle.sessions.specs.Fitting.{IsTail, IsLineHole, IsFreeCell, class_of}

-- The words from `next` up to `end` are the part of block k's tail at or after the offset `from`.
pub record IsTailPart (s : HeapState) (k from next end : ℕ) : Type 0 where
  pub begin : ℕ
  pub tail : IsTail s k begin
  pub starts : next ≡ max begin from
  pub ends : end ≡ BLOCK_WORDS

-- The words from `next` up to `end` are the lines of a run of clear lines that begin at or after
-- the offset `from`.
pub record IsLinePart (s : HeapState) (k from next end : ℕ) : Type 0 where
  pub line : ℕ
  pub len : ℕ
  pub hole : IsLineHole s k line len
  pub starts : next ≡ LINE_WORDS * max line (lines_for from)
  pub ends : end ≡ LINE_WORDS * (line + len)

-- The words from `next` up to `end` are a free cell at or after the offset `from`, of the class for
-- the size.
pub record IsCellPart (s : HeapState) (k from size next end : ℕ) : Type 0 where
  pub class : class_of size ≡ Some (class_at s k)
  pub cell : IsFreeCell s k next
  pub after : from ≤ next
  pub ends : end ≡ next + cell_words (class_at s k)

-- Block k is of the kind that mutators fill, and the words from `next` up to `end` are a part of
-- one of its holes.
abbrev pub IsHolePart : Kind → HeapState → ℕ → ℕ → ℕ → ℕ → ℕ → Type 0
IsHolePart kinds.Bump s k from size next end = HasKind s k kinds.Bump × IsTailPart s k from next end
IsHolePart kinds.Young s k from size next end = HasKind s k kinds.Young
    × IsTailPart s k from next end
IsHolePart kinds.Cells s k from size next end = HasKind s k kinds.Cells
    × IsCellPart s k from size next end
IsHolePart kinds.Immix s k from size next end = HasKind s k kinds.Immix
    × IsLinePart s k from next end
IsHolePart kinds.Free s k from size next end = ⊥
IsHolePart kinds.Mature s k from size next end = ⊥
IsHolePart kinds.LargeHead s k from size next end = ⊥
IsHolePart kinds.LargeTail s k from size next end = ⊥
IsHolePart kinds.Kept s k from size next end = ⊥

-- such a part has room for the size
pub record HasRoomFrom (fill : Kind) (s : HeapState) (k from size next end : ℕ) : Type 0 where
  pub part : IsHolePart fill s k from size next end
  pub room : next + size ≤ end

-- the region is the first such part
pub record IsFirstPart (fill : Kind) (s : HeapState) (k from size : ℕ) (region : Region)
    : Type 0 where
  pub hole : HasRoomFrom fill s k from size region.next region.end
  pub first : (next end : ℕ) → HasRoomFrom fill s k from size next end → region.next ≤ next

-- the result is the first such part, or None if there is none
abbrev pub IsFirstHole : Kind → HeapState → ℕ → ℕ → ℕ → Option Region → Type 0
IsFirstHole fill s k from size (Some region) = IsFirstPart fill s k from size region
IsFirstHole fill s k from size None = (next end : ℕ) → HasRoomFrom fill s k from size next end → ⊥
