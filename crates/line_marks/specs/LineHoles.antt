-- Holes of a block from a line on.
use Rattle.std.specs.Prelude.{◌≡◌, ℕ, ◌+◌, ◌*◌, ◌≤◌, max}
use Rattle.heap_layout.specs.Zones.{block_start}
use Rattle.heap_layout.specs.declared.layout.TheConstants.{LINE_WORDS}
use Rattle.object_model.specs.Objects.{HeapState}
use Rattle.sessions.specs.Fitting.{IsLineHole}
use Rattle.line_marks.specs.declared.holes.Hole.{Hole}

-- lines x to x + len - 1 are the part from line `from` on of a hole of block k
pub record IsHoleFrom (s : HeapState) (k from x len : ℕ) : Type 0 where
  pub line : ℕ
  pub all : ℕ
  pub hole : IsLineHole s k line all
  pub starts : x ≡ max line from
  pub ends : x + len ≡ line + all

-- the hole is the first such part that has at least `needed` lines
pub record IsNextHole (s : HeapState) (k from needed : ℕ) (hole : Hole) : Type 0 where
  pub line : ℕ
  pub start : hole.start ≡ block_start s.blocks k + LINE_WORDS * line
  pub part : IsHoleFrom s k from line hole.lines
  pub room : needed ≤ hole.lines
  pub first : (x len : ℕ) → IsHoleFrom s k from x len → needed ≤ len → line ≤ x

-- no such part has at least `needed` lines
abbrev pub HasNoHole : HeapState → ℕ → ℕ → ℕ → Type 0
HasNoHole s k from needed = (x len : ℕ) → IsHoleFrom s k from x len → needed ≤ len → ⊥
