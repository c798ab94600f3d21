-- No held object has a word in a hole.
use Rattle.std.proofs.Common.{◌≡◌, subst, ℕ, ◌+◌, ◌*◌, ◌-◌, ◌/◌, ◌<◌, ◌≤◌, max, arith}
use Rattle.heap_layout.specs.Zones.{block_start}
use Rattle.heap_layout.specs.declared.block.Kind.TheVariants as kinds
use Rattle.object_model.specs.Lines.{TouchesLine}
use Rattle.object_model.specs.Objects.{HeapState, HasKind, IsInExtent, size_at}
use Rattle.object_model.specs.Lawful.{LineBitsAreExact, MeetsNoObject}
use Rattle.line_marks.specs.declared.holes.Hole.{Hole}
use Rattle.line_marks.specs.LineHoles.{IsNextHole}

-- the line of a word among some lines from word `base` on
record IsLineOf (base i line len n : ℕ) : Type 0 where
  after : line ≤ n
  below : n < line + len
  from : base + 16 * n ≤ i
  before : i < base + 16 * (n + 1)

line-of : (base i line len : ℕ) → base + 16 * line ≤ i → i < base + 16 * line + 16 * len → IsLineOf base i line len ((i - base) / 16)
line-of base i line len from below = record { after = omega arith; below = omega arith; from = omega arith; before = omega arith }

-- the lines of a part of a hole are among those of the hole
within-hole : (n x len line all from : ℕ) → x ≤ n → n < x + len → x ≡ max line from → x + len ≡ line + all → line + all ≤ 256 → (line ≤ n) × (n < line + all) × (n < 256)
within-hole n x len line all from after below starts ends inside = (omega arith, omega arith, omega arith)

-- a word of an object lies in this line of block k
touches-line : (s : HeapState) (k x i n : ℕ) → IsInExtent s x i → block_start s.blocks k + 16 * n ≤ i → i < block_start s.blocks k + 16 * (n + 1) → TouchesLine s.blocks x (size_at s x) (256 * k + n)
touches-line s k x i n inside from before = let start = inside.from in let end = inside.below in record { from = omega arith; below = omega arith }

pub hole-apart : (s : HeapState) (k from needed : ℕ) (hole : Hole) → IsNextHole s k from needed hole → HasKind s k kinds.Immix → LineBitsAreExact s k → MeetsNoObject s hole.start (16 * hole.lines)
hole-apart s k from needed hole next immix exact x i held inside among =
    let base : ℕ = block_start s.blocks k in
    let n : ℕ = (i - base) / 16 in
    let at = line-of base i next.line hole.lines (subst (λ (w : ℕ). w ≤ i) next.start among.from) (subst (λ (w : ℕ). i < w + 16 * hole.lines) next.start among.below) in
    let here = within-hole n next.line hole.lines next.part.line next.part.all from at.after at.below next.part.starts next.part.ends next.part.hole.inside in
    next.part.hole.clear n here.0 here.1 (exact.touched n immix here.2 (record { object = x; held = held; touches = touches-line s k x i n inside at.from at.before }))
