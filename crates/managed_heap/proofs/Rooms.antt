-- The blocks that mutators fill have holes, and Immix blocks are filled under rules with lines.
use Rattle.std.proofs.Common.{◌≡◌, refl, arith, false, true, IsTrue, ℕ}
use Rattle.heap_layout.specs.Blocks.{kind_code}
use Rattle.heap_layout.specs.declared.block.Kind.{Kind}
use Rattle.heap_layout.specs.declared.block.Kind.TheVariants as kinds
use Rattle.object_model.specs.Objects.{HeapState, HasKind}
use Rattle.object_model.proofs.OneKind.{one-kind}
use Rattle.sessions.specs.Plans.{Rules}
use Rattle.sessions.proofs.HoleKinds.{is_holed}
use Rattle.block_regions.specs.Notes.{FillsHoles}

pub holed : (fill : Kind) → FillsHoles fill → IsTrue (is_holed (kind_code fill))
holed kinds.Bump fills = refl
holed kinds.Young fills = refl
holed kinds.Cells fills = refl
holed kinds.Immix fills = refl
holed kinds.Free fills = absurd (let wrong : false ≡ true = fills in cc)
holed kinds.Mature fills = absurd (let wrong : false ≡ true = fills in cc)
holed kinds.LargeHead fills = absurd (let wrong : false ≡ true = fills in cc)
holed kinds.LargeTail fills = absurd (let wrong : false ≡ true = fills in cc)
holed kinds.Kept fills = absurd (let wrong : false ≡ true = fills in cc)

-- if mutators fill Immix blocks, they fill lines
abbrev pub FillsByLines : Rules → Type 0
FillsByLines r = r.fill ≡ kinds.Immix → IsTrue r.lines

-- only one kind has this code
immix-code : (fill : Kind) → kind_code fill ≡ 4 → fill ≡ kinds.Immix
immix-code kinds.Immix e = refl
immix-code kinds.Bump e = absurd (omega arith)
immix-code kinds.Young e = absurd (omega arith)
immix-code kinds.Cells e = absurd (omega arith)
immix-code kinds.Free e = absurd (omega arith)
immix-code kinds.Mature e = absurd (omega arith)
immix-code kinds.LargeHead e = absurd (omega arith)
immix-code kinds.LargeTail e = absurd (omega arith)
immix-code kinds.Kept e = absurd (omega arith)

-- an Immix block of the kind that is filled is filled by lines
pub lines-filled : (r : Rules) (s : HeapState) (k : ℕ) → FillsByLines r → HasKind s k r.fill → HasKind s k kinds.Immix → IsTrue r.lines
lines-filled r s k filled is immix = filled (immix-code r.fill (one-kind s k r.fill kinds.Immix is immix))
