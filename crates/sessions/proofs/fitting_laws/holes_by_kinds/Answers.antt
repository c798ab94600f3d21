use Rattle.std.proofs.Common.{refl}
use Rattle.heap_layout.specs.declared.block.Kind.TheVariants as kinds
use Rattle.sessions.proofs.Tails.{tail-unique}
use Rattle.sessions.proofs.HoleKinds as holes
use Rattle.sessions.proofs.fitting_laws.holes_by_kinds.Goals as goal

pub returns-clause-kind : goal.returns-clause-kind
returns-clause-kind c = holes.lies-kind

pub returns-clause-none : goal.returns-clause-none
returns-clause-none c fill s k from size lies = (
  holes.none-lies fill kinds.Free s k from size refl lies,
  holes.none-lies fill kinds.Mature s k from size refl lies,
  holes.none-lies fill kinds.Kept s k from size refl lies,
  holes.none-lies fill kinds.LargeHead s k from size refl lies,
  holes.none-lies fill kinds.LargeTail s k from size refl lies,
)

pub returns-clause-inside : goal.returns-clause-inside
returns-clause-inside c = holes.lies-within

pub returns-clause-tail : goal.returns-clause-tail
returns-clause-tail c = tail-unique

pub returns-clause-lines : goal.returns-clause-lines
returns-clause-lines c = holes.one-line_hole

pub returns-clause-parts : goal.returns-clause-parts
returns-clause-parts c fill s k at size from n other hole = holes.part-lies fill s k at size from n other hole

pub returns-clause-cells : goal.returns-clause-cells
returns-clause-cells c s k from size = ((λ lies. lies), (λ hole. hole))

pub returns-clause-cell : goal.returns-clause-cell
returns-clause-cell c = holes.hole-cell

pub returns-clause-class : goal.returns-clause-class
returns-clause-class c s k from size has = holes.cell-start kinds.Cells s k from size refl has

pub returns-clause-no_cells : goal.returns-clause-no_cells
returns-clause-no_cells c fill s k from size other cells = absurd (other cells)
