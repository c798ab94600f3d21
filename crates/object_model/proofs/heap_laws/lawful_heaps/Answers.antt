use Rattle.std.proofs.Common.{refl, arith}
use Rattle.heap_layout.specs.declared.block.Kind.TheVariants as kinds
use Rattle.object_model.proofs.WorkedHeaps as worked
use Rattle.object_model.proofs.heap_laws.lawful_heaps.Goals as goal

pub returns-clause-bump : goal.returns-clause-bump
returns-clause-bump c = worked.plain kinds.Bump refl refl (λ e. omega arith) (λ e. omega arith)

pub returns-clause-young : goal.returns-clause-young
returns-clause-young c = worked.plain kinds.Young refl refl (λ e. omega arith) (λ e. omega arith)

pub returns-clause-mature : goal.returns-clause-mature
returns-clause-mature c = worked.plain kinds.Mature refl refl (λ e. omega arith) (λ e. omega arith)

pub returns-clause-kept : goal.returns-clause-kept
returns-clause-kept c = worked.plain kinds.Kept refl refl (λ e. omega arith) (λ e. omega arith)

pub returns-clause-immix : goal.returns-clause-immix
returns-clause-immix c = worked.immix

pub returns-clause-cells : goal.returns-clause-cells
returns-clause-cells c = worked.in-cell 0 1 refl (omega arith) (omega arith) (omega arith) refl

pub returns-clause-large_cells : goal.returns-clause-large_cells
returns-clause-large_cells c = worked.in-cell 18 2045 refl (omega arith) (omega arith) (omega arith) refl

pub returns-clause-large : goal.returns-clause-large
returns-clause-large c = worked.large

pub returns-clause-over_a_cell : goal.returns-clause-over_a_cell
returns-clause-over_a_cell c = worked.crosses

pub returns-clause-no_tail : goal.returns-clause-no_tail
returns-clause-no_tail c = worked.no-tail
