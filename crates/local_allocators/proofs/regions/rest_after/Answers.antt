use Rattle.std.proofs.Common.{◌≡◌, sym, ◌∙◌, subst, rules}
use denote.Enum.Bare.{differs_false}
use Rattle.heap_layout.specs.contracts.block.Kind.{the_type}
use Rattle.heap_layout.specs.declared.block.Kind.{Kind}
use Rattle.heap_layout.specs.declared.block.Kind.TheVariants as kinds
use Rattle.object_model.specs.Objects.{state_of, HasKind}
use Rattle.block_regions.specs.Regions.{IsRegionIn}
use Rattle.block_regions.proofs.RestCells.{cell-end, rest-cells}
use Rattle.local_allocators.proofs.regions.rest_after.Goals as goal

pub free_cell-requires-clause-kind : goal.free_cell-requires-clause-kind
free_cell-requires-clause-kind c =
    let cells : c.args.fill ≡ kinds.Cells = differs_false the_type (search rules) c.args.fill kinds.Cells (sym c.if-ne.ensures) in
    subst (HasKind (state_of c.args.row.now) c.args.block) cells c.requires.kind

pub free_cell-requires-clause-class : goal.free_cell-requires-clause-class
free_cell-requires-clause-class c = c.requires.class ∙ sym c.class_of.ensures.class

pub free_cell-requires-clause-from : goal.free_cell-requires-clause-from
free_cell-requires-clause-from c =
    let cells : c.args.fill ≡ kinds.Cells = differs_false the_type (search rules) c.args.fill kinds.Cells (sym c.if-ne.ensures) in
    cell-end (state_of c.args.row.now) c.args.block c.class_of.result c.args.region.now (c.requires.class ∙ sym c.class_of.ensures.class)
    (subst (λ (f : Kind). IsRegionIn f (state_of c.args.row.now) c.args.block c.args.region.now) cells c.requires.left)

pub returns : goal.returns
returns c =
    let cells : c.args.fill ≡ kinds.Cells = differs_false the_type (search rules) c.args.fill kinds.Cells (sym c.if-ne.ensures) in
    rest-cells c.args.fill cells (state_of c.args.row.now) c.args.block c.args.size c.args.region.now c.free_cell.result c.free_cell.ensures
