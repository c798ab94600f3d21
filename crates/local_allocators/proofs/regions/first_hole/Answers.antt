use Rattle.plan_api.proofs.CellParts.{apart-anyway}
use Rattle.plan_api.proofs.BlockViews.{block-anyway, orderly-apart}
use Rattle.object_model.specs.Objects.{state_of}
use Rattle.local_allocators.proofs.regions.first_hole.Goals as goal

pub hole_in_block-requires-clause-block : goal.hole_in_block-requires-clause-block
hole_in_block-requires-clause-block c = let row = c.args.row.now in block-anyway row.words row.layout row.number row.base 0 0 c.args.block c.requires.block

pub hole_in_block-requires-clause-apart : goal.hole_in_block-requires-clause-apart
hole_in_block-requires-clause-apart c =
    let row = c.args.row.now in
    apart-anyway row.words row.layout row.number row.base 0 0 c.args.block (orderly-apart (state_of row) c.args.block c.requires.order)

pub returns : goal.returns
returns c = let row = c.args.row.now in c.hole_in_block.ensures row.number row.base
