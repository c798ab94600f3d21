use Rattle.std.proofs.Common.{◌+◌}
use Rattle.std.proofs.lemmas.List.{get_or-set_other}
use Rattle.heap_layout.specs.Zones.{first, BlockWords}
use Rattle.heap_layout.specs.Blocks.{code_of}
use Rattle.object_model.specs.Graphs.{IsReachable, roots_of}
use Rattle.object_model.specs.Births.{with_block}
use Rattle.object_model.proofs.Blocks as blocks
use Rattle.object_model.proofs.TakenBlocks as taken
use Rattle.object_model.proofs.Representation as standing
use Rattle.object_model.proofs.heap_laws.free_blocks_may_be_taken.Goals as goal

pub returns-clause-block : goal.returns-clause-block
returns-clause-block c s k word order there = blocks.block-set s k (code_of word) there order.row.extent

pub returns-clause-others : goal.returns-clause-others
returns-clause-others c s k i word other = get_or-set_other s.words (first s.blocks BlockWords + k) i (code_of word) 0 other

pub returns-clause-held : goal.returns-clause-held
returns-clause-held c s k a word there =
    let same = blocks.same_heap s k (code_of word) there in
    (blocks.held-before s (blocks.set_block s k (code_of word)) same a, blocks.held-after s (blocks.set_block s k (code_of word)) same a)

pub returns-clause-order : goal.returns-clause-order
returns-clause-order c s k word order is clear valid has =
    blocks.order-taken s order k (code_of word) is clear (taken.fits word valid) (taken.small s k word order is has)

pub returns-clause-but_lines : goal.returns-clause-but_lines
returns-clause-but_lines c = taken.but_lines

pub returns-clause-lawful : goal.returns-clause-lawful
returns-clause-lawful c = taken.lawful

pub returns-clause-represents : goal.returns-clause-represents
returns-clause-represents c s k word ms h order is clear valid has represents =
    standing.represents (with_block s k word) ms h (IsReachable s (roots_of ms))
    (blocks.models-taken s order k (code_of word) is clear (taken.fits word valid) (taken.small s k word order is has) ms h (IsReachable s (roots_of ms)) (standing.models s ms h order represents))
