use Rattle.std.proofs.Common.{◌∙◌, ◌<◌, arith}
use Rattle.object_model.specs.Heaps.{heap_state}
use Rattle.object_model.proofs.OneKind.{kind-within}
use Rattle.block_regions.proofs.KeptNotes.{lowest}
use Rattle.block_regions.proofs.Regions.{hole-kind}
use Rattle.block_regions.proofs.block_notes.BlockNotes.lowest_hole.Goals as goal

pub returns-in-Some-clause-some : goal.returns-in-Some-clause-some
returns-in-Some-clause-some c =
    lowest c.args.fill (heap_state c.args.heap.now) c.loop-block.block c.args.size
    (record { next = c.in-Some.offset; end = c.in-Some.ensures.some.0 }) c.in-Some.ensures.some.1 c.loop-block.invariant.2

pub returns-clause-none : goal.returns-clause-none
returns-clause-none c = λ some.
    let s = heap_state c.args.heap.now in
    let there : some.block < s.blocks = kind-within s some.block c.args.fill (hole-kind c.args.fill s some.block some.offset c.args.size some.hole) in
    c.loop-block.invariant.2 some.block (omega arith) some.offset some.hole

pub returns-in-Some-clause-flags : goal.returns-in-Some-clause-flags
returns-in-Some-clause-flags c = c.in-Some.ensures.flags ∙ c.loop-block.invariant.1

pub returns-clause-flags : goal.returns-clause-flags
returns-clause-flags c = c.loop-block.invariant.1
