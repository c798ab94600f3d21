use Rattle.std.proofs.Common.{◌∙◌, ◌<◌, sym, arith, length}
use Rattle.racing_world.proofs.NotesTaken.{takes-none, takes-next, takes-all}
use Rattle.racing_world.proofs.closing_notes.note_blocks.Goals as goal

pub loop-block-init : goal.loop-block-init
loop-block-init c = takes-none c.args.notes.now.items c.args.seat.now (c.requires.seat ∙ sym c.requires.notes)

pub loop-block-preserved : goal.loop-block-preserved
loop-block-preserved c =
    let there : c.loop-block.block < length c.args.notes.now.items = (let n = c.requires.notes in omega arith) in
    takes-next c.args.notes.now.items c.args.seat.now c.loop-block.seat c.note_block.new.self c.loop-block.block c.index.result.now there c.index.ensures c.note_block.ensures.known c.note_block.ensures.rest c.note_block.ensures.blocks c.loop-block.invariant

pub returns : goal.returns
returns c = takes-all c.args.notes.now.items c.args.seat.now c.loop-block.seat c.loop-block.block (let n = c.requires.notes in omega arith) c.loop-block.invariant
