use Rattle.std.proofs.Common.{◌≡◌, ◌∙◌, ap, ◌<◌, arith, length}
use Rattle.std.specs.Prelude.{Some, slice_get}
use Rattle.block_regions.specs.declared.block_notes.BlockNote.{BlockNote}
use Rattle.block_regions.specs.declared.block_notes.BlockNote.TheVariants.{Unowned, Owned}
use Rattle.plain_row.specs.Rows.{number_at_turn}
use Rattle.block_regions.proofs.Elements.{read-some}
use Rattle.block_regions.proofs.Lists.{one-element}
use Rattle.plain_row.proofs.Turns.{own-readable, hole-order, over-order, block-noted, own-block}
use Rattle.plain_row.proofs.plain_row.PlainRow.allocate.Goals as goal

pub block_for-requires-clause-seat : goal.block_for-requires-clause-seat
block_for-requires-clause-seat c =
    let now = c.requires.room.some in own-readable now.epoch now.ideal now.log c.args.self.now now.at c.requires.room.turn

pub block_for-requires-clause-hole : goal.block_for-requires-clause-hole
block_for-requires-clause-hole c = λ lines.
    let now = c.requires.room.some in hole-order now.epoch now.ideal now.log c.args.self.now now.at c.requires.room.turn

pub block_for-requires-clause-over : goal.block_for-requires-clause-over
block_for-requires-clause-over c =
    let now = c.requires.room.some in over-order now.epoch now.ideal now.log c.args.self.now now.at c.requires.room.turn

pub index-requires : goal.index-requires
index-requires c =
    let w = c.args.self.now in
    let now = c.requires.room.some in
    let there : c.in-Some.block < length w.notes.items
    = block-noted now.epoch now.ideal now.log w now.at c.requires.room.turn c.size_words.result c.in-Some.block c.in-Some.ensures.some in
    omega (arith, w.notes.ok.0)

pub unreachable-requires-in_default-index : goal.unreachable-requires-in_default-index
unreachable-requires-in_default-index c =
    let w = c.args.self.now in
    let now = c.requires.room.some in
    let mine = (own-block now.epoch now.ideal now.log w now.at c.requires.room.turn c.size_words.result c.in-Some.block c.in-Some.ensures.some).0 in
    let there : c.in-Some.block < length w.notes.items
    = block-noted now.epoch now.ideal now.log w now.at c.requires.room.turn c.size_words.result c.in-Some.block c.in-Some.ensures.some in
    let note : slice_get w.notes.items c.in-Some.block ≡ Some (Unowned c.in_default-index.field-0)
    = read-some w.notes.items c.in-Some.block c.index.result.now there c.index.ensures ∙ ap (λ (n : BlockNote). Some n) c.in_default-index.is in
    let wrong : Unowned c.in_default-index.field-0 ≡ Owned (number_at_turn w) mine.region
    = one-element (slice_get w.notes.items c.in-Some.block) (Unowned c.in_default-index.field-0) (Owned (number_at_turn w) mine.region) note mine.note in
    cc

pub allocate_in-requires-clause-note : goal.allocate_in-requires-clause-note
allocate_in-requires-clause-note c =
    let w = c.args.self.now in
    let now = c.requires.room.some in
    let there : c.in-Some.block < length w.notes.items
    = block-noted now.epoch now.ideal now.log w now.at c.requires.room.turn c.size_words.result c.in-Some.block c.in-Some.ensures.some in
    read-some w.notes.items c.in-Some.block c.index.result.now there c.index.ensures ∙ ap (λ (n : BlockNote). Some n) c.in-Owned.is
