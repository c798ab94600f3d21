use Rattle.std.proofs.Common.{sym, subst, ◌+◌, ◌-◌, ◌<◌, ◌≤◌, arith, length}
use Rattle.plain_row.specs.Worlds.{RegionHasRoomFor}
use Rattle.plain_row.proofs.Turns as turns
use Rattle.plain_row.proofs.RoomRead as reads
use Rattle.plain_row.proofs.plain_row.PlainRow.allocate_if_room.Goals as goal

pub block_for-requires-clause-seat : goal.block_for-requires-clause-seat
block_for-requires-clause-seat c =
    let now = c.requires.ready.between_calls.some in turns.own-readable now.epoch now.ideal now.log c.args.self.now now.at c.requires.ready.turn

pub block_for-requires-clause-hole : goal.block_for-requires-clause-hole
block_for-requires-clause-hole c = λ lines.
    let now = c.requires.ready.between_calls.some in turns.hole-order now.epoch now.ideal now.log c.args.self.now now.at c.requires.ready.turn

pub block_for-requires-clause-over : goal.block_for-requires-clause-over
block_for-requires-clause-over c =
    let now = c.requires.ready.between_calls.some in turns.over-order now.epoch now.ideal now.log c.args.self.now now.at c.requires.ready.turn

pub index-requires : goal.index-requires
index-requires c =
    let w = c.args.self.now in
    let now = c.requires.ready.between_calls.some in
    let there : c.in-Some.block < length w.notes.items
    = turns.block-noted now.epoch now.ideal now.log w now.at c.requires.ready.turn c.size_words-size.result c.in-Some.block c.in-Some.ensures.some in
    omega (arith, w.notes.ok.0)

pub returns-in_default-index-clause-none : goal.returns-in_default-index-clause-none
returns-in_default-index-clause-none c = λ has. reads.not-unowned c.args.self.now c.size_words-size.result c.requires.ready c.in-Some.block c.index.result.now c.in-Some.ensures.some c.index.ensures c.in_default-index.field-0 c.in_default-index.is

pub overflow_sub-left : goal.overflow_sub-left
overflow_sub-left c = reads.inside c.args.self.now c.size_words-size.result c.requires.ready c.in-Some.block c.index.result.now c.in-Some.ensures.some c.index.ensures c.in-Owned.owner c.in-Owned.region c.in-Owned.is

pub returns-then-left-size-clause-none : goal.returns-then-left-size-clause-none
returns-then-left-size-clause-none c = λ has.
    let w = c.args.self.now in
    let region = c.in-Owned.region in
    let here = turns.current-read w c.size_words-size.result (subst (RegionHasRoomFor w) (sym c.size_words-size.ensures) has) c.in-Some.block c.index.result.now c.in-Owned.owner c.in-Owned.region c.in-Some.ensures.some c.index.ensures c.in-Owned.is in
    let room : region.next + c.size_words-size.result ≤ region.end = here.room in
    let less : region.end - region.next < c.size_words-size.result = omega (arith, c.if-left-size.true) in
    absurd (omega arith)

pub allocate_in-requires-clause-room : goal.allocate_in-requires-clause-room
allocate_in-requires-clause-room c =
    let w = c.args.self.now in
    let region = c.in-Owned.region in
    let inside : region.next ≤ region.end = reads.inside c.args.self.now c.size_words-size.result c.requires.ready c.in-Some.block c.index.result.now c.in-Some.ensures.some c.index.ensures c.in-Owned.owner c.in-Owned.region c.in-Owned.is in
    let fits : c.size_words-size.result ≤ region.end - region.next = omega (arith, c.if-left-size.false) in
    let room : region.next + c.size_words-size.result ≤ region.end = omega arith in
    subst (RegionHasRoomFor w) c.size_words-size.ensures (reads.has c.args.self.now c.size_words-size.result c.requires.ready c.in-Some.block c.index.result.now c.in-Some.ensures.some c.index.ensures c.in-Owned.owner c.in-Owned.region c.in-Owned.is room)

pub allocate_in-requires-clause-note : goal.allocate_in-requires-clause-note
allocate_in-requires-clause-note c = reads.note c.args.self.now c.size_words-size.result c.requires.ready c.in-Some.block c.index.result.now c.in-Some.ensures.some c.index.ensures c.in-Owned.owner c.in-Owned.region c.in-Owned.is

pub returns-clause-room : goal.returns-clause-room
returns-clause-room c =
    let w = c.args.self.now in
    let region = c.in-Owned.region in
    let inside : region.next ≤ region.end = reads.inside c.args.self.now c.size_words-size.result c.requires.ready c.in-Some.block c.index.result.now c.in-Some.ensures.some c.index.ensures c.in-Owned.owner c.in-Owned.region c.in-Owned.is in
    let fits : c.size_words-size.result ≤ region.end - region.next = omega (arith, c.if-left-size.false) in
    let room : region.next + c.size_words-size.result ≤ region.end = omega arith in
    subst (RegionHasRoomFor w) c.size_words-size.ensures (reads.has c.args.self.now c.size_words-size.result c.requires.ready c.in-Some.block c.index.result.now c.in-Some.ensures.some c.index.ensures c.in-Owned.owner c.in-Owned.region c.in-Owned.is room)
