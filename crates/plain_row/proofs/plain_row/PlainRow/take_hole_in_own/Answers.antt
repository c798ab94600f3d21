use Rattle.std.proofs.Common.{◌≡◌, sym, ◌∙◌, subst, ℕ}
use Rattle.std.specs.Prelude.{Some, None}
use Rattle.local_allocators.specs.Seats.{block_of}
use Rattle.plain_row.specs.Rows.{seat_at_turn}
use Rattle.plain_row.specs.Changes.{LacksHole}
use Rattle.plain_row.proofs.HolesFound.{own-left}
use Rattle.block_regions.proofs.Lists.{one-element}
use Rattle.plain_row.proofs.SeatRead as reads
use Rattle.plain_row.proofs.Turns as turns
use Rattle.plain_row.proofs.plain_row.PlainRow.take_hole_in_own.Goals as goal

pub take_hole_in-requires-clause-block : goal.take_hole_in-requires-clause-block
take_hole_in-requires-clause-block c =
    let w = c.args.self.now in
    let now = c.requires.ready.between_calls.some in
    let hole = rw c.in-Some.is at c.hole_block.ensures.some in
    let mine = (turns.own-region now.epoch now.ideal now.log w now.at c.requires.ready.turn 0 c.in-Some.block
    (reads.block-read w (reads.readable w c.requires.ready) c.index.result.now c.index.ensures 0 ∙ hole.1)).0 in
    turns.note-block now.epoch now.ideal now.log w now.at c.in-Some.block _ mine.note

pub returns-in_default-clause-none : goal.returns-in_default-clause-none
returns-in_default-clause-none c = λ block failed lines is.
    let none = c.in_default.ensures.none lines in
    let wrong : None ≡ Some block = sym none ∙ sym (reads.block-read c.args.self.now (reads.readable c.args.self.now c.requires.ready) c.index.result.now c.index.ensures 0) ∙ is in cc

pub returns-clause-found : goal.returns-clause-found
returns-clause-found c = λ took.
    let w = c.args.self.now in
    let hole = rw c.in-Some.is at c.hole_block.ensures.some in (
      hole.0,
      (c.in-Some.block, reads.block-read w (reads.readable w c.requires.ready) c.index.result.now c.index.ensures 0 ∙ hole.1, c.take_hole_in.ensures.found took),
    )

pub returns-clause-none : goal.returns-clause-none
returns-clause-none c = λ block failed lines is.
    let w = c.args.self.now in
    let hole = rw c.in-Some.is at c.hole_block.ensures.some in
    let here = reads.block-read w (reads.readable w c.requires.ready) c.index.result.now c.index.ensures 0 ∙ hole.1 in
    subst (λ (k : ℕ). LacksHole w c.take_hole_in.new.self k c.args.size) (one-element (block_of (seat_at_turn w) 0) c.in-Some.block block here is)
    (c.take_hole_in.ensures.none failed)

pub returns-clause-same : goal.returns-clause-same
returns-clause-same c = λ failed.
    let w = c.args.self.now in
    let hole = rw c.in-Some.is at c.hole_block.ensures.some in
    own-left w c.take_hole_in.new.self c.in-Some.block c.args.size c.requires.ready hole.0
    (reads.block-read w (reads.readable w c.requires.ready) c.index.result.now c.index.ensures 0 ∙ hole.1) (c.take_hole_in.ensures.none failed)
