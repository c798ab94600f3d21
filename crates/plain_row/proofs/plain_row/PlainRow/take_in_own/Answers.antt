use Rattle.std.proofs.Common.{refl, sym, ◌∙◌, subst, ℕ, inl, inr}
use Rattle.block_regions.specs.Notes.{FillsTailsOrCells}
use Rattle.block_regions.proofs.Regions.{fills-cases, no-lines}
use Rattle.local_allocators.specs.MutatorRegions.{FillsLines}
use Rattle.plain_row.specs.Rows.{number_at_turn}
use Rattle.plain_row.specs.Changes as changes
use Rattle.plain_row.specs.Changes.{LacksHole}
use Rattle.plain_row.proofs.RegionsWithoutRoom.{own-lines, hole-full}
use Rattle.plain_row.proofs.EpochFacts as facts
use Rattle.plain_row.proofs.SeatRead as reads
use Rattle.plain_row.proofs.Turns as turns
use Rattle.plain_row.proofs.plain_row.PlainRow.take_in_own.Goals as goal

pub own_room-requires-clause-order : goal.own_room-requires-clause-order
own_room-requires-clause-order c = let now = c.requires.ready.between_calls.some in facts.order now.epoch now.ideal now.log c.args.self.now now.at

pub own_room-requires-clause-block : goal.own_room-requires-clause-block
own_room-requires-clause-block c =
    let now = c.requires.ready.between_calls.some in
    facts.readable-block now.epoch now.ideal now.log c.args.self.now now.at c.args.block c.requires.block

pub own_room-requires-clause-kind : goal.own_room-requires-clause-kind
own_room-requires-clause-kind c =
    let w = c.args.self.now in
    let now = c.requires.ready.between_calls.some in
    (turns.owned-note now.epoch now.ideal now.log w now.at c.args.block (number_at_turn w) c.args.region c.requires.note).kind

pub own_room-requires-clause-left : goal.own_room-requires-clause-left
own_room-requires-clause-left c =
    let w = c.args.self.now in
    let now = c.requires.ready.between_calls.some in
    (turns.note-inside now.epoch now.ideal now.log w now.at c.args.block (number_at_turn w) c.args.region c.requires.note).0

pub returns-in-Nothing-clause-none : goal.returns-in-Nothing-clause-none
returns-in-Nothing-clause-none c = λ no.
    let w = c.args.self.now in
    let lack = rw c.in-Nothing.is at c.own_room.ensures in
    elim (fills-cases w.fill c.requires.ready.between_calls.some.at.fills) as (λ _. LacksHole w w c.args.block c.args.size) [
      | inl fills ↦ (
          let no_lines : FillsLines w.fill → ⊥ = λ lines. no-lines (subst FillsTailsOrCells lines fills) in
          changes.foreign (number_at_turn w) c.args.region c.requires.note (inr (no_lines, lack.1 no_lines)) refl)
      | inr lines ↦ changes.lacks_lines c.args.region c.requires.note lines
          (own-lines w c.args.block c.args.size c.args.region c.requires.note lines c.requires.full
          (λ here. lack.0 lines (sym (reads.block-read w (reads.readable w c.requires.ready) c.index.result.now c.index.ensures 0) ∙ here))) refl
    ]

pub returns-in-Rest-clause-found : goal.returns-in-Rest-clause-found
returns-in-Rest-clause-found c = λ took.
    let w = c.args.self.now in
    let rest = rw c.in-Rest.is at c.own_room.ensures in
    changes.own c.args.region c.requires.note rest.0 rest.1 rest.2
    (subst (λ (class : ℕ). changes.ReturnsTo w c.return_to.new.self c.args.block class) c.class_of-class.ensures.class c.return_to.ensures)

pub move_to-requires-clause-block : goal.move_to-requires-clause-block
move_to-requires-clause-block c =
    let now = c.requires.ready.between_calls.some in
    turns.noted now.epoch now.ideal now.log c.args.self.now now.at c.args.block c.requires.block

pub returns-in-Hole-clause-found : goal.returns-in-Hole-clause-found
returns-in-Hole-clause-found c = λ took.
    let w = c.args.self.now in
    let hole = rw c.in-Hole.is at c.own_room.ensures in
    let current = reads.block-read w (reads.readable w c.requires.ready) c.index.result.now c.index.ensures 0 ∙ hole.1 in
    changes.next_hole c.args.region c.in-Hole.hole c.requires.note hole.0 current
    (hole-full w c.args.block c.args.size c.args.region c.requires.note hole.0 current c.requires.full) hole.2 c.move_to.ensures
