use Rattle.std.proofs.Common.{◌≡◌, ◌<◌, ◌∙◌, sym, ap, subst, arith, length, rules}
use Rattle.std.specs.Prelude.{Some, slice_get}
use Rattle.std.specs.Vec.{vec_len}
use lib.ListN.{get_or}
use Rattle.block_regions.specs.declared.block_notes.BlockNote.{BlockNote}
use Rattle.block_regions.specs.declared.block_notes.BlockNote.TheVariants.{Unowned, Owned}
use Rattle.block_regions.proofs.Elements.{read-some}
use Rattle.mutator_rule.specs.declared.seat_notes.SeatNotes.{SeatNotes}
use Rattle.racing_mutator.proofs.HolesPassed.{only-nothing, noted-lacks, own-lacks}
use Rattle.racing_mutator.proofs.racing.Racing.take_hole_in.Goals as goal

pub index-requires : goal.index-requires
index-requires g c =
    let ok = c.args.self.now.seat.now.notes.blocks.ok.0 in
    let len = c.requires.rooms.len in
    let there = c.requires.block in
    subst (λ (n : SeatNotes). c.args.block < vec_len n.blocks) (sym c.notes-notes.ensures) (omega (arith, there, len, ok))

pub returns-in_default-clause-only : goal.returns-in_default-clause-only
returns-in_default-clause-only g c done = only-nothing g.P.Plan.rules c.args.self.now

pub returns-in_default-clause-lacks : goal.returns-in_default-clause-lacks
returns-in_default-clause-lacks g c done =
    let xs = c.args.self.now.seat.now.notes.blocks.items in
    let there : c.args.block < length xs = (let len = c.requires.rooms.len in let b = c.requires.block in omega arith) in
    let note : slice_get xs c.args.block ≡ Some (Owned c.in_default.field-0 c.in_default.field-1) =
    read-some xs c.args.block c.index.result.now there (c.index.ensures ∙ (λ k. get_or (c.notes-notes.ensures k).blocks.items c.args.block c.index.result.now)) ∙ ap (λ (n : BlockNote). Some n) c.in_default.is in
    own-lacks g.P.Plan.rules c.args.self.now c.args.block c.in_default.field-0 c.args.size c.in_default.field-1 c.requires.rooms c.requires.ready.own.2 note

pub returns-then-least-size-clause-only : goal.returns-then-least-size-clause-only
returns-then-least-size-clause-only g c done = only-nothing g.P.Plan.rules c.args.self.now

pub returns-then-least-size-clause-lacks : goal.returns-then-least-size-clause-lacks
returns-then-least-size-clause-lacks g c done =
    let xs = c.args.self.now.seat.now.notes.blocks.items in
    let there : c.args.block < length xs = (let len = c.requires.rooms.len in let b = c.requires.block in omega arith) in
    let note : slice_get xs c.args.block ≡ Some (Unowned c.in-Unowned.least) =
    read-some xs c.args.block c.index.result.now there (c.index.ensures ∙ (λ k. get_or (c.notes-notes.ensures k).blocks.items c.args.block c.index.result.now)) ∙ ap (λ (n : BlockNote). Some n) c.in-Unowned.is in
    noted-lacks g.P.Plan.rules c.args.self.now c.args.block c.in-Unowned.least c.args.size c.requires.rooms note (omega (arith, c.if-least-size.true))

pub take_unowned_room-requires-clause-note : goal.take_unowned_room-requires-clause-note
take_unowned_room-requires-clause-note g c =
    let xs = c.args.self.now.seat.now.notes.blocks.items in
    let there : c.args.block < length xs = (let len = c.requires.rooms.len in let b = c.requires.block in omega arith) in (
      c.in-Unowned.least,
      read-some xs c.args.block c.index.result.now there (c.index.ensures ∙ (λ k. get_or (c.notes-notes.ensures k).blocks.items c.args.block c.index.result.now)) ∙ ap (λ (n : BlockNote). Some n) c.in-Unowned.is,
    )
