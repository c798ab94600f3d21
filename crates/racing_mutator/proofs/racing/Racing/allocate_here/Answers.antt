use Rattle.std.proofs.Common.{◌<◌, ◌≤◌, sym, ◌∙◌, ap, subst, ℕ, arith, length, rules}
use lib.ListN.{get_or}
use Rattle.std.specs.Vec.{vec_len}
use Rattle.local_allocators.specs.MutatorRegions.{cursors_of, IsBlockFor}
use Rattle.local_allocators.specs.NotedSeats.{HasNotedBlocks, regions_in}
use Rattle.mutator_rule.specs.declared.seat_notes.SeatNotes.{SeatNotes}
use Rattle.racing_mutator.specs.RacingSeats.{local, holdings, epoch_of_racing}
use Rattle.racing_mutator.proofs.Noted.{uses-others}
use Rattle.racing_rooms.proofs.RoomsNoted.{as-read, has-noted, hole-order, over-order, here-below, here-note, here-own}
use Rattle.racing_mutator.proofs.RoomTaken.{keeps-with}
use Rattle.racing_mutator.proofs.RegionsMoved.{fills-here}
use Rattle.racing_mutator.specs.Regions.{FillsRegion}
use Rattle.racing_rooms.specs.NoRoom.{regions_at}
use Rattle.object_model.specs.Objects.{size_of}
use Rattle.racing_mutator.proofs.racing.Racing.allocate_here.Goals as goal

pub block_for-requires-clause-seat : goal.block_for-requires-clause-seat
block_for-requires-clause-seat g c = as-read HasNotedBlocks _ _ _ _ _ _ c.alloc_kind.ensures (c.deref.ensures.value ∙ ap (λ (n : SeatNotes). n.blocks.items) c.notes-notes.ensures) (ap (λ (n : SeatNotes). n.local) c.notes-notes.ensures)
    (has-noted _ _ _ _ _ _ c.requires.rooms)

pub block_for-requires-clause-hole : goal.block_for-requires-clause-hole
block_for-requires-clause-hole g c lines = as-read (λ f ns x. (cursors_of (regions_in ns x)).hole.next ≤ (cursors_of (regions_in ns x)).hole.end) c.alloc_kind.result _ _ _ _ _ c.alloc_kind.ensures (c.deref.ensures.value ∙ ap (λ (n : SeatNotes). n.blocks.items) c.notes-notes.ensures) (ap (λ (n : SeatNotes). n.local) c.notes-notes.ensures)
    (hole-order _ _ _ _ _ _ c.requires.rooms)

pub block_for-requires-clause-over : goal.block_for-requires-clause-over
block_for-requires-clause-over g c lines = as-read (λ f ns x. (cursors_of (regions_in ns x)).over.next ≤ (cursors_of (regions_in ns x)).over.end) c.alloc_kind.result _ _ _ _ _ c.alloc_kind.ensures (c.deref.ensures.value ∙ ap (λ (n : SeatNotes). n.blocks.items) c.notes-notes.ensures) (ap (λ (n : SeatNotes). n.local) c.notes-notes.ensures)
    (over-order _ _ _ _ _ _ c.requires.rooms)

pub index-requires : goal.index-requires
index-requires g c =
    let there : c.in_ok-block.block < length c.args.self.now.seat.now.notes.blocks.items = here-below _ _ _ _ _ _ c.requires.rooms c.alloc_kind.result _ _ c.alloc_kind.ensures (c.deref.ensures.value ∙ ap (λ (n : SeatNotes). n.blocks.items) c.notes-notes.ensures) (ap (λ (n : SeatNotes). n.local) c.notes-notes.ensures)
    c.size_words-size.result _ c.in_ok-block.block c.in_ok-block.ensures.some c.size_words-size.ensures in
    let ok = c.args.self.now.seat.now.notes.blocks.ok.0 in
    subst (λ (n : SeatNotes). c.in_ok-block.block < vec_len n.blocks) (sym c.notes-notes.ensures) (omega (arith, there, ok))

pub overflow_sub-left : goal.overflow_sub-left
overflow_sub-left g c =
    (here-own _ _ _ _ _ _ c.requires.rooms c.alloc_kind.result _ _ c.alloc_kind.ensures (c.deref.ensures.value ∙ ap (λ (n : SeatNotes). n.blocks.items) c.notes-notes.ensures) (ap (λ (n : SeatNotes). n.local) c.notes-notes.ensures)
    c.size_words-size.result _ c.in_ok-block.block c.in_ok-block.ensures.some c.size_words-size.ensures c.index.result.now c.in-Owned.owner c.in-Owned.region
    (c.index.ensures ∙ (λ k. get_or (sym c.deref.ensures.value k) c.in_ok-block.block c.index.result.now)) c.in-Owned.is).order

pub allocate_in-requires-clause-note : goal.allocate_in-requires-clause-note
allocate_in-requires-clause-note g c =
    here-note _ _ _ _ _ _ c.requires.rooms c.alloc_kind.result _ _ c.alloc_kind.ensures (c.deref.ensures.value ∙ ap (λ (n : SeatNotes). n.blocks.items) c.notes-notes.ensures) (ap (λ (n : SeatNotes). n.local) c.notes-notes.ensures)
    c.size_words-size.result _ c.in_ok-block.block c.in_ok-block.ensures.some c.size_words-size.ensures c.index.result.now c.in-Owned.owner c.in-Owned.region
    (c.index.ensures ∙ (λ k. get_or (sym c.deref.ensures.value k) c.in_ok-block.block c.index.result.now)) c.in-Owned.is

pub allocate_in-requires-clause-own : goal.allocate_in-requires-clause-own
allocate_in-requires-clause-own g c =
    here-own _ _ _ _ _ _ c.requires.rooms c.alloc_kind.result _ _ c.alloc_kind.ensures (c.deref.ensures.value ∙ ap (λ (n : SeatNotes). n.blocks.items) c.notes-notes.ensures) (ap (λ (n : SeatNotes). n.local) c.notes-notes.ensures)
    c.size_words-size.result _ c.in_ok-block.block c.in_ok-block.ensures.some c.size_words-size.ensures c.index.result.now c.in-Owned.owner c.in-Owned.region
    (c.index.ensures ∙ (λ k. get_or (sym c.deref.ensures.value k) c.in_ok-block.block c.index.result.now)) c.in-Owned.is

pub returns-clause-uses : goal.returns-clause-uses
returns-clause-uses g c uses = c.allocate_in.ensures.uses (uses-others (epoch_of_racing g.P.Plan.rules c.args.self.now) (holdings (local c.args.self.now)) c.in_ok-block.block uses)

pub returns-clause-kept : goal.returns-clause-kept
returns-clause-kept g c = keeps-with c.args.self.now.seat.now c.allocate_in.new.self.seat.now _ c.allocate_in.ensures.holds

pub returns-clause-region : goal.returns-clause-region
returns-clause-region g c =
    let size : ℕ = size_of c.args.shape.now.refs c.args.shape.now.nums in
    let a = c.args.self.now.seat.now in
    let b = c.allocate_in.new.self.seat.now in
    let is : IsBlockFor g.P.Plan.rules.fill (regions_at a) size c.in_ok-block.block = subst (λ (n : ℕ). IsBlockFor g.P.Plan.rules.fill (regions_at a) n c.in_ok-block.block) c.size_words-size.ensures
    (as-read (λ f ns x. IsBlockFor f (regions_in ns x) c.size_words-size.result c.in_ok-block.block) g.P.Plan.rules.fill c.alloc_kind.result _ _ _ _ (sym c.alloc_kind.ensures) (sym (c.deref.ensures.value ∙ ap (λ (n : SeatNotes). n.blocks.items) c.notes-notes.ensures)) (sym (ap (λ (n : SeatNotes). n.local) c.notes-notes.ensures)) c.in_ok-block.ensures.some) in
    subst (λ (k : ℕ). FillsRegion g.P.Plan.rules a k c.args.d size b) (sym c.allocate_in.ensures.here) (fills-here g.P.Plan.rules a b c.in_ok-block.block c.args.d size (keeps-with a b _ c.allocate_in.ensures.holds) is c.allocate_in.ensures.front)
