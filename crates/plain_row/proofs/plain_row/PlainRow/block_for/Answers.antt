use Rattle.std.proofs.Common.{sym, ◌∙◌, ap, subst, ◌≤◌, List}
use Rattle.std.specs.Prelude.{Option, Some, IfSome, IfNone}
use Rattle.plan_api.specs.Cursors.{RegionHasRoom, LacksRoom}
use Rattle.local_allocators.specs.declared.local_seat.LocalSeat.{LocalSeat}
use Rattle.local_allocators.specs.Seats.{block_of}
use Rattle.local_allocators.specs.MutatorRegions.{cursors_of, IsBlockFor}
use Rattle.local_allocators.specs.NotedRegions.{region_of, regions_of}
use Rattle.local_allocators.specs.NotedSeats.{HasNotedBlocks, regions_in}
use Rattle.block_regions.specs.declared.block_notes.BlockNote.{BlockNote}
use Rattle.sessions.specs.Fitting.{class_for}
use Rattle.plain_row.proofs.SeatRead as reads
use Rattle.plain_row.proofs.plain_row.PlainRow.block_for.Goals as goal

pub block_for-requires-clause-seat : goal.block_for-requires-clause-seat
block_for-requires-clause-seat c = subst (λ (ns : List BlockNote). HasNotedBlocks c.args.self.now.fill ns c.index.result.now) (sym c.deref.ensures.value) (reads.noted c.args.self.now c.requires.seat c.index.result.now c.index.ensures)

pub block_for-requires-clause-hole : goal.block_for-requires-clause-hole
block_for-requires-clause-hole c = λ lines.
    subst (λ (ns : List BlockNote). (cursors_of (regions_in ns c.index.result.now)).hole.next ≤ (cursors_of (regions_in ns c.index.result.now)).hole.end) (sym c.deref.ensures.value)
    (reads.hole-ordered c.args.self.now c.requires.seat c.index.result.now c.index.ensures (c.requires.hole lines))

pub block_for-requires-clause-over : goal.block_for-requires-clause-over
block_for-requires-clause-over c = λ lines.
    subst (λ (ns : List BlockNote). (cursors_of (regions_in ns c.index.result.now)).over.next ≤ (cursors_of (regions_in ns c.index.result.now)).over.end) (sym c.deref.ensures.value)
    (reads.over-ordered c.args.self.now c.requires.seat c.index.result.now c.index.ensures (c.requires.over lines))

pub returns-clause-some : goal.returns-clause-some
returns-clause-some c =
    let w = c.args.self.now in
    subst (λ (o : Option LocalSeat). IfSome c.block_for.result (λ k. IsBlockFor w.fill (regions_of w.notes.items o) c.args.size k))
    (sym (reads.seat-is w c.requires.seat c.index.result.now c.index.ensures))
    (subst (λ (ns : List BlockNote). IfSome c.block_for.result (λ k. IsBlockFor w.fill (regions_in ns c.index.result.now) c.args.size k)) c.deref.ensures.value c.block_for.ensures.some)

pub returns-clause-room : goal.returns-clause-room
returns-clause-room c = λ lines.
    subst (λ (ns : List BlockNote). IfSome c.block_for.result (λ k. RegionHasRoom (region_of ns (Some k)) c.args.size)) c.deref.ensures.value (c.block_for.ensures.room lines)

pub returns-clause-none : goal.returns-clause-none
returns-clause-none c = λ lines.
    let w = c.args.self.now in
    subst (λ (o : Option LocalSeat). IfNone c.block_for.result (LacksRoom (cursors_of (regions_of w.notes.items o)) c.args.size))
    (sym (reads.seat-is w c.requires.seat c.index.result.now c.index.ensures))
    (subst (λ (ns : List BlockNote). IfNone c.block_for.result (LacksRoom (cursors_of (regions_in ns c.index.result.now)) c.args.size)) c.deref.ensures.value (c.block_for.ensures.none lines))

pub returns-clause-class : goal.returns-clause-class
returns-clause-class c = λ other.
    let w = c.args.self.now in
    c.block_for.ensures.class other
    ∙ ap (λ (o : Option LocalSeat). block_of o (class_for w.fill c.args.size)) (sym (reads.seat-is w c.requires.seat c.index.result.now c.index.ensures))
