use Rattle.std.proofs.Common.{sym, subst, ◌≤◌, List}
use Rattle.std.specs.Prelude.{Option}
use Rattle.local_allocators.specs.declared.local_seat.LocalSeat.{LocalSeat}
use Rattle.local_allocators.specs.MutatorRegions.{cursors_of, Overflows}
use Rattle.local_allocators.specs.NotedRegions.{regions_of}
use Rattle.local_allocators.specs.NotedSeats.{HasNotedBlocks, regions_in}
use Rattle.block_regions.specs.declared.block_notes.BlockNote.{BlockNote}
use Rattle.plain_row.proofs.Turns as turns
use Rattle.plain_row.proofs.SeatRead as reads
use Rattle.plain_row.proofs.plain_row.PlainRow.is_overflow.Goals as goal

pub overflows-requires-clause-seat : goal.overflows-requires-clause-seat
overflows-requires-clause-seat c =
    let w = c.args.self.now in
    subst (λ (ns : List BlockNote). HasNotedBlocks w.fill ns c.index.result.now) (sym c.deref.ensures.value) (reads.noted w (reads.readable w c.requires) c.index.result.now c.index.ensures)

pub overflows-requires-clause-hole : goal.overflows-requires-clause-hole
overflows-requires-clause-hole c = λ lines.
    let w = c.args.self.now in
    let now = c.requires.between_calls.some in
    subst (λ (ns : List BlockNote). (cursors_of (regions_in ns c.index.result.now)).hole.next ≤ (cursors_of (regions_in ns c.index.result.now)).hole.end) (sym c.deref.ensures.value)
    (reads.hole-ordered w (reads.readable w c.requires) c.index.result.now c.index.ensures (turns.hole-order now.epoch now.ideal now.log w now.at c.requires.turn))

pub returns-clause-yes : goal.returns-clause-yes
returns-clause-yes c = λ over.
    let w = c.args.self.now in
    subst (λ (o : Option LocalSeat). Overflows w.fill (regions_of w.notes.items o) c.args.size)
    (sym (reads.seat-is w (reads.readable w c.requires) c.index.result.now c.index.ensures))
    (subst (λ (ns : List BlockNote). Overflows w.fill (regions_in ns c.index.result.now) c.args.size) c.deref.ensures.value (c.overflows.ensures.yes over))

pub returns-clause-no : goal.returns-clause-no
returns-clause-no c = λ none is.
    let w = c.args.self.now in
    c.overflows.ensures.no none
    (subst (λ (ns : List BlockNote). Overflows w.fill (regions_in ns c.index.result.now) c.args.size) (sym c.deref.ensures.value)
    (subst (λ (o : Option LocalSeat). Overflows w.fill (regions_of w.notes.items o) c.args.size)
    (reads.seat-is w (reads.readable w c.requires) c.index.result.now c.index.ensures) is))
