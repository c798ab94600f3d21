use Rattle.std.proofs.Common.{◌≤◌, sym, ◌∙◌, ap}
use Rattle.local_allocators.specs.MutatorRegions.{Overflows, cursors_of}
use Rattle.local_allocators.specs.NotedSeats.{HasNotedBlocks, regions_in}
use Rattle.mutator_rule.specs.declared.seat_notes.SeatNotes.{SeatNotes}
use Rattle.racing_rooms.proofs.RoomsNoted.{as-read, has-noted, hole-order}
use Rattle.racing_mutator.proofs.racing.Racing.overflows.Goals as goal

pub overflows-requires-clause-seat : goal.overflows-requires-clause-seat
overflows-requires-clause-seat g c = as-read HasNotedBlocks _ _ _ _ _ _ c.alloc_kind.ensures (c.deref.ensures.value ∙ ap (λ (n : SeatNotes). n.blocks.items) c.notes-notes.ensures) (ap (λ (n : SeatNotes). n.local) c.notes-notes.ensures) (has-noted _ _ _ _ _ _ c.requires)

pub overflows-requires-clause-hole : goal.overflows-requires-clause-hole
overflows-requires-clause-hole g c lines = as-read (λ f ns x. (cursors_of (regions_in ns x)).hole.next ≤ (cursors_of (regions_in ns x)).hole.end) c.alloc_kind.result _ _ _ _ _ c.alloc_kind.ensures (c.deref.ensures.value ∙ ap (λ (n : SeatNotes). n.blocks.items) c.notes-notes.ensures) (ap (λ (n : SeatNotes). n.local) c.notes-notes.ensures)
    (hole-order _ _ _ _ _ _ c.requires)

pub returns-clause-yes : goal.returns-clause-yes
returns-clause-yes g c is = as-read (λ f ns x. Overflows f (regions_in ns x) c.args.size) _ _ _ _ _ _ (sym c.alloc_kind.ensures) (sym (c.deref.ensures.value ∙ ap (λ (n : SeatNotes). n.blocks.items) c.notes-notes.ensures)) (sym (ap (λ (n : SeatNotes). n.local) c.notes-notes.ensures)) (c.overflows.ensures.yes is)

pub returns-clause-no : goal.returns-clause-no
returns-clause-no g c is over = c.overflows.ensures.no is (as-read (λ f ns x. Overflows f (regions_in ns x) c.args.size) _ _ _ _ _ _ c.alloc_kind.ensures (c.deref.ensures.value ∙ ap (λ (n : SeatNotes). n.blocks.items) c.notes-notes.ensures) (ap (λ (n : SeatNotes). n.local) c.notes-notes.ensures) over)
