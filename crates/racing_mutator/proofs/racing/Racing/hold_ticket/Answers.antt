use Rattle.std.proofs.Common.{◌∙◌, ap, rules}
use Rattle.std.specs.Prelude.{Some}
use Rattle.local_allocators.specs.NotedSeats.{regions_in}
use Rattle.mutator_rule.specs.declared.seat_notes.SeatNotes.{SeatNotes}
use Rattle.racing_mutator.proofs.FreeTaken.{rooms-drawn}
use Rattle.racing_mutator.proofs.racing.Racing.hold_ticket.Goals as goal

pub returns-clause-rooms : goal.returns-clause-rooms
returns-clause-rooms g c = rooms-drawn g.P.Plan.rules c.args.self.now c.draw_ticket-ticket.new.self _ c.draw_ticket-ticket.result _ c.requires.rooms c.draw_ticket-ticket.ensures.makes c.draw_ticket-ticket.ensures.ready c.draw_ticket-ticket.ensures.drawn c.draw_ticket-ticket.ensures.notes c.note_local.ensures.known c.note_local.ensures.notes
    (λ k. record (c.notes.ensures k).local { ticket = Some c.draw_ticket-ticket.result })

pub returns-clause-regions : goal.returns-clause-regions
returns-clause-regions g c = ap (λ (n : SeatNotes). regions_in n.blocks.items n.local) c.note_local.ensures.notes
    ∙ (λ k. regions_in (c.draw_ticket-ticket.ensures.notes k).blocks.items (record (c.notes.ensures k).local { ticket = Some c.draw_ticket-ticket.result }))
