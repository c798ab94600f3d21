use Rattle.std.proofs.Common.{◌≡◌, ◌≤◌, ◌<◌, ◌+◌, sym, ap, subst, ◌∙◌, ℕ, List, map, arith, length, sum_by, Bool, IsTrue}
use Rattle.std.specs.Prelude.{vec_capacity}
use Rattle.heap_layout.specs.declared.block.Kind.{Kind}
use Rattle.ideal_heap.specs.Runs.{Entry, heap_after_run}
use Rattle.object_model.specs.Ages.{RemembersYoung}
use Rattle.object_model.specs.Objects.{HeapState, state_of, word_at}
use Rattle.object_model.specs.Heaps.{heap_state}
use Rattle.object_model.specs.Graphs.{numbers_of}
use Rattle.sessions.specs.Sessions.{Stopped}
use Rattle.mutator_core.specs.Closing.{GivesBack}
use Rattle.mutator_core.specs.Logs.{history_of}
use Rattle.mutator_core.specs.Tickets.{tickets_in}
use Rattle.heap_users.specs.Users.{mutator_state}
use Rattle.heap_users.specs.Beginnings.{MayUse}
use Rattle.block_regions.specs.Notes.{HasNotes}
use Rattle.plain_row.proofs.EpochFacts as facts
use Rattle.block_regions.proofs.KeptNotes.{notes-for}
use Rattle.block_regions.proofs.BlockFlags.{covers-young}
use Rattle.plain_world.proofs.Closed.{AreFew, are-few, more-words, counts-after, flags-after, ended, may-use, ticket-drawn, tickets-allowed, tickets-drawn}
use Rattle.plain_world.proofs.plain_world.PlainWorld.close_with.Goals as goal

pub overflow_add-counts : goal.overflow_add-counts
overflow_add-counts g c =
    let is = c.requires.open.between_calls.some in
    let w = c.args.self.row in
    let few : AreFew w = are-few is.epoch is.ideal is.log w is.at in
    let unused : c.unused_tickets.result ≡ sum_by (λ x. tickets_in x.ticket) w.seats.items = c.unused_tickets.ensures ∙ ap (sum_by (λ x. tickets_in x.ticket)) c.deref.ensures.value in
    let some : sum_by (λ x. tickets_in x.ticket) w.seats.items ≤ 16 = few.unused in
    let free : w.counts.free ≤ 1024 = few.free in
    omega arith

pub get-requires : goal.get-requires
get-requires g c =
    let w = c.args.self.row in
    let words : 1 < length (state_of w.row).words = more-words w c.requires.open.between_calls.some in
    omega arith

pub overflow_cast-counts : goal.overflow_cast-counts
overflow_cast-counts g c =
    let is = c.requires.open.between_calls.some in
    let w = c.args.self.row in
    let few : AreFew w = are-few is.epoch is.ideal is.log w is.at in
    let unused : c.unused_tickets.result ≡ sum_by (λ x. tickets_in x.ticket) w.seats.items = c.unused_tickets.ensures ∙ ap (sum_by (λ x. tickets_in x.ticket)) c.deref.ensures.value in
    let some : sum_by (λ x. tickets_in x.ticket) w.seats.items ≤ 16 = few.unused in
    let free : w.counts.free ≤ 1024 = few.free in
    let budget : c.get.result ≡ word_at (state_of w.row) 1 = c.get.ensures in
    let drawn : word_at (state_of w.row) 1 ≤ w.counts.free + sum_by (λ x. tickets_in x.ticket) w.seats.items = few.drawn in
    omega arith

pub overflow_sub-counts : goal.overflow_sub-counts
overflow_sub-counts g c =
    let is = c.requires.open.between_calls.some in
    let w = c.args.self.row in
    let few : AreFew w = are-few is.epoch is.ideal is.log w is.at in
    let unused : c.unused_tickets.result ≡ sum_by (λ x. tickets_in x.ticket) w.seats.items = c.unused_tickets.ensures ∙ ap (sum_by (λ x. tickets_in x.ticket)) c.deref.ensures.value in
    let some : sum_by (λ x. tickets_in x.ticket) w.seats.items ≤ 16 = few.unused in
    let free : w.counts.free ≤ 1024 = few.free in
    let budget : c.get.result ≡ word_at (state_of w.row) 1 = c.get.ensures in
    let drawn : word_at (state_of w.row) 1 ≤ w.counts.free + sum_by (λ x. tickets_in x.ticket) w.seats.items = few.drawn in
    omega arith

pub give_back-requires-clause-order : goal.give_back-requires-clause-order
give_back-requires-clause-order g c = let is = c.requires.open.between_calls.some in facts.order is.epoch is.ideal is.log c.args.self.row is.at

pub give_back-requires-clause-notes : goal.give_back-requires-clause-notes
give_back-requires-clause-notes g c = let w = c.args.self.row in
    subst (λ (f : Kind). HasNotes f (state_of w.row) w.notes.items) c.requires.open.fill c.requires.open.between_calls.some.at.notes

pub give_back-requires-clause-codes : goal.give_back-requires-clause-codes
give_back-requires-clause-codes g c = let is = c.requires.open.between_calls.some in facts.code is.epoch is.ideal is.log c.args.self.row is.at

pub from_row-requires : goal.from_row-requires
from_row-requires g c = let is = c.requires.open.between_calls.some in
    (ended is.epoch is.ideal is.log c.args.self.row is.at (state_of c.give_back.new.row) c.give_back.ensures.gives c.requires.open.between_calls.filled).lawful

pub returns-clause-stopped : goal.returns-clause-stopped
returns-clause-stopped g c = λ p i part is.
    let w = c.args.self.row in
    let ms = map mutator_state w.mutators.items in
    subst (λ (es : List Entry). Stopped p.rules (numbers_of p.mutators) p.before i es (heap_state c.from_row.result) ms) is.history
    (subst (λ (t : HeapState). Stopped p.rules (numbers_of p.mutators) p.before i (history_of p is.log) t ms) (sym c.from_row.ensures)
    (ended p i is.log w is.at (state_of c.give_back.new.row) c.give_back.ensures.gives c.requires.open.between_calls.filled))

pub returns-clause-tickets : goal.returns-clause-tickets
returns-clause-tickets g c = λ p i part is.
    let w = c.args.self.row in
    let gives = subst (GivesBack (state_of w.row)) (sym c.from_row.ensures) c.give_back.ensures.gives in
    record {
      allowed = tickets-allowed p i is.log w is.at (heap_state c.from_row.result) gives;
      drawn = tickets-drawn p i is.log w is.at (heap_state c.from_row.result) gives;
    }

pub returns-clause-users : goal.returns-clause-users
returns-clause-users g c =
    let is = c.requires.open.between_calls.some in
    let w = c.args.self.row in
    let ms = map mutator_state w.mutators.items in
    subst (λ (t : HeapState). MayUse t ms) (sym c.from_row.ensures)
    (may-use (state_of c.give_back.new.row) ms (heap_after_run is.ideal (history_of is.epoch is.log))
    (ended is.epoch is.ideal is.log w is.at (state_of c.give_back.new.row) c.give_back.ensures.gives c.requires.open.between_calls.filled).represents)

pub returns-clause-remembers : goal.returns-clause-remembers
returns-clause-remembers g c = λ rules same.
    let is = c.requires.open.between_calls.some in
    let w = c.args.self.row in
    subst (λ (b : Bool). IsTrue b → RemembersYoung (heap_state c.from_row.result)) (sym (same ∙ is.at.young))
    (subst (λ (t : HeapState). IsTrue is.epoch.rules.young → RemembersYoung t) (sym c.from_row.ensures)
    (ended is.epoch is.ideal is.log w is.at (state_of c.give_back.new.row) c.give_back.ensures.gives c.requires.open.between_calls.filled).remembers)

pub returns-clause-gives : goal.returns-clause-gives
returns-clause-gives g c = subst (GivesBack (state_of c.args.self.row.row)) (sym c.from_row.ensures) c.give_back.ensures.gives

pub returns-clause-drawn : goal.returns-clause-drawn
returns-clause-drawn g c = ticket-drawn c.args.self.row c.requires.open.between_calls.some

pub returns-clause-known : goal.returns-clause-known
returns-clause-known g c =
    let is = c.requires.open.between_calls.some in
    let w = c.args.self.row in
    let few : AreFew w = are-few is.epoch is.ideal is.log w is.at in
    let unused : c.unused_tickets.result ≡ sum_by (λ x. tickets_in x.ticket) w.seats.items = c.unused_tickets.ensures ∙ ap (sum_by (λ x. tickets_in x.ticket)) c.deref.ensures.value in
    let some : sum_by (λ x. tickets_in x.ticket) w.seats.items ≤ 16 = few.unused in
    let free : w.counts.free ≤ 1024 = few.free in
    let budget : c.get.result ≡ word_at (state_of w.row) 1 = c.get.ensures in
    let drawn : word_at (state_of w.row) 1 ≤ w.counts.free + sum_by (λ x. tickets_in x.ticket) w.seats.items = few.drawn in
    let new : HeapState = heap_state c.from_row.result in
    let gives : GivesBack (state_of w.row) new = subst (GivesBack (state_of w.row)) (sym c.from_row.ensures) c.give_back.ensures.gives in
    record {
      counts = counts-after is.epoch is.ideal is.log w is.at new gives c.requires.open.between_calls.filled _ (omega arith);
      notes = subst (λ (t : HeapState). HasNotes w.fill t c.give_back.new.notes.items) (sym c.from_row.ensures) (subst (λ (f : Kind). HasNotes f (state_of c.give_back.new.row) c.give_back.new.notes.items) (sym c.requires.open.fill) c.give_back.ensures.notes);
      unowned = c.give_back.ensures.unowned;
      owned = c.clear.ensures.items;
      room = subst (λ (n : ℕ). n ≤ vec_capacity c.clear.new.self) (sym gives.blocks) (subst (λ (n : ℕ). w.row.layout.blocks ≤ n) (sym c.clear.ensures.capacity) is.at.lists.room);
    }

pub returns-clause-notes : goal.returns-clause-notes
returns-clause-notes g c = λ p i part is. notes-for c.args.self.row.fill p.rules.fill is.at.fill _ _ (returns-clause-known g c)

pub returns-clause-flags : goal.returns-clause-flags
returns-clause-flags g c = λ rules same.
    let is = c.requires.open.between_calls.some in
    let w = c.args.self.row in
    let new : HeapState = heap_state c.from_row.result in
    let gives : GivesBack (state_of w.row) new = subst (GivesBack (state_of w.row)) (sym c.from_row.ensures) c.give_back.ensures.gives in
    covers-young is.epoch.rules rules new w.flags.items (same ∙ is.at.young) (flags-after is.epoch is.ideal is.log w is.at new gives)
