-- The Free blocks taken are the tickets drawn but for the unused ones.
use Rattle.std.proofs.Common.{◌≡◌, ◌≤◌, ◌<◌, ◌+◌, ap, ◌∙◌, arith, length, sum_by}
use Rattle.object_model.specs.Objects.{state_of, word_at}
use Rattle.sessions.specs.Fitting.{free_of}
use Rattle.sessions.specs.Grants.{BlockCounts}
use Rattle.mutator_core.specs.Logs.{heap_after}
use Rattle.mutator_core.specs.Tickets.{tickets_in}
use Rattle.plain_world.proofs.Closed.{AreFew, are-few, more-words, tickets-now}
use Rattle.plain_world.proofs.plain_world.PlainWorld.free_blocks.Goals as goal

pub overflow_add-result : goal.overflow_add-result
overflow_add-result g c =
    let is = c.requires.between_calls.some in
    let w = c.args.self.now.row in
    let few : AreFew w = are-few is.epoch is.ideal is.log w is.at in
    let unused : c.unused_tickets.result ≡ sum_by (λ x. tickets_in x.ticket) w.seats.items = c.unused_tickets.ensures ∙ ap (sum_by (λ x. tickets_in x.ticket)) c.deref.ensures.value in
    let some : sum_by (λ x. tickets_in x.ticket) w.seats.items ≤ 16 = few.unused in
    let free : w.counts.free ≤ 1024 = few.free in
    omega arith

pub get-requires : goal.get-requires
get-requires g c =
    let w = c.args.self.now.row in
    let words : 1 < length (state_of w.row).words = more-words w c.requires.between_calls.some in
    omega arith

pub overflow_cast-result : goal.overflow_cast-result
overflow_cast-result g c =
    let is = c.requires.between_calls.some in
    let w = c.args.self.now.row in
    let few : AreFew w = are-few is.epoch is.ideal is.log w is.at in
    let unused : c.unused_tickets.result ≡ sum_by (λ x. tickets_in x.ticket) w.seats.items = c.unused_tickets.ensures ∙ ap (sum_by (λ x. tickets_in x.ticket)) c.deref.ensures.value in
    let some : sum_by (λ x. tickets_in x.ticket) w.seats.items ≤ 16 = few.unused in
    let free : w.counts.free ≤ 1024 = few.free in
    let budget : c.get.result ≡ word_at (state_of w.row) 1 = c.get.ensures in
    let drawn : word_at (state_of w.row) 1 ≤ w.counts.free + sum_by (λ x. tickets_in x.ticket) w.seats.items = few.drawn in
    omega arith

pub overflow_sub-result : goal.overflow_sub-result
overflow_sub-result g c =
    let is = c.requires.between_calls.some in
    let w = c.args.self.now.row in
    let few : AreFew w = are-few is.epoch is.ideal is.log w is.at in
    let unused : c.unused_tickets.result ≡ sum_by (λ x. tickets_in x.ticket) w.seats.items = c.unused_tickets.ensures ∙ ap (sum_by (λ x. tickets_in x.ticket)) c.deref.ensures.value in
    let some : sum_by (λ x. tickets_in x.ticket) w.seats.items ≤ 16 = few.unused in
    let free : w.counts.free ≤ 1024 = few.free in
    let budget : c.get.result ≡ word_at (state_of w.row) 1 = c.get.ensures in
    let drawn : word_at (state_of w.row) 1 ≤ w.counts.free + sum_by (λ x. tickets_in x.ticket) w.seats.items = few.drawn in
    omega arith

pub returns : goal.returns
returns g c =
    let is = c.requires.between_calls.some in
    let w = c.args.self.now.row in
    let few : AreFew w = are-few is.epoch is.ideal is.log w is.at in
    let unused : c.unused_tickets.result ≡ sum_by (λ x. tickets_in x.ticket) w.seats.items = c.unused_tickets.ensures ∙ ap (sum_by (λ x. tickets_in x.ticket)) c.deref.ensures.value in
    let some : sum_by (λ x. tickets_in x.ticket) w.seats.items ≤ 16 = few.unused in
    let free : w.counts.free ≤ 1024 = few.free in
    let budget : c.get.result ≡ word_at (state_of w.row) 1 = c.get.ensures in
    let drawn : word_at (state_of w.row) 1 ≤ w.counts.free + sum_by (λ x. tickets_in x.ticket) w.seats.items = few.drawn in
    let before : w.counts.free ≡ free_of is.epoch.before = ap (λ (k : BlockCounts). k.free) is.at.lists.counts in
    let now : free_of is.epoch.before + sum_by (λ x. tickets_in x.ticket) w.seats.items ≡ free_of (heap_after is.epoch is.log) + word_at (state_of w.row) 1 =
    tickets-now is.epoch is.ideal is.log w is.at in
    let here : free_of (state_of w.row) ≡ free_of (heap_after is.epoch is.log) = ap free_of is.at.heap in
    omega arith
