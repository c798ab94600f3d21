use Rattle.std.proofs.Common.{◌≡◌, ◌∙◌, sym, arith, length}
use Rattle.mutator_rule.specs.declared.seat.MutatorSeat.{MutatorSeat}
use Rattle.mutator_rule.proofs.Loops.{get-or-elem}
use Rattle.racing_world.proofs.Begun.{all-at-place}
use Rattle.racing_world.proofs.NotesTaken.{each-none, each-next, each-all}
use Rattle.racing_world.proofs.closing_notes.note_each.Goals as goal

pub loop-place-init : goal.loop-place-init
loop-place-init c = each-none c.args.notes.now.items c.args.seats.now.items

pub note_blocks-requires-clause-seat : goal.note_blocks-requires-clause-seat
note_blocks-requires-clause-seat c =
    let n = c.loop-place.place in
    let now = c.loop-place.seats.items in
    let seat = c.index_mut.result.now in
    let below = c.loop-place.invariant.len in
    all-at-place (λ (s : MutatorSeat). length s.notes.blocks.items ≡ c.args.blocks) c.args.seats.now.items n seat c.requires.seats
    (sym (c.loop-place.invariant.left n (omega arith)) ∙ get-or-elem now n seat (omega arith) c.index_mut.ensures.value)

pub loop-place-preserved : goal.loop-place-preserved
loop-place-preserved c =
    let n = c.loop-place.place in
    let now = c.loop-place.seats.items in
    let below = c.loop-place.invariant.len in
    each-next c.args.notes.now.items c.args.seats.now.items now n c.index_mut.result.now c.note_blocks.new.seat (omega arith) c.index_mut.ensures.value c.note_blocks.ensures c.loop-place.invariant

pub returns : goal.returns
returns c = each-all c.args.notes.now.items c.args.seats.now.items c.loop-place.seats.items c.loop-place.place (let l = c.loop-place.invariant.len in omega arith) c.loop-place.invariant
