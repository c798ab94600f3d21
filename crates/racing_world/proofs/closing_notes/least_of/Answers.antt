use Rattle.std.proofs.Common.{◌≡◌, ◌∙◌, ◌<◌, ◌≤◌, ◌⊎◌, inl, inr, ap, sym, subst, arith, rules, length, List}
use Rattle.std.specs.Prelude.{Some, slice_get}
use Rattle.block_regions.specs.declared.block_notes.BlockNote.{BlockNote}
use Rattle.block_regions.proofs.Elements.{read-some}
use Rattle.std.proofs.lemmas.Bool.{cases_lt}
use Rattle.mutator_rule.specs.declared.seat_notes.SeatNotes.{SeatNotes}
use Rattle.racing_world.specs.Closing.{IsSeatAt}
use Rattle.mutator_rule.proofs.Loops.{get-or-elem}
use Rattle.racing_world.specs.ClosingNotes.{HasRegions, taken}
use Rattle.racing_world.proofs.Begun.{all-at-place}
use Rattle.racing_world.proofs.LeastNoted.{least-none, least-next, least-all}
use Rattle.racing_world.proofs.closing_notes.least_of.Goals as goal

pub loop-place-init : goal.loop-place-init
loop-place-init c = least-none c.args.seats.now.items c.args.block c.args.known

pub returns-in-Owned : goal.returns-in-Owned
returns-in-Owned c =
    let seats = c.args.seats.now.items in
    let n = c.loop-place.place in
    let k = c.args.block in
    let seat = c.index.result.now in
    let at : IsSeatAt seats n seat = get-or-elem seats n seat (search rules) c.index.ensures in
    let has = all-at-place (HasRegions k) seats n seat c.requires at in
    let blocks = c.notes.result.now.blocks.items in
    let same : seat.notes.blocks.items ≡ blocks = ap (λ (s : SeatNotes). s.blocks.items) (sym c.notes.ensures) in
    let there : k < length blocks = subst (λ (xs : List BlockNote). k < length xs) same has.note in
    taken c.in-Owned.region (record {
      place = n;
      seat = seat;
      at = at;
      owner = c.in-Owned.owner;
      note = ap (λ (xs : List BlockNote). slice_get xs k) same ∙ read-some blocks k c.index-in-loop-place.result.now there c.index-in-loop-place.ensures ∙ ap (λ (x : BlockNote). Some x) c.in-Owned.is;
    }) c.least_left.ensures

pub loop-place-preserved : goal.loop-place-preserved
loop-place-preserved c =
    let seats = c.args.seats.now.items in
    let n = c.loop-place.place in
    let k = c.args.block in
    let seat = c.index.result.now in
    let at : IsSeatAt seats n seat = get-or-elem seats n seat (search rules) c.index.ensures in
    let has = all-at-place (HasRegions k) seats n seat c.requires at in
    let blocks = c.notes.result.now.blocks.items in
    let same : seat.notes.blocks.items ≡ blocks = ap (λ (s : SeatNotes). s.blocks.items) (sym c.notes.ensures) in
    let there : k < length blocks = subst (λ (xs : List BlockNote). k < length xs) same has.note in
    let m = c.in-Unowned.noted in
    least-next seats k c.args.known n c.loop-place.least m c.min-least.result seat at
    (ap (λ (xs : List BlockNote). slice_get xs k) same ∙ read-some blocks k c.index-in-loop-place.result.now there c.index-in-loop-place.ensures ∙ ap (λ (x : BlockNote). Some x) c.in-Unowned.is)
    (elim (cases_lt c.loop-place.least m) as (λ _. ((c.min-least.result ≡ c.loop-place.least) × (c.loop-place.least ≤ m)) ⊎ ((c.min-least.result ≡ m) × (m ≤ c.loop-place.least))) [
      | inl below ↦ inl (search rules, omega arith)
      | inr from ↦ inr (search rules, omega arith)
    ])
    c.loop-place.invariant

pub returns : goal.returns
returns c = least-all c.args.fill c.args.seats.now.items c.args.block c.args.known c.loop-place.place c.loop-place.least (omega arith) c.loop-place.invariant
