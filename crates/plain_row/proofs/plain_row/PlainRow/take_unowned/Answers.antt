use Rattle.std.proofs.Common.{◌≡◌, refl, sym, ap, subst, ℕ, arith, false}
use Rattle.std.specs.Prelude.{Option, Some, slice_get}
use Rattle.block_regions.specs.declared.block_notes.BlockNote.TheVariants.{Unowned, Owned}
use Rattle.heap_layout.specs.Blocks.{IsValidWord}
use Rattle.plain_row.specs.Rows.{number_at_turn, seat_at_turn}
use Rattle.local_allocators.specs.Seats.{ticket_of}
use Rattle.plain_row.specs.Changes as changes
use Rattle.plain_row.specs.Changes.{OwnsBlock}
use Rattle.block_regions.proofs.Elements.{set-changes, read-some}
use Rattle.plain_row.proofs.EpochFacts as facts
use Rattle.block_regions.proofs.Lists.{one-element}
use Rattle.plain_row.proofs.OwnedLists.{world-room}
use Rattle.plain_row.proofs.Turns as turns
use Rattle.plain_row.proofs.plain_row.PlainRow.take_unowned.Goals as goal

pub has_other_class-requires : goal.has_other_class-requires
has_other_class-requires c =
    let now = c.requires.ready.between_calls.some in
    facts.readable-block now.epoch now.ideal now.log c.args.self.now now.at c.args.block c.requires.block

pub returns-then-has_other_class-clause-none : goal.returns-then-has_other_class-clause-none
returns-then-has_other_class-clause-none c = λ no.
    let note = c.requires.note in
    changes.unsuited note.0 note.1 (c.has_other_class.ensures.other c.if-has_other_class.true) refl

pub first_hole-requires-clause-order : goal.first_hole-requires-clause-order
first_hole-requires-clause-order c = let now = c.requires.ready.between_calls.some in facts.order now.epoch now.ideal now.log c.args.self.now now.at

pub first_hole-requires-clause-block : goal.first_hole-requires-clause-block
first_hole-requires-clause-block c =
    let now = c.requires.ready.between_calls.some in
    facts.readable-block now.epoch now.ideal now.log c.args.self.now now.at c.args.block c.requires.block

pub take-requires-clause-extent : goal.take-requires-clause-extent
take-requires-clause-extent c = let now = c.requires.ready.between_calls.some in turns.extent now.epoch now.ideal now.log c.args.self.now now.at

pub take-requires-clause-valid : goal.take-requires-clause-valid
take-requires-clause-valid c =
    let now = c.requires.ready.between_calls.some in
    subst (λ (n : ℕ). IsValidWord (record { kind = c.args.self.now.fill; class = n; owner = number_at_turn c.args.self.now })) (sym c.class_of-class.ensures.class)
    (turns.own-valid now.epoch now.ideal now.log c.args.self.now now.at c.requires.ready.turn c.args.size)

pub returns-in-None-clause-none : goal.returns-in-None-clause-none
returns-in-None-clause-none c = λ no.
    let now = c.requires.ready.between_calls.some in
    let w = c.args.self.now in
    let note = c.requires.note in
    changes.seen note.0 note.1 (rw c.in-None.is at c.first_hole.ensures) (c.has_other_class.ensures.suits c.if-has_other_class.false) (record {
      plan = record { turn = refl; fill = refl; young = refl; allowance = refl; counts = refl; flags = refl };
      mutators = refl;
      row = refl;
      seats = refl;
      owned = refl;
      notes = set-changes w.notes.items c.args.block (Unowned c.args.size) (turns.noted now.epoch now.ideal now.log w now.at c.args.block c.requires.block);
    })

pub returns-in-Some-clause-found : goal.returns-in-Some-clause-found
returns-in-Some-clause-found c = λ yes.
    let w = c.args.self.now in
    let turn = c.requires.ready.turn in
    let seat : seat_at_turn w ≡ Some c.index.result.now = read-some w.seats.items w.turn c.index.result.now (let e = turn.seats in let t = turn.turn in omega arith) c.index.ensures in (
      c.in-Some.region,
      rw c.in-Some.is at c.first_hole.ensures,
      subst (λ (class : ℕ). OwnsBlock w c.take.new.self false c.args.block class c.in-Some.region (ticket_of (seat_at_turn w))) c.class_of-class.ensures.class
          (subst (λ (ticket : Option ℕ). OwnsBlock w c.take.new.self false c.args.block c.class_of-class.result c.in-Some.region ticket) (sym (ap ticket_of seat)) c.take.ensures),
    )

pub take-requires-clause-room : goal.take-requires-clause-room
take-requires-clause-room c =
    let now = c.requires.ready.between_calls.some in
    let w = c.args.self.now in
    let note = c.requires.note in
    world-room w now c.args.block c.requires.block (λ taken.
    let wrong : Unowned note.0 ≡ Owned taken.owner taken.region = one-element (slice_get w.notes.items c.args.block) (Unowned note.0) (Owned taken.owner taken.region) note.1 taken.note in cc)
