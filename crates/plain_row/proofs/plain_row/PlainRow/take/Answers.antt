use Rattle.std.proofs.Common.{◌≡◌, refl, sym, subst, ℕ, ◌+◌, ◌<◌, arith, true, false, length}
use Rattle.std.specs.Prelude.{Option, Some, slice_set}
use Rattle.heap_layout.specs.Zones.{first, BlockWords}
use Rattle.heap_layout.specs.Blocks.{code_of}
use Rattle.object_model.specs.Objects.{state_of, with_words}
use Rattle.local_allocators.specs.declared.local_seat.LocalSeat.{LocalSeat}
use Rattle.block_regions.specs.declared.block_notes.BlockNote.TheVariants.{Owned}
use Rattle.plain_row.specs.Rows.{number_at_turn}
use Rattle.block_regions.specs.Elements.{ChangesAt}
use Rattle.plain_row.specs.Changes.{seat_with}
use Rattle.block_regions.proofs.Elements.{set-changes, read-some}
use Rattle.plain_row.proofs.plain_row.PlainRow.take.Goals as goal

pub returns-then-over : goal.returns-then-over
returns-then-over c =
    let w = c.args.self.now in
    let block : ℕ = c.args.block in
    let owner : ℕ = c.number-owner.result in
    let region = c.args.region in
    let there : w.turn < length w.seats.items = (let t = c.requires.turn.turn in let e = c.requires.turn.seats in omega arith) in
    let number : owner ≡ number_at_turn w = c.number-owner.ensures in
    let x : LocalSeat = c.index_mut-seat.result.now in
    rw c.if-over.true (record {
      plan = record { turn = refl; fill = refl; young = refl; allowance = refl; counts = refl; flags = refl };
      mutators = refl;
      words = subst (λ (n : ℕ). state_of c.set_block.new.self ≡ with_words (state_of w.row) (slice_set (state_of w.row).words
          (first (state_of w.row).blocks BlockWords + block) (code_of (record { kind = w.fill; class = c.args.class; owner = n })))) number c.set_block.ensures;
      notes = subst (λ (n : ℕ). ChangesAt w.notes.items (slice_set w.notes.items block (Owned owner region)) block (Owned n region)) number
          (set-changes w.notes.items block (Owned owner region) c.requires.notes);
      owned = c.push_reserved.ensures.items;
      room = c.push_reserved.ensures.capacity;
      seats = subst (λ (o : Option LocalSeat). ChangesAt w.seats.items
          (slice_set w.seats.items w.turn (seat_with true (Some x) c.args.class block c.args.ticket)) w.turn (seat_with true o c.args.class block c.args.ticket))
          (sym (read-some w.seats.items w.turn x there c.index_mut-seat.ensures.value))
          (set-changes w.seats.items w.turn (seat_with true (Some x) c.args.class block c.args.ticket) there);
    })

pub returns-else-over : goal.returns-else-over
returns-else-over c =
    let w = c.args.self.now in
    let block : ℕ = c.args.block in
    let owner : ℕ = c.number-owner.result in
    let region = c.args.region in
    let there : w.turn < length w.seats.items = (let t = c.requires.turn.turn in let e = c.requires.turn.seats in omega arith) in
    let number : owner ≡ number_at_turn w = c.number-owner.ensures in
    let x : LocalSeat = c.index_mut-seat.result.now in
    rw c.if-over.false (record {
      plan = record { turn = refl; fill = refl; young = refl; allowance = refl; counts = refl; flags = refl };
      mutators = refl;
      words = subst (λ (n : ℕ). state_of c.set_block.new.self ≡ with_words (state_of w.row) (slice_set (state_of w.row).words
          (first (state_of w.row).blocks BlockWords + block) (code_of (record { kind = w.fill; class = c.args.class; owner = n })))) number c.set_block.ensures;
      notes = subst (λ (n : ℕ). ChangesAt w.notes.items (slice_set w.notes.items block (Owned owner region)) block (Owned n region)) number
          (set-changes w.notes.items block (Owned owner region) c.requires.notes);
      owned = c.push_reserved.ensures.items;
      room = c.push_reserved.ensures.capacity;
      seats = subst (λ (o : Option LocalSeat). ChangesAt w.seats.items
          (slice_set w.seats.items w.turn (seat_with false (Some x) c.args.class block c.args.ticket)) w.turn (seat_with false o c.args.class block c.args.ticket))
          (sym (read-some w.seats.items w.turn x there c.index_mut-seat.ensures.value))
          (set-changes w.seats.items w.turn (seat_with false (Some x) c.args.class block c.args.ticket) there);
    })
