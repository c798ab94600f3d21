-- The seat that is read of the mutator whose turn it is: its blocks have notes, and its regions are in order.
use Rattle.std.proofs.Common.{◌≡◌, sym, ◌∙◌, ap, subst, ℕ, ◌≤◌, arith, length, get_or}
use Rattle.std.specs.Prelude.{Option, Some, slice_get}
use Rattle.plain_row.specs.declared.plain_row.PlainRow.{PlainRow}
use Rattle.local_allocators.specs.declared.local_seat.LocalSeat.{LocalSeat}
use Rattle.local_allocators.specs.Seats.{blocks_of, block_of, over_of}
use Rattle.local_allocators.specs.MutatorRegions.{cursors_of}
use Rattle.local_allocators.specs.NotedRegions.{regions_of}
use Rattle.local_allocators.specs.NotedSeats.{HasNotedBlocks, regions_in}
use Rattle.plain_row.specs.Rows.{seat_at_turn, regions_at_turn}
use Rattle.plain_row.specs.Worlds.{MayCall, IsReadableSeat}
use Rattle.block_regions.proofs.Elements.{read-some}
use Rattle.plain_row.proofs.Turns as turns

-- the seat can be read
pub readable : (w : PlainRow) → MayCall w → IsReadableSeat w
readable w ready = let now = ready.between_calls.some in turns.own-readable now.epoch now.ideal now.log w now.at ready.turn

module _ (w : PlainRow) (readable : IsReadableSeat w) (x : LocalSeat) (read : x ≡ get_or w.seats.items w.turn x) where
  pub seat-is : seat_at_turn w ≡ Some x
  seat-is = read-some w.seats.items w.turn x (let t = readable.turn.turn in let e = readable.turn.seats in omega arith) read

  pub block-read : (class : ℕ) → block_of (seat_at_turn w) class ≡ block_of (Some x) class
  block-read class = ap (λ (o : Option LocalSeat). block_of o class) seat-is

  pub noted : HasNotedBlocks w.fill w.notes.items x
  noted = record {
    classes = sym (ap (λ (o : Option LocalSeat). length (blocks_of o)) seat-is) ∙ readable.classes;
    blocks = λ class k is. readable.blocks class k (ap (λ (o : Option LocalSeat). slice_get (blocks_of o) class) seat-is ∙ is);
    over = λ k lines is. readable.over k lines (ap over_of seat-is ∙ is);
  }

  pub hole-ordered : (cursors_of (regions_at_turn w)).hole.next ≤ (cursors_of (regions_at_turn w)).hole.end
      → (cursors_of (regions_in w.notes.items x)).hole.next ≤ (cursors_of (regions_in w.notes.items x)).hole.end
  hole-ordered order = subst (λ (o : Option LocalSeat). (cursors_of (regions_of w.notes.items o)).hole.next ≤ (cursors_of (regions_of w.notes.items o)).hole.end) seat-is order

  pub over-ordered : (cursors_of (regions_at_turn w)).over.next ≤ (cursors_of (regions_at_turn w)).over.end
      → (cursors_of (regions_in w.notes.items x)).over.next ≤ (cursors_of (regions_in w.notes.items x)).over.end
  over-ordered order = subst (λ (o : Option LocalSeat). (cursors_of (regions_of w.notes.items o)).over.next ≤ (cursors_of (regions_of w.notes.items o)).over.end) seat-is order
