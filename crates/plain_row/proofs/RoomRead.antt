-- The region that is read for an object's size: whether it has room.
use Rattle.std.proofs.Common.{◌≡◌, ◌∙◌, ap, ℕ, ◌+◌, ◌<◌, ◌≤◌, inr, length}
use Rattle.std.specs.Prelude.{Some, slice_get, get_or}
use Rattle.heap_layout.specs.declared.region.Region.{Region}
use Rattle.plain_row.specs.declared.plain_row.PlainRow.{PlainRow}
use Rattle.block_regions.specs.declared.block_notes.BlockNote.{BlockNote}
use Rattle.block_regions.specs.declared.block_notes.BlockNote.TheVariants.{Unowned, Owned}
use Rattle.plain_row.specs.Rows.{number_at_turn, regions_at_turn}
use Rattle.local_allocators.specs.MutatorRegions.{IsBlockFor}
use Rattle.plain_row.specs.Worlds.{MayCall, RegionHasRoomFor}
use Rattle.block_regions.proofs.Elements.{read-some}
use Rattle.block_regions.proofs.Lists.{one-element}
use Rattle.plain_row.proofs.Turns as turns

module _ (w : PlainRow) (size : ℕ) (ready : MayCall w) (b : ℕ) (n : BlockNote) (current : IsBlockFor w.fill (regions_at_turn w) size b)
    (read : n ≡ get_or w.notes.items b n) where
  pub there : b < length w.notes.items
  there = let now = ready.between_calls.some in turns.block-noted now.epoch now.ideal now.log w now.at ready.turn size b current

  pub not-unowned : (least : ℕ) → n ≡ Unowned least → ⊥
  not-unowned least is =
      let now = ready.between_calls.some in
      let mine = (turns.own-block now.epoch now.ideal now.log w now.at ready.turn size b current).0 in
      let note : slice_get w.notes.items b ≡ Some (Unowned least) = read-some w.notes.items b n there read ∙ ap (λ (y : BlockNote). Some y) is in
      let wrong : Unowned least ≡ Owned (number_at_turn w) mine.region
      = one-element (slice_get w.notes.items b) (Unowned least) (Owned (number_at_turn w) mine.region) note mine.note in
      cc

  module _ (owner : ℕ) (region : Region) (is : n ≡ Owned owner region) where
    pub note : slice_get w.notes.items b ≡ Some (Owned owner region)
    note = read-some w.notes.items b n there read ∙ ap (λ (y : BlockNote). Some y) is

    pub inside : region.next ≤ region.end
    inside = let now = ready.between_calls.some in (turns.note-inside now.epoch now.ideal now.log w now.at b owner region note).0

    pub has : region.next + size ≤ region.end → RegionHasRoomFor w size
    has room = let now = ready.between_calls.some in record {
      turn = ready.turn;
      some = now;
      block = b;
      current = current;
      room = record {
        region = region;
        note = turns.own-note now.epoch now.ideal now.log w now.at ready.turn size b owner region current note;
        room = room;
        others = λ k owner r is. inr (ready.between_calls.filled k owner r is);
      };
    }
