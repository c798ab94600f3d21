-- A tracer sets the bit of an address.
use Rattle.std.proofs.Common.{◌≡◌, ℕ, ◌+◌, ◌-◌, ◌/◌, ◌%◌, Bool, nat_eq, List, length, slice_index, slice_set, length-set, sym, ap, ◌∙◌, subst}
use Rattle.std.specs.Int.{bit_at}
use Rattle.heap_layout.specs.Zones.{Zone, first, heap_of, row_words, IsAddress, address_bit}
use Rattle.heap_layout.proofs.MarkLemmas.{address_bit-at_address}
use Rattle.object_model.specs.Objects.{HeapState, state_of, with_words}
use Rattle.side_meta.specs.BitWords.{with_bit}
use Rattle.plain_tracer.specs.Tracers.{ChangesWords}
use Rattle.plain_tracer.specs.declared.plain_trace.PlainTrace.{PlainTrace}

-- the words of a row of b blocks after the bit of t is set, in the zone from this word on
abbrev pub set_at : List ℕ → ℕ → ℕ → ℕ → List ℕ
set_at ws b zone t = slice_set ws (zone + (t - heap_of b) / 64) (with_bit (slice_index ws (zone + (t - heap_of b) / 64)) ((t - heap_of b) % 64))

module _ (old new : PlainTrace) (zone t : ℕ) (changes : ChangesWords old new (set_at old.row.words old.row.layout.blocks zone t)) where
  pub set-row : (s : HeapState) (z : Zone) (ws : List ℕ) → state_of old.row ≡ with_words s ws → zone ≡ first old.row.layout.blocks z → state_of new.row ≡ with_words s (set_at ws s.blocks (first s.blocks z) t)
  set-row s z ws is at =
      let blocks : old.row.layout.blocks ≡ s.blocks = ap (λ h. h.blocks) is in
      changes.row ∙ ap (λ h. with_words h (set_at old.row.words old.row.layout.blocks zone t)) is
      ∙ ap (λ l. with_words s (set_at l old.row.layout.blocks zone t)) (ap (λ h. h.words) is)
      ∙ ap (λ n. with_words s (set_at ws old.row.layout.blocks n t)) at
      ∙ ap (λ b. with_words s (set_at ws b (first b z) t)) blocks

  pub set-blocks : new.row.layout.blocks ≡ old.row.layout.blocks
  set-blocks = ap (λ h. h.blocks) changes.row

  pub set-extent : length old.row.words ≡ row_words old.row.layout.blocks → length new.row.words ≡ row_words new.row.layout.blocks
  set-extent long = ap (λ h. length h.words) changes.row ∙ length-set old.row.words _ _ ∙ long ∙ ap row_words (sym set-blocks)

-- what is read of the bit of an address, in the zone from this word on
pub bit-read : (t : PlainTrace) (z : Zone) (zone x : ℕ) (found : Bool) → IsAddress t.row.layout.blocks x → zone ≡ first t.row.layout.blocks z
    → found ≡ nat_eq (bit_at (slice_index t.row.words (zone + (x - heap_of t.row.layout.blocks) / 64)) ((x - heap_of t.row.layout.blocks) % 64)) 1
    → address_bit t.row.layout.blocks z t.row.words x ≡ found
bit-read t z zone x found there at is = let k : ℕ = x - heap_of t.row.layout.blocks in
    address_bit-at_address t.row.layout.blocks z t.row.words x there
    ∙ sym (subst (λ n. found ≡ nat_eq (bit_at (slice_index t.row.words (n + k / 64)) (k % 64)) 1) at is)
