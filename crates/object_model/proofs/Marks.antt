-- A start, pin or unlog bit is set only at an address of the heap.
use Rattle.std.proofs.Common.{◌≡◌, sym, ◌∙◌, ap, inl, inr, ℕ, ◌-◌, IsTrue, List, nat_le, nat_lt, ◌&&◌}
use Rattle.std.proofs.lemmas.Bool.{and_parts, leb-true, ltb-true, cases_Bool, and_left}
use Rattle.heap_layout.specs.Zones.{Zone, StartBits, IsAddress, heap_of, row_words, bit_of, address_bit}
use Rattle.heap_layout.proofs.MarkLemmas.{is-address_from_mark, address_bit-at_address}
use Rattle.object_model.specs.Objects.{HeapState, is_start, IsHeld}

pub address-from : (b a : ℕ) → IsTrue (nat_le (heap_of b) a && nat_lt a (row_words b)) → IsAddress b a
address-from b a range = record {
  from = leb-true (heap_of b) a (and_parts (nat_le (heap_of b) a) _ range).0;
  below = ltb-true a (row_words b) (and_parts (nat_le (heap_of b) a) _ range).1;
}

pub mark-from : (b : ℕ) (z : Zone) (w : List ℕ) (a : ℕ) → IsAddress b a → IsTrue (bit_of b z w (a - heap_of b)) → IsTrue (address_bit b z w a)
mark-from b z w a there bit = address_bit-at_address b z w a there ∙ bit

-- a start bit makes an object held
pub held : (s : HeapState) (a : ℕ) → IsTrue (is_start s a) → IsHeld s a
held s a start = record { address = is-address_from_mark s.blocks StartBits s.words a start; start = start }

-- such a bit is unchanged if it is unchanged for an address of the heap
pub mark-same : (b : ℕ) (z : Zone) (w w' : List ℕ) (a : ℕ) → (IsAddress b a → bit_of b z w' (a - heap_of b) ≡ bit_of b z w (a - heap_of b))
    → address_bit b z w' a ≡ address_bit b z w a
mark-same b z w w' a same =
    elim (cases_Bool (nat_le (heap_of b) a && nat_lt a (row_words b))) as (λ _. address_bit b z w' a ≡ address_bit b z w a) [
      | inl inside ↦ ap (λ bit. (nat_le (heap_of b) a && nat_lt a (row_words b)) && bit) (same (address-from b a inside))
      | inr outside ↦ and_left (nat_le (heap_of b) a && nat_lt a (row_words b)) _ outside ∙ sym (and_left (nat_le (heap_of b) a && nat_lt a (row_words b)) _ outside)
    ]
