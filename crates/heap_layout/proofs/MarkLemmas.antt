-- Laws of the bits of zones.
use Rattle.std.proofs.Common.{ℕ, ◌-◌, ◌≡◌, List, sym, ◌∙◌, arith, IsTrue}
use Rattle.heap_layout.specs.Zones.{Zone, heap_of, IsAddress, bit_of, address_bit}

-- an index whose bit is set is an address
pub is-address_from_mark : (b : ℕ) (z : Zone) (w : List ℕ) (a : ℕ) → IsTrue (address_bit b z w a) → IsAddress b a
is-address_from_mark b z w a marked = record { from = grind arith; below = grind arith }

-- the bit of an address is the bit at its position in the heap
pub address_bit-at_address : (b : ℕ) (z : Zone) (w : List ℕ) (a : ℕ) → IsAddress b a → address_bit b z w a ≡ bit_of b z w (a - heap_of b)
address_bit-at_address b z w a at = grind arith

-- if address_bit is true, the bit in the zone is set
pub bit_from_mark : (b : ℕ) (z : Zone) (w : List ℕ) (a : ℕ) → IsTrue (address_bit b z w a) → IsTrue (bit_of b z w (a - heap_of b))
bit_from_mark b z w a marked = sym (address_bit-at_address b z w a (is-address_from_mark b z w a marked)) ∙ marked
