-- Sets of heap addresses. Bit n mod 64 of the set's word n / 64 represents word n of the heap.
use Rattle.std.specs.Prelude.{ℕ, ◌-◌, ◌/◌, ◌%◌, Bool, slice_index, nat_eq}
use Rattle.std.specs.Int.{bit_at}
use Rattle.heap_layout.specs.Zones.{heap_of}
use Rattle.heap_graph.specs.declared.address_set.AddressSet.{AddressSet}
use Rattle.side_meta.specs.declared.word.TheConstants.{BITS_PER_WORD}

-- the set has word n of the heap
abbrev pub has_place : AddressSet → ℕ → Bool
has_place s n =
    nat_eq (bit_at (slice_index s.words.items (n / BITS_PER_WORD)) (n % BITS_PER_WORD)) 1

-- the set has the address
abbrev pub has_address : AddressSet → ℕ → Bool
has_address s a = has_place s (a - heap_of s.layout.blocks)
