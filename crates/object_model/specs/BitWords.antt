-- Where the bit of an address lies, and the address of a bit.
use Rattle.std.specs.Prelude.{ℕ, ◌+◌, ◌-◌, ◌*◌, ◌/◌, ◌%◌}
use Rattle.heap_layout.specs.Zones.{Zone, first, heap_of}
use Rattle.object_model.specs.Objects.{HeapState}
use Rattle.side_meta.specs.declared.word.TheConstants.{BITS_PER_WORD}

-- the index of the word of zone z with the bit of address a, and the position of the bit in that
-- word
abbrev pub bit_word : ℕ → Zone → ℕ → ℕ
bit_word b z a = first b z + (a - heap_of b) / BITS_PER_WORD

abbrev pub bit_place : ℕ → ℕ → ℕ
bit_place b a = (a - heap_of b) % BITS_PER_WORD

-- bit j of word i of a zone of bits is that of this address
abbrev pub address_of : HeapState → ℕ → ℕ → ℕ
address_of s i j = heap_of s.blocks + BITS_PER_WORD * i + j
