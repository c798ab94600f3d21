use Rattle.std.proofs.Common.{◌≡◌, ◌∙◌, ap, ◌+◌, ◌*◌, ◌-◌, ◌/◌, ◌%◌, ◌<◌, slice_index, nat_eq, arith}
use Rattle.std.specs.Int.{bit_at}
use Rattle.heap_layout.specs.Zones.{first, heap_of, row_words, bit_of}
use Rattle.heap_layout.proofs.MarkLemmas.{is-address_from_mark, address_bit-at_address}
use Rattle.heap_layout.proofs.zones.bits_of_zones.Goals as goal

pub returns-clause-bit : goal.returns-clause-bit
returns-clause-bit c = λ b z w i k small.
    let word : (64 * i + k) / 64 ≡ i = omega (arith, small) in
    let bit : (64 * i + k) % 64 ≡ k = omega (arith, small) in
    ap (λ n. nat_eq (bit_at (slice_index w (first b z + n)) ((64 * i + k) % 64)) 1) word
    ∙ ap (λ n. nat_eq (bit_at (slice_index w (first b z + i)) n) 1) bit

pub returns-clause-address : goal.returns-clause-address
returns-clause-address c = λ b z w n small.
    let past : heap_of b + n - heap_of b ≡ n = omega arith in
    let inside : heap_of b + n < row_words b = omega (arith, small) in
    address_bit-at_address b z w (heap_of b + n) (record { from = omega arith; below = inside }) ∙ ap (bit_of b z w) past

pub returns-clause-outside : goal.returns-clause-outside
returns-clause-outside c = λ b z w a marked. is-address_from_mark b z w a marked
