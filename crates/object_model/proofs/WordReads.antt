-- What words say: which bits are set, and the kinds of blocks.
use Rattle.std.proofs.Common.{◌≡◌, sym, ◌∙◌, ap, ℕ, ◌+◌, ◌*◌, ◌-◌, ◌/◌, ◌%◌, ◌^◌, ◌<◌, inl, inr, arith, List, slice_index, nat_eq, Some}
use Rattle.std.specs.Int.{bit_at}
use Rattle.std.proofs.lemmas.Bool.{cases_eq}
use Rattle.std.proofs.lemmas.Nat.{and_le_l}
use Rattle.heap_layout.specs.Zones.{Zone, first, heap_of, bit_of, address_bit}
use Rattle.heap_layout.specs.Blocks.{kind_code, code_of, kind_of_code, IsValidWord}
use Rattle.heap_layout.specs.declared.block.Kind.{Kind}
use Rattle.heap_layout.specs.declared.block.BlockWord.{BlockWord}
use Rattle.heap_layout.proofs.BlockLemmas.{parts_of_code, code_parts, kind_of_code-kind_code, kind_code_most, valid_most}
use Rattle.heap_layout.proofs.MarkLemmas.{address_bit-at_address}
use Rattle.side_meta.specs.BitWords.{has_bit, without_bit}
use Rattle.side_meta.proofs.BitWords.{without-same}
use Rattle.object_model.specs.Objects.{HeapState, block_word, HasKind}
use Rattle.object_model.proofs.OneKind.{kind-code, kind-from}

-- a word is less without a bit that is set
pub without-less : (n k : ℕ) → k < 64 → bit_at n k ≡ 1 → without_bit n k < n
without-less n k low set = elim (cases_eq (without_bit n k) n) as (λ _. without_bit n k < n) [
  | inl same ↦ absurd (let clear : bit_at n k ≡ 0 = ap (λ v. bit_at v k) (sym same) ∙ without-same n k low in omega arith)
  | inr differ ↦ (let most = and_le_l n (2 ^ 64 - 1 - 2 ^ k) in omega arith)
]

-- the bit of an address, by its word
pub bit-there : (b : ℕ) (z : Zone) (w : List ℕ) (i j : ℕ) → i < 64 * b → j < 64
    → address_bit b z w (heap_of b + 64 * i + j) ≡ has_bit (slice_index w (first b z + i)) j
bit-there b z w i j inside small =
    let at : heap_of b + 64 * i + j - heap_of b ≡ 64 * i + j = omega arith in
    let word : (64 * i + j) / 64 ≡ i = omega arith in
    let bit : (64 * i + j) % 64 ≡ j = omega arith in
    address_bit-at_address b z w (heap_of b + 64 * i + j) (record { from = omega arith; below = omega arith })
    ∙ ap (bit_of b z w) at
    ∙ ap (λ n. nat_eq (bit_at (slice_index w (first b z + n)) ((64 * i + j) % 64)) 1) word
    ∙ ap (λ n. nat_eq (bit_at (slice_index w (first b z + i)) n) 1) bit

-- the kind that a block has is that of its word
pub kind-shown : (s : HeapState) (k : ℕ) (kind : Kind) (w : BlockWord) → IsValidWord w → code_of w ≡ block_word s k → HasKind s k kind → w.kind ≡ kind
kind-shown s k kind w valid code is =
    let e : Some w.kind ≡ Some kind = sym (parts_of_code w (block_word s k) valid code).0 ∙ ap kind_of_code (kind-code s k kind is) ∙ kind_of_code-kind_code kind in cc

-- a block has the kind of its word
pub has-shown : (s : HeapState) (k : ℕ) (w : BlockWord) → k < s.blocks → IsValidWord w → code_of w ≡ block_word s k → HasKind s k w.kind
has-shown s k w there valid code = kind-from s k w.kind there
    (code_parts (kind_code w.kind) w.class w.owner (block_word s k) (kind_code_most w.kind) (valid_most w.kind w.class w.owner valid).0 code).0
