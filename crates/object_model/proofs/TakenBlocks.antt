-- A Free block is taken: its word becomes that of a block for small objects.
use Rattle.std.proofs.Common.{◌≡◌, refl, sym, ◌∙◌, ap, ℕ, ◌/◌, ◌%◌, ◌^◌, ◌<◌, ◌≤◌, arith, true, IsTrue}
use Rattle.std.proofs.lemmas.Bool.{lt-ltb}
use Rattle.heap_layout.specs.declared.block.BlockWord.{BlockWord}
use Rattle.heap_layout.specs.declared.block.Kind.TheVariants as kinds
use Rattle.heap_layout.specs.Blocks.{IsValidWord, code_of, kind_code}
use Rattle.heap_layout.proofs.BlockLemmas.{is_block_code-code_of, kind_code_most, valid_most}
use Rattle.object_model.specs.Objects.{HeapState, block_word, HasKind}
use Rattle.object_model.specs.Lawful.{IsLawful, IsLawfulButLines, IsWellFormed, has_small}
use Rattle.object_model.specs.Births.{with_block}
use Rattle.object_model.proofs.Blocks as blocks
use Rattle.object_model.proofs.OneKind.{kind-within, is_small_code}

pub fits : (word : BlockWord) → IsValidWord word → code_of word < 2 ^ 64
fits word valid = let most = valid_most word.kind word.class word.owner valid in let few : word.class ≤ 18 = most.0 in let some : word.owner ≤ 32 = most.1 in
    let kind : kind_code word.kind ≤ 8 = kind_code_most word.kind in omega arith

pub nobody : (word : BlockWord) → IsValidWord word → word.owner ≡ 0 → code_of word / 65536 ≡ 0
nobody word valid none = let few : word.class ≤ 18 = (valid_most word.kind word.class word.owner valid).0 in
    let kind : kind_code word.kind ≤ 8 = kind_code_most word.kind in omega arith

pub small : (s : HeapState) (k : ℕ) (word : BlockWord) → IsWellFormed s → HasKind s k kinds.Free → IsTrue (has_small (with_block s k word) k) → IsTrue (is_small_code true (code_of word % 256))
small s k word order is has =
    let there : k < s.blocks = kind-within s k kinds.Free is in
    sym (ap (λ t. is_small_code t (block_word (with_block s k word) k % 256)) (lt-ltb k s.blocks there) ∙ ap (λ v. is_small_code true (v % 256)) (blocks.block-set s k (code_of word) there order.row.extent)) ∙ has

pub but_lines : (s : HeapState) (k : ℕ) (word : BlockWord) → IsLawfulButLines s → HasKind s k kinds.Free → IsValidWord word → word.owner ≡ 0
    → IsTrue (has_small (with_block s k word) k) → IsLawfulButLines (with_block s k word)
but_lines s k word old is valid none has =
    blocks.but_lines-taken s old.order k (code_of word) is (old.free k is) (fits word valid) (small s k word old.order is has)
    (is_block_code-code_of word (code_of word) valid refl) (nobody word valid none) old

pub lawful : (s : HeapState) (k : ℕ) (word : BlockWord) → IsLawful s → HasKind s k kinds.Free → IsValidWord word → word.owner ≡ 0
    → IsTrue (has_small (with_block s k word) k) → IsLawful (with_block s k word)
lawful s k word old is valid none has =
    blocks.lawful-taken s old.but_lines.order k (code_of word) is (old.but_lines.free k is) (fits word valid) (small s k word old.but_lines.order is has)
    (is_block_code-code_of word (code_of word) valid refl) (nobody word valid none) old
