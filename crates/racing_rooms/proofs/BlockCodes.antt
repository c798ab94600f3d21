-- Block words during an epoch.
use Rattle.std.proofs.Common.{◌≡◌, sym, subst, ℕ, ◌/◌, ◌%◌, ◌<◌, ◌&&◌, IsTrue, nat_eq, eqb-true, arith, inl, inr}
use Rattle.std.proofs.lemmas.Bool.{and_parts}
use Rattle.heap_layout.specs.Blocks.{is_block_code, is_valid_for_some, kind_of_code}
use Rattle.heap_layout.proofs.BlockLemmas.{is_block_code-code_of}
use Rattle.object_model.specs.Objects.{block_word}
use Rattle.mutator_core.specs.Machine.{Epoch, Machine, heap_in}
use Rattle.mutator_core.specs.Epochs.{EpochMayBegin, IsInEpoch, IsOwned}

-- each block word is one
pub block-code : (p : Epoch) → EpochMayBegin p → (h : Machine) → IsInEpoch p (heap_in p h) h.locals → (k : ℕ) → k < p.before.blocks → IsTrue (is_block_code (block_word (heap_in p h) k))
block-code p ready h now k there = elim (now.blocks k there) as (λ _. IsTrue (is_block_code (block_word (heap_in p h) k))) [
  | inl same ↦ subst (λ (v : ℕ). IsTrue (is_block_code v)) (sym same) (ready.lawful.but_lines.blocks k there).code
  | inr own ↦ (
      let is : IsOwned p (heap_in p h) (h.locals own.0).number own.1 = (now.knows own.0).owned own.1 own.2 in
      subst (λ (q : ℕ). IsTrue (is_block_code (block_word (heap_in p h) q))) own.3
      (is_block_code-code_of (record { kind = p.rules.fill; class = own.1.class; owner = (h.locals own.0).number }) (block_word (heap_in p h) own.1.block) is.valid (sym is.word)))
]

-- the word of a Free block is 0
pub free-word : (v : ℕ) → IsTrue (is_block_code v) → v % 256 ≡ 0 → v ≡ 0
free-word v code free =
    let is : IsTrue (nat_eq (v / 256 % 256) 0 && nat_eq (v / 65536) 0) = subst (λ (n : ℕ). IsTrue (is_valid_for_some (kind_of_code n) (v / 256 % 256) (v / 65536))) free code in
    let both = and_parts (nat_eq (v / 256 % 256) 0) (nat_eq (v / 65536) 0) is in
    let class : v / 256 % 256 ≡ 0 = eqb-true (v / 256 % 256) 0 both.0 in
    let owner : v / 65536 ≡ 0 = eqb-true (v / 65536) 0 both.1 in
    omega arith
