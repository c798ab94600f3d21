-- What the word and the start bits of a block say of it.
use Rattle.std.proofs.Common.{◌≡◌, ◌≢◌, sym, ◌∙◌, ap, ℕ, ◌+◌, ◌*◌, ◌-◌, ◌/◌, ◌%◌, ◌^◌, ◌<◌, ◌≤◌, inl, inr, arith, w64, true, IsTrue, slice_index, eq-eqb}
use Rattle.std.specs.Int.{bit_at, trailing_zeros}
use Rattle.std.proofs.lemmas.Bool.{cases_lt, cases_eq, eqb-true}
use Rattle.std.proofs.lemmas.Nat.Bits.{bit_at-zero, bit_at-trailing_zeros}
use Rattle.heap_layout.specs.Zones.{StartBits, UnlogBits, first, heap_of, block_at, offset_at, IsAddress}
use Rattle.object_model.specs.Objects.{HeapState, is_start, is_unlogged, IsHeld}
use Rattle.object_model.proofs.ObjectReads.{place_of_address}
use Rattle.block_sweeps.specs.Sweeping.{InBlock}
use Rattle.side_meta.specs.BitWords.{has_bit}
use Rattle.block_sweeps.specs.WordSweeps.{start_word, unlog_word}
use Rattle.object_model.proofs.WordReads.{bit-there}
use Rattle.block_release.specs.Released.{DiffersInSome}

-- The objects of block k begin at or after this offset.
abbrev pub AllFrom : HeapState → ℕ → ℕ → Type 0
AllFrom s k from = (a : ℕ) → InBlock s k a → IsHeld s a → from ≤ offset_at s.blocks a

-- word i of the block's start bits was read
module _ (s : HeapState) (k i at word : ℕ) (there : k < s.blocks) (few : i < 64) (is : at ≡ first s.blocks StartBits + 64 * k) (read : word ≡ slice_index s.words (at + i)) where
  reads : word ≡ start_word s (64 * k + i)
  reads = read ∙ ap (slice_index s.words) (let e : at + i ≡ first s.blocks StartBits + (64 * k + i) = omega arith in e)

  -- it has no bit: no object begins at its addresses
  pub from-next : word ≡ 0 → AllFrom s k (64 * i) → AllFrom s k (64 * (i + 1))
  from-next zero before a here held = elim (cases_lt (offset_at s.blocks a) (64 * (i + 1))) as (λ _. 64 * (i + 1) ≤ offset_at s.blocks a) [
    | inr from ↦ from
    | inl early ↦ absurd (
        let place = place_of_address s.blocks a here.address in
        let block : block_at s.blocks a ≡ k = here.block in
        let from : 64 * i ≤ offset_at s.blocks a = before a here held in
        let j : ℕ = offset_at s.blocks a - 64 * i in
        let e : heap_of s.blocks + 64 * (64 * k + i) + j ≡ a = omega arith in
        let set : is_start s (heap_of s.blocks + 64 * (64 * k + i) + j) ≡ true = ap (is_start s) e ∙ held.start in
        let bit : has_bit (start_word s (64 * k + i)) j ≡ true = sym (bit-there s.blocks StartBits s.words (64 * k + i) j (omega arith) (omega arith)) ∙ set in
        let one : bit_at (start_word s (64 * k + i)) j ≡ 1 = eqb-true _ _ bit in
        let none : bit_at (start_word s (64 * k + i)) j ≡ 0 = ap (λ v. bit_at v j) (sym reads ∙ zero) ∙ bit_at-zero j in
        omega (arith, one, none))
  ]

  -- it has one, of an object
  pub some-there : word ≢ 0 → word < 2 ^ 64 → (a : ℕ) × InBlock s k a × IsHeld s a
  some-there some fits =
      let found = bit_at-trailing_zeros w64 word (omega (arith, some)) fits in
      let j : ℕ = trailing_zeros w64 word in
      let small : j < 64 = found.0 in
      let a : ℕ = heap_of s.blocks + 64 * (64 * k + i) + j in
      let at : IsAddress s.blocks a = record { from = omega (arith, there, few, small); below = omega (arith, there, few, small) } in
      let bit : has_bit (start_word s (64 * k + i)) j ≡ true = ap (λ v. has_bit v j) (sym reads) ∙ eq-eqb (bit_at word j) 1 found.1 in (
        a,
        record { address = at; block = omega (arith, there, few, small) },
        record { address = at; start = bit-there s.blocks StartBits s.words (64 * k + i) j (omega (arith, there, few)) small ∙ bit },
      )

-- where start bits and unlog bits do not differ, they are equal, and each object of the block has its unlog bit
pub words-equal : (s : HeapState) (k : ℕ) → (DiffersInSome s k → ⊥) → (i : ℕ) → i < 64 → start_word s (64 * k + i) ≡ unlog_word s (64 * k + i)
words-equal s k none i inside = elim (cases_eq (start_word s (64 * k + i)) (unlog_word s (64 * k + i))) as (λ _. start_word s (64 * k + i) ≡ unlog_word s (64 * k + i)) [
  | inl is ↦ is
  | inr differ ↦ absurd (none (record { index = i; inside = inside; differ = differ }))
]

pub all-unlogged : (s : HeapState) (k : ℕ) → k < s.blocks → (DiffersInSome s k → ⊥) → (a : ℕ) → InBlock s k a → IsHeld s a → IsTrue (is_unlogged s a)
all-unlogged s k there none a here held =
    let place = place_of_address s.blocks a here.address in
    let block : block_at s.blocks a ≡ k = here.block in
    let i : ℕ = offset_at s.blocks a / 64 in
    let j : ℕ = offset_at s.blocks a % 64 in
    let e : heap_of s.blocks + 64 * (64 * k + i) + j ≡ a = omega arith in
    let set : is_start s (heap_of s.blocks + 64 * (64 * k + i) + j) ≡ true = ap (is_start s) e ∙ held.start in
    sym (ap (is_unlogged s) e) ∙ bit-there s.blocks UnlogBits s.words (64 * k + i) j (omega arith) (omega arith)
    ∙ ap (λ v. has_bit v j) (sym (words-equal s k none i (omega arith))) ∙ sym (bit-there s.blocks StartBits s.words (64 * k + i) j (omega arith) (omega arith)) ∙ set

pub none-begins : (s : HeapState) (k n : ℕ) → 64 ≤ n → AllFrom s k (64 * n) → (a : ℕ) → InBlock s k a → IsHeld s a → ⊥
none-begins s k n all from a here held =
    let place = place_of_address s.blocks a here.address in
    let late : 64 * n ≤ offset_at s.blocks a = from a here held in
    let below : offset_at s.blocks a < 4096 = place.1 in
    omega (arith, all, late, below)
