-- The last object of a block, found by its start bit.
use Rattle.std.proofs.Common.{◌≡◌, ℕ, suc, ◌+◌, ◌*◌, ◌-◌, ◌/◌, ◌%◌, ◌^◌, ◌<◌, ◌≤◌, inl, inr, sym, ap, ◌∙◌, arith, true, eqb-true, eq-eqb, slice_index}
use Rattle.std.specs.Int.{bit_at}
use Rattle.std.specs.Int.Count.{count_leading_zeros}
use Rattle.std.proofs.Math.Nat.{div-eq_of_lt-le, pow-suc}
use Rattle.std.proofs.lemmas.Bool.{cases_lt}
use Rattle.std.proofs.lemmas.Nat.{leading_top}
use Rattle.std.proofs.lemmas.Nat.Bits.{bit_at-zero, bit_at_above}
use Rattle.heap_layout.specs.Zones.{StartBits, first, heap_of, block_at, offset_at, block_start}
use Rattle.heap_layout.specs.declared.block.Kind.TheVariants as kinds
use Rattle.object_model.specs.Objects.{HeapState, HasKind, IsHeld, is_start, size_at}
use Rattle.object_model.specs.Lawful.{HasObject, Lies, IsReadableBlock}
use Rattle.object_model.proofs.ObjectReads.{place_of_address}
use Rattle.sessions.specs.Fitting.{IsTail}
use Rattle.block_sweeps.specs.Sweeping.{AreApart}
use Rattle.side_meta.specs.BitWords.{has_bit}
use Rattle.block_sweeps.specs.WordSweeps.{start_word}
use Rattle.object_model.proofs.WordReads.{bit-there}
use Rattle.copy_space.specs.LastOffsets.{IsLast}

-- each object of block k begins before this offset
abbrev pub AllBefore : HeapState → ℕ → ℕ → Type 0
AllBefore s k end = (x : ℕ) → IsHeld s x → block_at s.blocks x ≡ k → offset_at s.blocks x < end

-- the start bit of an object
bit-of : (s : HeapState) (k i x : ℕ) → k < s.blocks → IsHeld s x → block_at s.blocks x ≡ k → 64 * i ≤ offset_at s.blocks x → offset_at s.blocks x < 64 * (i + 1)
    → bit_at (start_word s (64 * k + i)) (offset_at s.blocks x - 64 * i) ≡ 1
bit-of s k i x there held here from below =
    let place = place_of_address s.blocks x held.address in
    let j : ℕ = offset_at s.blocks x - 64 * i in
    let at : heap_of s.blocks + 64 * (64 * k + i) + j ≡ x = omega arith in
    eqb-true (bit_at (start_word s (64 * k + i)) j) 1 (sym (bit-there s.blocks StartBits s.words (64 * k + i) j (omega arith) (omega arith)) ∙ ap (is_start s) at ∙ held.start)

-- Word i of the block's start bits was read. No object begins at the addresses of later ones.
module _ (s : HeapState) (k index base word : ℕ) (there : k < s.blocks) (some : 0 < index) (most : index ≤ 64)
    (at : base ≡ first s.blocks StartBits) (read : word ≡ slice_index s.words (base + 64 * k + (index - 1))) (before : AllBefore s k (64 * index)) where
  abbrev i : ℕ
  i = index - 1

  is : word ≡ start_word s (64 * k + i)
  is = read ∙ ap (slice_index s.words) (let e : base + 64 * k + i ≡ first s.blocks StartBits + (64 * k + i) = omega (arith, at) in e)

  bit-in : (x : ℕ) → IsHeld s x → block_at s.blocks x ≡ k → 64 * i ≤ offset_at s.blocks x → bit_at word (offset_at s.blocks x - 64 * i) ≡ 1
  bit-in x held here from = (let below = before x held here in ap (λ v. bit_at v (offset_at s.blocks x - 64 * i)) is ∙ bit-of s k i x there held here from (omega arith))

  pub none-begins : word ≡ 0 → AllBefore s k (64 * i)
  none-begins empty x held here = elim (cases_lt (offset_at s.blocks x) (64 * i)) as (λ _. offset_at s.blocks x < 64 * i) [
    | inl earlier ↦ earlier
    | inr from ↦ absurd (
        let one = bit-in x held here from in
        let zero : bit_at word (offset_at s.blocks x - 64 * i) ≡ 0 = ap (λ v. bit_at v (offset_at s.blocks x - 64 * i)) empty ∙ bit_at-zero (offset_at s.blocks x - 64 * i) in
        omega arith)
  ]

  -- the object of its highest bit
  module _ (set : 0 < word) (fits : word < 2 ^ 64) where
    abbrev offset : ℕ
    offset = 64 * i + (63 - count_leading_zeros 64 word)

    abbrev top : (n : ℕ) × (count_leading_zeros 64 word + suc n ≡ 64) × (2 ^ n ≤ word) × (word < 2 ^ suc n)
    top = leading_top 64 word set fits

    bit : (n : ℕ) → 2 ^ n ≤ word → word < 2 ^ suc n → bit_at word n ≡ 1
    bit n from below = let e : word / 2 ^ n ≡ 1 = div-eq_of_lt-le {k = 1} (2 ^ n) (omega arith) (omega (arith, pow-suc 2 n)) in ap (λ x. x % 2) e

    within : offset < 4096
    within = let e = top.1 in omega arith

    start : is_start s (block_start s.blocks k + offset) ≡ true
    start =
        let e = top.1 in
        let place : block_start s.blocks k + offset ≡ heap_of s.blocks + 64 * (64 * k + i) + top.0 = omega arith in
        ap (is_start s) place ∙ bit-there s.blocks StartBits s.words (64 * k + i) top.0 (omega arith) (omega arith)
        ∙ ap (λ v. has_bit v top.0) (sym is) ∙ eq-eqb (bit_at word top.0) 1 (bit top.0 top.2 top.3)

    none-after : (x : ℕ) → IsHeld s x → block_at s.blocks x ≡ k → offset_at s.blocks x ≤ offset
    none-after x held here = let e = top.1 in elim (cases_lt offset (offset_at s.blocks x)) as (λ _. offset_at s.blocks x ≤ offset) [
      | inr less ↦ less
      | inl beyond ↦ absurd (
          let m : ℕ = offset_at s.blocks x - 64 * i in
          let one : bit_at word m ≡ 1 = bit-in x held here (omega arith) in
          let zero : bit_at word m ≡ 0 = bit_at_above word (suc top.0) m top.3 (omega arith) in
          omega arith)
    ]

    pub is-last : IsLast s k offset
    is-last = record {
      inside = within;
      held = (let below = within in record { address = record { from = omega arith; below = omega arith }; start = start });
      last = none-after;
    }

-- the last object of a block that can be read
module _ (s : HeapState) (k offset : ℕ) (block : IsReadableBlock s k) (last : IsLast s k offset) where
  abbrev pub object : ℕ
  object = block_start s.blocks k + offset

  here : block_at s.blocks object ≡ k
  here = let below : offset < 4096 = last.inside in omega arith

  at-offset : offset_at s.blocks object ≡ offset
  at-offset = let below : offset < 4096 = last.inside in omega arith

  object-lies : HasObject s object × Lies s object (size_at s object)
  object-lies = block.objects object last.held here

  -- it is small, since the block is no large run, and ends after all others
  module _ (small : HasKind s k kinds.LargeHead → ⊥) (apart : AreApart s k) where
    ends-last : (x : ℕ) → IsHeld s x → block_at s.blocks x ≡ k → offset_at s.blocks x + size_at s x ≤ offset + size_at s object
    ends-last x holds there = let most = last.last x holds there in
        elim (cases_lt (offset + size_at s object) (offset_at s.blocks x + size_at s x)) as (λ _. offset_at s.blocks x + size_at s x ≤ offset + size_at s object) [
          | inr less ↦ less
          | inl more ↦
              let place = place_of_address s.blocks x holds.address in
              let same : x ≡ object = apart x object object holds last.held there here (record { from = omega arith; below = omega arith }) (record { from = omega arith; below = omega arith }) in
              let size : size_at s x ≡ size_at s object = ap (size_at s) same in omega arith
        ]

    pub is-tail : IsTail s k (offset + size_at s object)
    is-tail = record {
      after = ends-last;
      least = inr (object, last.held, here, ap (λ o. o + size_at s object) at-offset);
    }
