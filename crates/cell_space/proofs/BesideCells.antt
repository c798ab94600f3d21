-- A free cell by the bits of one word of start bits.
use Rattle.std.proofs.Common.{◌≡◌, sym, ◌∙◌, ap, ℕ, ◌+◌, ◌*◌, ◌-◌, ◌/◌, ◌%◌, ◌<◌, ◌≤◌, inl, inr, arith, nat_eq, slice_index}
use Rattle.std.specs.Int.{bit_at}
use Rattle.std.proofs.lemmas.Bool.{cases_eq, eq-eqb, eqb-true}
use Rattle.std.proofs.lemmas.Nat.Bits.{bit_at-lt}
use Rattle.heap_layout.specs.Zones.{StartBits, first, heap_of, block_start}
use Rattle.object_model.specs.Objects.{HeapState, is_start}
use Rattle.object_model.proofs.WordReads.{bit-there}
use Rattle.cell_space.specs.WordCells.{IsClearStart, IsFirstClear, HasNoneClear, IsBeside, IsFirstBeside, HasNoneBeside}

module _ (s : HeapState) (k size at base word : ℕ) (there : k < s.blocks) (inside : at < 4096)
    (from : base ≡ first s.blocks StartBits) (read : word ≡ slice_index s.words (base + 64 * k + at / 64)) where
  abbrev w : ℕ
  w = at / 64

  is : word ≡ slice_index s.words (first s.blocks StartBits + (64 * k + w))
  is = read ∙ ap (slice_index s.words) (let e : base + 64 * k + w ≡ first s.blocks StartBits + (64 * k + w) = omega (arith, from) in e)

  bit-is : (n : ℕ) → n < 64 → is_start s (block_start s.blocks k + (64 * w + n)) ≡ nat_eq (bit_at word n) 1
  bit-is n small =
      let place : block_start s.blocks k + (64 * w + n) ≡ heap_of s.blocks + 64 * (64 * k + w) + n = omega arith in
      ap (is_start s) place ∙ bit-there s.blocks StartBits s.words (64 * k + w) n (omega arith) small ∙ ap (λ v. nat_eq (bit_at v n) 1) (sym is)

  to-word : (x : ℕ) → IsBeside s k size at x → IsClearStart word size (at % 64) (x - 64 * w)
  to-word x beside =
      let start : x ≡ at + beside.index * size = beside.start in
      let below : x < 64 * (at / 64 + 1) = beside.inside in
      record {
        index = beside.index;
        start = omega arith;
        inside = omega arith;
        clear = elim (cases_eq (bit_at word (x - 64 * w)) 1) as (λ _. bit_at word (x - 64 * w) ≡ 0) [
          | inl one ↦ absurd (beside.free (
              ap (λ o. is_start s (block_start s.blocks k + o)) (let e : x ≡ 64 * w + (x - 64 * w) = omega arith in e)
              ∙ bit-is (x - 64 * w) (omega arith) ∙ eq-eqb (bit_at word (x - 64 * w)) 1 one))
          | inr other ↦ (let bound = bit_at-lt word (x - 64 * w) in omega (arith, other, bound))
        ];
      }

  of-word : (n : ℕ) → IsClearStart word size (at % 64) n → IsBeside s k size at (64 * w + n)
  of-word n clear =
      let start : n ≡ at % 64 + clear.index * size = clear.start in
      let below : n < 64 = clear.inside in
      record {
        index = clear.index;
        start = omega arith;
        inside = omega arith;
        free = λ set. (
            let one : bit_at word n ≡ 1 = eqb-true (bit_at word n) 1 (sym (bit-is n below) ∙ set) in
            let zero : bit_at word n ≡ 0 = clear.clear in
            omega (arith, one, zero));
      }

  pub none-beside : HasNoneClear word size (at % 64) → HasNoneBeside s k size at
  none-beside none x beside = none (x - 64 * w) (to-word x beside)

  pub first-beside : (n : ℕ) → IsFirstClear word size (at % 64) n → IsFirstBeside s k size at (64 * (at / 64) + n)
  first-beside n found = record {
    found = of-word n found.found;
    first = λ y beside. (
        let least : n ≤ y - 64 * w = found.first (y - 64 * w) (to-word y beside) in
        let start : y ≡ at + beside.index * size = beside.start in
        omega (arith, least, start));
  }
