-- The objects that begin in a line, and the lines that they touch.
use Rattle.std.proofs.Common.{◌≡◌, ℕ, suc, ◌+◌, ◌*◌, ◌-◌, ◌^◌, ◌<◌, ◌≤◌, ◌⊎◌, inl, inr, sym, ap, ◌∙◌, subst, arith, w64, IsTrue, bit_and, min, List}
use Rattle.line_bits.specs.LineMarks.{IsFromTo}
use Rattle.std.specs.Int.{bit_at, trailing_zeros, leading_zeros}
use Rattle.std.proofs.lemmas.Bool.{cases_eq, cases_lt}
use Rattle.std.proofs.lemmas.Nat.{leading_top}
use Rattle.std.proofs.lemmas.Nat.Bits.{bit_at-trailing_zeros, bit_at_and, bit_at-lt, bit_at-zero, bit_at_above, bit_at_cat_high}
use Rattle.heap_layout.specs.Zones.{heap_of, block_start}
use Rattle.object_model.specs.Objects.{HeapState, is_start, size_at, IsHeld}
use Rattle.block_sweeps.specs.Sweeping.{AreApart}
use Rattle.block_sweeps.specs.Touches.{AddsLines, AreBitsOf, AreStarts, BeginsIn, MarksFrom, TouchesAt, IsTouchedFrom, has_line}
use Rattle.block_sweeps.proofs.TouchedWords.{start_word, start-set, start-bit}

-- a word of start bits
pub starts-are : (s : HeapState) (k index : ℕ) → k < s.blocks → index < 64 → AreStarts s k index (start_word s k index)
starts-are s k index there few = record { set = start-set s k index there few; all = start-bit s k index there few }

-- the bits of a line in a word
pub bits-of : (line word mask : ℕ) → ((i : ℕ) → IsFromTo (16 * line) (16 * line + 15) i → bit_at mask i ≡ 1)
    → ((i : ℕ) → bit_at mask i ≡ 1 → IsFromTo (16 * line) (16 * line + 15) i) → AreBitsOf line word (bit_and word mask)
bits-of line word mask inside only = record {
  set = λ i is.
      let both : min (bit_at word i) (bit_at mask i) ≡ 1 = sym (bit_at_and word mask i) ∙ is in
      let masked : bit_at mask i ≡ 1 = omega (arith, both, bit_at-lt word i, bit_at-lt mask i) in
      (only i masked, omega (arith, both, bit_at-lt word i, bit_at-lt mask i));
  all = λ i among one.
      bit_at_and word mask i ∙ (let both : min (bit_at word i) (bit_at mask i) ≡ 1 = omega (arith, one, inside i among) in both);
}

-- the highest bit of a word
pub highest : (n : ℕ) → 0 < n → n < 2 ^ 64
    → (leading_zeros w64 n < 64) × (bit_at n (63 - leading_zeros w64 n) ≡ 1) × ((i : ℕ) → bit_at n i ≡ 1 → i ≤ 63 - leading_zeros w64 n)
highest n some small =
    let top = leading_top 64 n some small in
    let at : 63 - leading_zeros w64 n ≡ top.0 = omega (arith, top.1) in
    let cut : n ≡ 1 * 2 ^ top.0 + (n - 2 ^ top.0) = omega (arith, top.2) in
    let less : n - 2 ^ top.0 < 2 ^ top.0 = omega (arith, top.2, top.3) in
    let set : bit_at n top.0 ≡ 1 = ap (λ v. bit_at v top.0) cut ∙ bit_at_cat_high 1 top.0 (n - 2 ^ top.0) top.0 less (omega arith) ∙ ap (bit_at 1) (let none : top.0 - top.0 ≡ 0 = omega arith in none) in (
      omega (arith, top.1),
      ap (bit_at n) at ∙ set,
      λ i is. elim (cases_lt top.0 i) as (λ _. i ≤ 63 - leading_zeros w64 n) [
        | inl above ↦ absurd (let clear : bit_at n i ≡ 0 = bit_at_above n (suc top.0) i top.3 (omega arith) in omega arith)
        | inr within ↦ omega (arith, at)
      ],
    )

module _ (s : HeapState) (k : ℕ) where
  -- the bits of a line in which an object begins are not 0, and no other ones
  pub begins : (index line word bits : ℕ) → line < 4 → bits < 2 ^ 64 → (bits ≡ 0 → ⊥) → AreStarts s k index word → AreBitsOf line word bits
      → BeginsIn s k (4 * index + line)
  begins index line word bits few small some starts are =
      let lowest = bit_at-trailing_zeros w64 bits (omega (arith, some)) small in
      let i : ℕ = trailing_zeros w64 bits in
      let is = are.set i lowest.1 in
      let after : 16 * line ≤ i = is.0.after in
      let most : i ≤ 16 * line + 15 = is.0.most in
      record { offset = 64 * index + i; from = omega arith; below = omega arith; start = starts.set i (omega arith) is.1 }

  pub begins-none : (index line word bits : ℕ) → line < 4 → bits ≡ 0 → AreStarts s k index word → AreBitsOf line word bits → BeginsIn s k (4 * index + line) → ⊥
  begins-none index line word bits few none starts are is =
      let from : 16 * (4 * index + line) ≤ is.offset = is.from in
      let below : is.offset < 16 * (4 * index + line + 1) = is.below in
      let i : ℕ = is.offset - 64 * index in
      let at : is.offset ≡ 64 * index + i = omega arith in
      let set : bit_at word i ≡ 1 = starts.all i (omega arith) (subst (λ o. IsTrue (is_start s (block_start s.blocks k + o))) at is.start) in
      let one : bit_at bits i ≡ 1 = are.all i (record { after = omega arith; most = omega arith }) set in
      let zero : bit_at bits i ≡ 0 = ap (λ v. bit_at v i) none ∙ bit_at-zero i in
      omega (arith, one, zero)

  -- a line is touched by what begins in it
  pub own-line : (line : ℕ) → line < 256 → BeginsIn s k line → IsTouchedFrom s k 0 4096 line
  own-line line few is =
      let from : 16 * line ≤ is.offset = is.from in
      let below : is.offset < 16 * (line + 1) = is.below in
      record { offset = is.offset; after = omega arith; below = omega arith; start = is.start; touches = record { from = omega arith; below = omega arith } }

  module _ (there : k < s.blocks) (apart : AreApart s k) where
    held : (offset : ℕ) → offset < 4096 → IsTrue (is_start s (block_start s.blocks k + offset)) → IsHeld s (block_start s.blocks k + offset)
    held offset small start = record { address = record { from = omega arith; below = omega arith }; start = start }

    -- an object ends before a later one
    ends : (offset later : ℕ) → offset < later → later < 4096 → IsTrue (is_start s (block_start s.blocks k + offset)) → IsTrue (is_start s (block_start s.blocks k + later))
        → offset + size_at s (block_start s.blocks k + offset) ≤ later
    ends offset later before small start start' = elim (cases_lt later (offset + size_at s (block_start s.blocks k + offset)))
        as (λ _. offset + size_at s (block_start s.blocks k + offset) ≤ later) [
          | inl over ↦ absurd (
              (let same : block_start s.blocks k + offset ≡ block_start s.blocks k + later
              = apart (block_start s.blocks k + offset) (block_start s.blocks k + later) (block_start s.blocks k + later)
              (held offset (omega arith) start) (held later small start') (omega arith) (omega arith)
              (record { from = omega arith; below = omega arith }) (record { from = omega arith; below = omega arith }) in
              omega arith))
          | inr less ↦ less
        ]

    -- what begins in a line touches no line after the next one, if something begins there
    pub two-lines : (line n offset : ℕ) → line < 255 → BeginsIn s k (line + 1) → 16 * line ≤ offset → offset < 16 * line + 16
        → IsTrue (is_start s (block_start s.blocks k + offset)) → TouchesAt s k offset n → IsFromTo line (line + 1) n
    two-lines line n offset few next least most start touches =
        let from' : 16 * (line + 1) ≤ next.offset = next.from in
        let below' : next.offset < 16 * (line + 1 + 1) = next.below in
        let end : offset + size_at s (block_start s.blocks k + offset) ≤ next.offset = ends offset next.offset (omega arith) (omega arith) start next.start in
        let from : heap_of s.blocks + 16 * (256 * k + n) < block_start s.blocks k + offset + size_at s (block_start s.blocks k + offset) = touches.from in
        let below : block_start s.blocks k + offset < heap_of s.blocks + 16 * (256 * k + n + 1) = touches.below in
        record { after = (omega arith); most = (omega arith) }

    -- the last object of a line
    pub marks-last : (line last : ℕ) (old new : List ℕ) → line < 256 → 16 * line ≤ last → last < 16 * line + 16 → IsTrue (is_start s (block_start s.blocks k + last))
        → ((offset : ℕ) → 16 * line ≤ offset → offset < 16 * line + 16 → IsTrue (is_start s (block_start s.blocks k + offset)) → offset ≤ last)
        → AddsLines (TouchesAt s k last) old new → MarksFrom s k (16 * line) (16 * line + 16) old new
    marks-last line last old new few least most start top adds = record {
      extent = adds.extent;
      kept = adds.kept;
      added = λ n is. adds.added n (elim (cases_eq is.offset last) as (λ _. TouchesAt s k last n) [
        | inl same ↦ subst (λ o. TouchesAt s k o n) same is.touches
        | inr other ↦
            (let after : 16 * line ≤ is.offset = is.after in
            let below : is.offset < 16 * line + 16 = is.below in
            let before : is.offset < last = omega (arith, other, top is.offset is.after is.below is.start) in
            let end : is.offset + size_at s (block_start s.blocks k + is.offset) ≤ last = ends is.offset last before (omega arith) is.start start in
            let from' : heap_of s.blocks + 16 * (256 * k + n) < block_start s.blocks k + is.offset + size_at s (block_start s.blocks k + is.offset) = is.touches.from in
            let below' : block_start s.blocks k + is.offset < heap_of s.blocks + 16 * (256 * k + n + 1) = is.touches.below in
            record { from = omega arith; below = omega arith })
      ]);
      only = λ n is. elim (adds.only n is) as (λ _. IsTrue (has_line old n) ⊎ IsTouchedFrom s k 0 4096 n) [
        | inl was ↦ inl was
        | inr touches ↦ inr (record { offset = last; after = omega arith; below = omega arith; start = start; touches = touches })
      ];
    }
