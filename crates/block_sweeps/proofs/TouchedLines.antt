-- The lines that objects of a block touch.
use Rattle.std.proofs.Common.{◌≡◌, ℕ, ◌+◌, ◌*◌, ◌-◌, ◌/◌, ◌%◌, ◌<◌, ◌≤◌, ◌↔◌, inl, inr, true≢false, refl, sym, ap, ◌∙◌, subst, arith, IsTrue, nat_eq, List, slice_index, replicate}
use Rattle.line_bits.specs.LineMarks.{IsFromTo}
use Rattle.std.specs.Int.{bit_at}
use Rattle.std.proofs.Math.Logic.{∥∥₁_elim}
use Rattle.std.proofs.lemmas.Bool.{cases_Bool, false≢true}
use Rattle.std.proofs.lemmas.List.{get_or-replicate}
use Rattle.std.proofs.lemmas.Nat.Bits.{bit_at-zero}
use Rattle.heap_layout.specs.Zones.{heap_of, block_at, block_start, offset_at, first, LineWords}
use Rattle.heap_layout.specs.declared.layout.Layout.{Layout}
use Rattle.object_model.specs.Lines.{TouchesLine}
use Rattle.object_model.specs.Objects.{HeapState, state_over, word_at, size_at, is_start, line_marked}
use Rattle.object_model.proofs.ObjectReads.{place_of_address}
use Rattle.block_sweeps.specs.Stores.{Fills}
use Rattle.block_sweeps.specs.Sweeping.{MarksTouched, IsTouchedHere}
use Rattle.block_sweeps.specs.Touches.{AddsLines, TouchesAt, IsTouchedFrom, has_line}
use Rattle.block_sweeps.proofs.AddedLines.{adds-same}

-- the lines from that of an object's first word to that of its last
pub adds-object : (s : HeapState) (k offset at word size : ℕ) (old new : List ℕ) → at ≡ block_start s.blocks k + offset → word ≡ word_at s (at + 1) → size ≡ 3 + word % 65536 + word / 65536
    → AddsLines (IsFromTo (offset / 16) ((offset + size - 1) / 16)) old new → AddsLines (TouchesAt s k offset) old new
adds-object s k offset at word size old new place read is adds =
    let shape : word ≡ word_at s (block_start s.blocks k + offset + 1) = read ∙ ap (λ i. word_at s (i + 1)) place in
    let same : size ≡ size_at s (block_start s.blocks k + offset) = is ∙ ap (λ w. 3 + w % 65536 + w / 65536) shape in
    adds-same (IsFromTo (offset / 16) ((offset + size - 1) / 16)) (TouchesAt s k offset) old new adds
    (λ n has.
    let from : heap_of s.blocks + 16 * (256 * k + n) < block_start s.blocks k + offset + size_at s (block_start s.blocks k + offset) = has.from in
    let below : block_start s.blocks k + offset < heap_of s.blocks + 16 * (256 * k + n + 1) = has.below in
    record { after = (omega arith); most = (omega arith) })
    (λ n run. let after : offset / 16 ≤ n = run.after in let most : n ≤ (offset + size - 1) / 16 = run.most in record { from = (omega arith); below = (omega arith) })

module _ (s : HeapState) (k line : ℕ) (there : k < s.blocks) where
  pub here-from : IsTouchedFrom s k 0 4096 line → IsTouchedHere s k line
  here-from is =
      let below : is.offset < 4096 = is.below in
      record {
        touched = record {
          object = block_start s.blocks k + is.offset;
          held = record { address = record { from = omega arith; below = omega arith }; start = is.start };
          touches = is.touches;
        };
        here = omega arith;
      }

  pub from-here : IsTouchedHere s k line → IsTouchedFrom s k 0 4096 line
  from-here is =
      let place = place_of_address s.blocks is.touched.object is.touched.held.address in
      let here : block_at s.blocks is.touched.object ≡ k = is.here in
      let at : is.touched.object ≡ block_start s.blocks k + offset_at s.blocks is.touched.object = omega arith in
      record {
        offset = offset_at s.blocks is.touched.object;
        after = omega arith;
        below = place.1;
        start = subst (λ a. IsTrue (is_start s a)) at is.touched.held.start;
        touches = subst (λ a. TouchesLine s.blocks a (size_at s a) (256 * k + line)) at is.touched.touches;
      }

pub no-line : (line : ℕ) → line < 256 → IsTrue (has_line (replicate 4 0) line) → ⊥
no-line line small is = false≢true (sym (ap (λ v. nat_eq (bit_at v (line % 64)) 1) (get_or-replicate 4 (line / 64) 0 0 (omega arith)) ∙ ap (λ v. nat_eq v 1) (bit_at-zero (line % 64))) ∙ is)

-- the words with these bits are stored
module _ (old new lines : List ℕ) (l : Layout) (k : ℕ) (exact : (line : ℕ) → line < 256 → IsTrue (has_line lines line) ↔ IsTouchedHere (state_over old l 0 0) k line)
    (fills : Fills old new (first l.blocks LineWords + 4 * k) (first l.blocks LineWords + 4 * k + 4) (λ i. slice_index lines (i - (first l.blocks LineWords + 4 * k)))) where
  marked : (line : ℕ) → line < 256 → line_marked (state_over new l 0 0) k line ≡ has_line lines line
  marked line small =
      let i : ℕ = first l.blocks LineWords + (256 * k + line) / 64 in
      let word : i - (first l.blocks LineWords + 4 * k) ≡ line / 64 = omega arith in
      let bit : (256 * k + line) % 64 ≡ line % 64 = omega arith in
      ap (λ v. nat_eq (bit_at v ((256 * k + line) % 64)) 1) (fills.own i (omega arith) (omega arith) ∙ ap (slice_index lines) word)
      ∙ ap (λ j. nat_eq (bit_at (slice_index lines (line / 64)) j) 1) bit

  touched : (line : ℕ) → line < 256 → ∥ IsTouchedHere (state_over old l 0 0) k line ∥₁ → IsTrue (has_line lines line)
  touched line small some = elim (cases_Bool (has_line lines line)) as (λ _. IsTrue (has_line lines line)) [
    | inl set ↦ set
    | inr clear ↦ absurd (∥∥₁_elim some (λ x. absurd x) (λ t. true≢false (sym ((exact line small).1 t) ∙ clear)))
  ]

  pub marks-touched : MarksTouched (state_over old l 0 0) (state_over new l 0 0) k
  marks-touched = record {
    lines = λ line small. (λ is. ∣ (exact line small).0 (sym (marked line small) ∙ is) ∣₁, λ some. marked line small ∙ touched line small some);
    rest = record {
      blocks = refl;
      extent = fills.extent;
      others = λ i outside. fills.others i (λ inside. outside (record { after = inside.0; below = inside.1 }));
      fit = fills.fit;
    };
  }
