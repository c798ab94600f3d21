-- The line bits of a swept block are exact if no object reaches in from another block.
use Rattle.std.proofs.Common.{◌≡◌, ◌≢◌, sym, ap, ◌∙◌, subst, inl, inr, ℕ, ◌+◌, ◌*◌, ◌-◌, ◌/◌, ◌%◌, ◌<◌, ◌≤◌, ◌&&◌, List, nat_eq, nat_le, nat_lt, arith}
use Rattle.std.specs.Int.{bit_at}
use Rattle.std.proofs.Math.Logic.{∥∥₁_map}
use Rattle.std.proofs.lemmas.Bool.{cases_eq}
use Rattle.heap_layout.specs.Zones.{StartBits, first, heap_of, row_words, block_at, IsAddress}
use Rattle.heap_layout.specs.declared.layout.Layout.{Layout}
use Rattle.object_model.specs.Objects.{HeapState, state_over, is_start, size_at}
use Rattle.object_model.specs.Lines.{TouchesLine}
use Rattle.object_model.specs.Lawful.{IsTouched, LineBitsAreExact}
use Rattle.block_sweeps.specs.Sweeping.{IsMetadata}
use Rattle.immix_space.specs.LineSweeps.{SweepsLines, IsTouchedFromWithin}

module _ (l : Layout) (k : ℕ) (old new : List ℕ) (base : ℕ) (there : k < l.blocks) (swept : SweepsLines base (state_over old l 0 0) (state_over new l 0 0) k) where
  abbrev b : ℕ
  b = l.blocks

  abbrev s : HeapState
  s = state_over old l 0 0

  abbrev u : HeapState
  u = state_over new l 0 0

  -- the metadata of block k has no word of the heap, and no start bit of another block
  no-heap : (i : ℕ) → heap_of b ≤ i → IsMetadata b k i → ⊥
  no-heap i from word = elim word as (λ _. ⊥) [
    | inl either ↦ elim either as (λ _. ⊥) [ inl at ↦ omega arith | inr line ↦ (let x = line.below in omega arith) ]
    | inr mark ↦ elim mark as (λ _. ⊥) [
      | inl start ↦ (let x = start.below in omega arith)
      | inr more ↦ elim more as (λ _. ⊥) [ inl pin ↦ (let x = pin.below in omega arith) | inr unlog ↦ (let x = unlog.below in omega arith) ]
    ]
  ]

  no-start : (a : ℕ) → IsAddress b a → block_at b a ≢ k → IsMetadata b k (first b StartBits + (a - heap_of b) / 64) → ⊥
  no-start a address other word = let from = address.from in let below = address.below in elim word as (λ _. ⊥) [
    | inl either ↦ elim either as (λ _. ⊥) [ inl at ↦ omega arith | inr line ↦ (let x = line.below in omega arith) ]
    | inr mark ↦ elim mark as (λ _. ⊥) [
      | inl start ↦ other (let x = start.below in let y = start.after in omega arith)
      | inr more ↦ elim more as (λ _. ⊥) [ inl pin ↦ (let x = pin.after in omega arith) | inr unlog ↦ (let x = unlog.after in omega arith) ]
    ]
  ]

  start-same : (a : ℕ) → IsAddress b a → block_at b a ≢ k → is_start u a ≡ is_start s a
  start-same a address other = ap (λ w. nat_le (heap_of b) a && nat_lt a (row_words b) && nat_eq (bit_at w ((a - heap_of b) % 64)) 1)
      (swept.rest.others (first b StartBits + (a - heap_of b) / 64) (no-start a address other))

  size-same : (a : ℕ) → heap_of b ≤ a → size_at u a ≡ size_at s a
  size-same a from = ap (λ w. 3 + w % 65536 + w / 65536) (swept.rest.others (a + 1) (no-heap (a + 1) (omega arith)))

  -- an object of another block was held before
  abbrev then : (line : ℕ) → (t : IsTouched u k line) → block_at b t.object ≢ k → IsTouched s k line
  then line t other = record {
    object = t.object;
    held = record { address = t.held.address; start = sym (start-same t.object t.held.address other) ∙ t.held.start };
    touches = subst (λ (n : ℕ). TouchesLine b t.object n (256 * k + line)) (size-same t.object t.held.address.from) t.touches;
  }

  begins-here : IsTouchedFromWithin s k → (line : ℕ) → line < 256 → (t : IsTouched u k line) → block_at b t.object ≡ k
  begins-here within line small t = elim (cases_eq (block_at b t.object) k) as (λ _. block_at b t.object ≡ k) [
    | inl here ↦ here
    | inr other ↦ within line small (then line t other)
  ]

  pub swept-exact : IsTouchedFromWithin s k → LineBitsAreExact u k
  swept-exact within = record {
    marked = λ line immix small set. ∥∥₁_map ((swept.lines line small).0 set) (λ is. is.touched);
    touched = λ line immix small is. (swept.lines line small).1 ∣ (record { touched = is; here = begins-here within line small is }) ∣₁;
  }
