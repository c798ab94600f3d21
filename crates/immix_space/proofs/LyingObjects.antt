-- An object that lies as it may touches no line of an Immix block but its own.
use Rattle.std.proofs.Common.{◌≡◌, refl, sym, ◌∙◌, subst, inl, inr, ℕ, ◌+◌, ◌*◌, ◌-◌, ◌<◌, ◌≤◌, arith}
use Rattle.std.proofs.lemmas.Bool.{cases_eq, cases_lt, eq-eqb, true≢false}
use Rattle.heap_layout.specs.Zones.{heap_of, block_at, offset_at}
use Rattle.heap_layout.specs.Blocks.{kind_code}
use Rattle.heap_layout.specs.declared.block.Kind.TheVariants as kinds
use Rattle.object_model.specs.Objects.{HeapState, HasKind, size_at, blocks_for}
use Rattle.object_model.specs.Lines.{TouchesLine}
use Rattle.object_model.specs.Lawful.{IsRunOfBlocks, AllLie}
use Rattle.object_model.proofs.OneKind.{one-kind}
use Rattle.immix_space.specs.LineSweeps.{IsTouchedFromWithin}

-- an object within one block
one-block : (b a size k line : ℕ) → heap_of b ≤ a → offset_at b a + size ≤ 4096 → line < 256 → TouchesLine b a size (256 * k + line) → block_at b a ≡ k
one-block b a size k line from within small touches = let start = touches.from in let end = touches.below in omega arith

-- the blocks of an object that begins with a block
run-block : (b a size k line : ℕ) → heap_of b ≤ a → offset_at b a ≡ 0 → line < 256 → TouchesLine b a size (256 * k + line) → (block_at b a ≤ k) × (k - block_at b a < blocks_for size)
run-block b a size k line from start small touches = let first = touches.from in let end = touches.below in (omega arith, omega arith)

no-tail : (s : HeapState) (k : ℕ) → HasKind s k kinds.Immix → HasKind s k kinds.LargeTail → ⊥
no-tail s k immix is = true≢false (sym (eq-eqb (kind_code kinds.Immix) (kind_code kinds.LargeTail) (one-kind s k kinds.Immix kinds.LargeTail immix is)) ∙ refl)

head-block : (s : HeapState) (h k n : ℕ) → IsRunOfBlocks s h n → HasKind s k kinds.Immix → h ≤ k → k - h < n → h ≡ k
head-block s h k n run immix from below = elim (cases_eq h k) as (λ _. h ≡ k) [
  | inl same ↦ same
  | inr other ↦ absurd (let at : h + (k - h) ≡ k = omega arith in
      no-tail s k immix (subst (λ j. HasKind s j kinds.LargeTail) at (run.tails (k - h) (omega arith) below)))
]

pub touched-from-within : (s : HeapState) (k : ℕ) → AllLie s → HasKind s k kinds.Immix → IsTouchedFromWithin s k
touched-from-within s k lie immix line small t =
    let lies = lie t.object t.held in
    let from = t.held.address.from in
    elim (cases_lt 2048 (size_at s t.object)) as (λ _. block_at s.blocks t.object ≡ k) [
      | inl large ↦
          let run = lies.large large in
          let reach = run-block s.blocks t.object (size_at s t.object) k line from run.start small t.touches in
          head-block s (block_at s.blocks t.object) k (blocks_for (size_at s t.object)) run.run immix reach.0 reach.1
      | inr few ↦ one-block s.blocks t.object (size_at s t.object) k line from (lies.small few).within small t.touches
    ]
