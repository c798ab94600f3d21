-- Tails of blocks.
use Rattle.std.proofs.Common.{◌≡◌, sym, ◌∙◌, ℕ, ◌+◌, ◌<◌, ◌≤◌, inl, inr, arith}
use Rattle.heap_layout.specs.Zones.{heap_of, block_at, offset_at, IsAddress}
use Rattle.object_model.specs.Objects.{HeapState, size_at}
use Rattle.sessions.specs.Fitting.{IsTail}

-- a tail begins at one place
pub tail-unique : (s : HeapState) (k at from : ℕ) → IsTail s k at → IsTail s k from → at ≡ from
tail-unique s k at from one other =
    elim one.least as (λ _. at ≡ from) [
      | inl zero ↦ elim other.least as (λ _. at ≡ from) [
        | inl zero' ↦ zero ∙ sym zero'
        | inr last ↦ (let beyond : offset_at s.blocks last.0 + size_at s last.0 ≤ at = one.after last.0 last.1 last.2 in let e : offset_at s.blocks last.0 + size_at s last.0 ≡ from = last.3 in omega arith)
      ]
      | inr last ↦
          let below : offset_at s.blocks last.0 + size_at s last.0 ≤ from = other.after last.0 last.1 last.2 in
          let e : offset_at s.blocks last.0 + size_at s last.0 ≡ at = last.3 in
          elim other.least as (λ _. at ≡ from) [
            | inl zero' ↦ omega arith
            | inr last' ↦ (let above : offset_at s.blocks last'.0 + size_at s last'.0 ≤ at = one.after last'.0 last'.1 last'.2 in let e' : offset_at s.blocks last'.0 + size_at s last'.0 ≡ from = last'.3 in omega arith)
          ]
    ]

-- a word of an object that lies in a block is of that block
pub small-block : (s : HeapState) (x i size : ℕ) → IsAddress s.blocks x → offset_at s.blocks x + size ≤ 4096 → x ≤ i → i < x + size → block_at s.blocks i ≡ block_at s.blocks x
small-block s x i size there fits from below = (let base : heap_of s.blocks ≤ x = there.from in omega arith)
