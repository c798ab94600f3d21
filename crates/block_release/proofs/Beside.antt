-- What a release leaves of blocks beside its own.
use Rattle.std.proofs.Common.{subst, sym, ℕ, ◌<◌}
use Rattle.object_model.specs.Objects.{HeapState}
use Rattle.block_sweeps.specs.Sweeping.{IsOfSpan, IsMetadata, ChangesOnly}
use Rattle.block_release.proofs.Metadata.{one-block, SameReads, same-reads}
use Rattle.block_release.proofs.Alike.{SameRest}

-- only metadata of the span of block n changed
module _ (s t : HeapState) (n : ℕ) (inside : (j : ℕ) → IsOfSpan s n j → j < s.blocks) (changes : ChangesOnly (λ i. (j : ℕ) × IsOfSpan s n j × IsMetadata s.blocks j i) s t) where
  pub rest-beside : SameRest s t
  rest-beside = record { blocks = changes.blocks; others = λ i none. changes.others i (λ changed. none changed.0 (inside changed.0 changed.1) changed.2) }

  pub beside : (j : ℕ) → j < s.blocks → (IsOfSpan s n j → ⊥) → SameReads s t j
  beside j there other = same-reads s t changes.blocks j (λ i meta. changes.others i (λ changed.
      other (subst (IsOfSpan s n) (sym (one-block s.blocks j changed.0 i there (inside changed.0 changed.1) meta changed.2)) changed.1)))
