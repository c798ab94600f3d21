-- Blocks are freed one after another.
use Rattle.std.proofs.Common.{◌≡◌, ◌≢◌, ℕ, ◌+◌, ◌*◌, ◌/◌, ◌%◌, ◌<◌, ◌≤◌, inl, inr, refl, sym, ◌∙◌, ap, subst, arith, ◌⊎◌, nat_eq, List}
use Rattle.std.specs.Int.{bit_at}
use Rattle.std.proofs.lemmas.Bool.{cases_eq}
use Rattle.heap_layout.specs.Zones.{first, BlockWords, LineWords}
use Rattle.heap_layout.specs.declared.layout.Layout.{Layout}
use Rattle.object_model.specs.Objects.{HeapState, state_over, line_marked}
use Rattle.block_sweeps.specs.RunSweeps.{FreesAll, IsWordAmong}
use Rattle.block_sweeps.specs.Sweeping.{Frees, IsFreed, IsBlockOrLineWord}
use Rattle.block_sweeps.proofs.ChangedWords.{changes-more, changes-both}

pub frees-none : (words : List ℕ) (l : Layout) (from : ℕ) → FreesAll (state_over words l 0 0) (state_over words l 0 0) from from
frees-none words l from = record {
  freed = λ j after below. absurd (omega arith);
  rest = record { blocks = refl; extent = refl; others = λ i outside. refl; fit = λ fits. fits };
}

module _ (words new : List ℕ) (l : Layout) (k j : ℕ) (here : k < l.blocks) (there : j < l.blocks) (other : j ≢ k) (frees : Frees (state_over words l 0 0) (state_over new l 0 0) k) where
  abbrev s : HeapState
  s = state_over words l 0 0

  abbrev s' : HeapState
  s' = state_over new l 0 0

  apart : (i : ℕ) → (i ≡ first l.blocks BlockWords + j) ⊎ ((first l.blocks LineWords + 4 * j ≤ i) × (i < first l.blocks LineWords + 4 * j + 4)) → IsBlockOrLineWord l.blocks k i → ⊥
  apart i (inl word) (inl of) = other (omega arith)
  apart i (inl word) (inr of) = let after = of.after in omega arith
  apart i (inr line) (inl of) = let after = line.0 in omega arith
  apart i (inr line) (inr of) = let after = of.after in let below = of.below in other (omega (arith, line.0, line.1))

  same-line : (line : ℕ) → line < 256 → line_marked s' j line ≡ line_marked s j line
  same-line line small = ap (λ v. nat_eq (bit_at v ((256 * j + line) % 64)) 1)
      (frees.rest.others (first l.blocks LineWords + (256 * j + line) / 64) (apart (first l.blocks LineWords + (256 * j + line) / 64) (inr ((omega arith), (omega arith)))))

  pub freed-kept : IsFreed s j → IsFreed s' j
  freed-kept freed = record {
    word = frees.rest.others (first l.blocks BlockWords + j) (apart (first l.blocks BlockWords + j) (inl refl)) ∙ freed.word;
    lines = λ line small. same-line line small ∙ freed.lines line small;
  }

-- one block more
pub frees-more : (old words new : List ℕ) (l : Layout) (from to : ℕ) → from ≤ to → to < l.blocks → FreesAll (state_over old l 0 0) (state_over words l 0 0) from to
    → Frees (state_over words l 0 0) (state_over new l 0 0) to → FreesAll (state_over old l 0 0) (state_over new l 0 0) from (to + 1)
frees-more old words new l from to order there all frees = record {
  freed = λ j after below. elim (cases_eq j to) as (λ _. IsFreed (state_over new l 0 0) j) [
    | inl same ↦ subst (IsFreed (state_over new l 0 0)) (sym same) frees.freed
    | inr other ↦ freed-kept words new l to j there (omega arith) other frees (all.freed j after (omega arith))
  ];
  rest = changes-both (IsWordAmong l.blocks from (to + 1)) (state_over old l 0 0) (state_over words l 0 0) (state_over new l 0 0)
      (changes-more (IsWordAmong l.blocks from to) (IsWordAmong l.blocks from (to + 1)) (state_over old l 0 0) (state_over words l 0 0)
      (λ i among. record { block = among.block; after = among.after; below = (let below = among.below in omega arith); word = among.word }) all.rest)
      (changes-more (IsBlockOrLineWord l.blocks to) (IsWordAmong l.blocks from (to + 1)) (state_over words l 0 0) (state_over new l 0 0)
      (λ i word. record { block = to; after = order; below = (omega arith); word = word }) frees.rest);
}
