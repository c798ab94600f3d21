-- A block has a hole if and only if the search finds a first one.
use Rattle.std.proofs.Common.{◌≡◌, ◌↔◌, refl, sym, subst, ℕ, ◌+◌, ◌<◌, inl, inr, arith, IsTrue, Option, Some, None}
use Rattle.std.specs.Prelude.{is_some}
use Rattle.std.proofs.lemmas.Bool.{cases_eq, true≢false}
use Rattle.heap_layout.specs.declared.block.Kind.{Kind}
use Rattle.heap_layout.specs.declared.block.BlockWord.{BlockWord}
use Rattle.heap_layout.specs.declared.region.Region.{Region}
use Rattle.heap_layout.specs.Blocks.{code_of, IsValidWord}
use Rattle.object_model.specs.Objects.{HeapState, block_word, HasKind}
use Rattle.object_model.proofs.WordReads.{kind-shown}
use Rattle.sessions.specs.Fitting.{HasHole}
use Rattle.plan_api.specs.Holes.{IsFirstHole}
use Rattle.plan_api.proofs.Parts.{part-kind}
use Rattle.plan_api.proofs.PartLaws.{whole-part, part-whole}

pub hole-room : (fill : Kind) (s : HeapState) (k size : ℕ) (o : Option Region) → IsFirstHole fill s k 0 size o → IsTrue (is_some o) ↔ ((at : ℕ) × HasHole fill s k at size)
hole-room fill s k size None none = ((λ wrong. absurd (true≢false (sym wrong))), (λ hole. absurd (let whole = whole-part fill s k size hole.0 hole.1 in none hole.0 whole.0 whole.1)))
hole-room fill s k size (Some r) first = ((λ _. (r.next, part-whole fill s k size r.next (r.end, first.hole))), (λ _. refl))

-- a block with a hole is of the kind that mutators fill
pub hole-kind : (fill : Kind) (s : HeapState) (k size at : ℕ) → HasHole fill s k at size → HasKind s k fill
hole-kind fill s k size at hole = let whole = whole-part fill s k size at hole in part-kind fill s k 0 size at whole.0 whole.1.part

pub hole-word : (fill : Kind) (s : HeapState) (k size at : ℕ) (w : BlockWord) → IsValidWord w → code_of w ≡ block_word s k → HasHole fill s k at size → w.kind ≡ fill
hole-word fill s k size at w valid code hole = kind-shown s k fill w valid code (hole-kind fill s k size at hole)

-- a block of another kind has no part of a hole
pub none-there : (fill : Kind) (s : HeapState) (k from size : ℕ) (w : BlockWord) → IsValidWord w → code_of w ≡ block_word s k → (w.kind ≡ fill → ⊥) → IsFirstHole fill s k from size None
none-there fill s k from size w valid code other = λ next end hole. other (kind-shown s k fill w valid code (part-kind fill s k from size next end hole.part))

-- one more block without a hole
pub none-more : (fill : Kind) (s : HeapState) (b size : ℕ) → ((k at : ℕ) → k < b → HasHole fill s k at size → ⊥) → (((at : ℕ) × HasHole fill s b at size) → ⊥) → (k at : ℕ) → k < b + 1 → HasHole fill s k at size → ⊥
none-more fill s b size before here k at less hole = elim (cases_eq k b) as (λ _. ⊥) [
  | inl e ↦ here (at, subst (λ (q : ℕ). HasHole fill s q at size) e hole)
  | inr other ↦ before k at (omega arith) hole
]
