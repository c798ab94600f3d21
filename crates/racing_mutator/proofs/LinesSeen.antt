-- Holes of blocks that a mutator looked at, and those of lines by the line words of the epoch's beginning.
use Rattle.std.proofs.Common.{◌≡◌, sym, ◌∙◌, ap, subst, ℕ, ◌+◌, ◌*◌, ◌<◌, ◌≤◌, inl, inr, List, slice_index}
use Rattle.std.specs.Prelude.{Option, None}
use Rattle.heap_layout.specs.Zones.{LineWords, first}
use Rattle.heap_layout.specs.Blocks.{code_of, kind_code}
use Rattle.heap_layout.specs.declared.block.Kind.{Kind}
use Rattle.heap_layout.specs.declared.block.Kind.TheVariants as kinds
use Rattle.heap_layout.specs.declared.region.Region.{Region}
use Rattle.heap_layout.proofs.BlockLemmas.{kind_code_most}
use Rattle.line_marks.proofs.HoleRuns.{lines-read}
use Rattle.object_model.specs.Objects.{HeapState, HasKind, block_word}
use Rattle.object_model.proofs.OneKind.{kind-from}
use Rattle.sessions.specs.Fitting.{class_for}
use Rattle.sessions.specs.Sessions.{block_of_kind}
use Rattle.plan_api.specs.declared.block_view.BlockView.{BlockView}
use Rattle.plan_api.specs.Holes.{IsFirstPart, IsFirstHole}
use Rattle.plan_api.specs.Prelude.{AreApart}
use Rattle.plan_api.specs.Views.{IsViewOf}
use Rattle.plan_api.proofs.Parts.{FindsLines, first-lines}
use Rattle.block_regions.specs.Notes.{FillsHoles}
use Rattle.block_regions.proofs.FilledKinds.{class-few}
use Rattle.block_regions.proofs.NoteLemmas.{no-hole}
use Rattle.mutator_core.specs.Machine.{Epoch}
use Rattle.racing_mutator.specs.Holes.{HasSeenHole, LacksFrom}
use Rattle.racing_mutator.proofs.HolesPassed.{kind-in, class-in}

-- the first hole, by what the mutator saw of the block
pub first-shown : (p : Epoch) (looked : BlockView → Type 0) (k size : ℕ) (region : Region) → HasSeenHole p looked k size region → ((v : BlockView) → looked v → IsViewOf p.before k v) → AreApart p.before k → IsFirstPart p.rules.fill p.before k 0 size region
first-shown p looked k size region sees viewed apart = elim sees.shows as (λ _. IsFirstPart p.rules.fill p.before k 0 size region) [
  | inl lines ↦ lines
  | inr saw ↦ saw.2 p.before (viewed saw.0 saw.1) apart
]

module _ (p : Epoch) (k size : ℕ) (lines : List ℕ) (there : k < p.before.blocks) (some : 1 ≤ size) (fill : p.rules.fill ≡ kinds.Immix)
    (word : block_word p.before k ≡ code_of (block_of_kind p.rules.fill (class_for p.rules.fill size)))
    (read : (n : ℕ) → n < 4 → slice_index lines n ≡ slice_index p.before.words (first p.before.blocks LineWords + 4 * k + n)) where
  kind : HasKind p.before k kinds.Immix
  kind = kind-from p.before k kinds.Immix there
      (kind-in (kind_code p.rules.fill) (class_for p.rules.fill size) (block_word p.before k) (kind_code_most p.rules.fill) (class-few p.rules.fill size) word ∙ ap kind_code fill)

  pub first-in-lines : (hole : Option Region) → FindsLines lines 0 size hole → IsFirstHole p.rules.fill p.before k 0 size hole
  first-in-lines hole found = subst (λ (f : Kind). IsFirstHole f p.before k 0 size hole) (sym fill)
      (first-lines p.before k lines (λ line below. lines-read p.before lines k line read below) 0 size some kind hole found)

  -- a block without such a run lacks holes for the size or more
  pub lines-lack : FillsHoles p.rules.fill → size ≤ 2048 → FindsLines lines 0 size None → (s : HeapState) → LacksFrom p s k size
  lines-lack fills small none s = inr (no-hole p.rules.fill fills p.before k size some small
      (λ is. class-in (kind_code p.rules.fill) (class_for p.rules.fill size) (block_word p.before k) (kind_code_most p.rules.fill) (class-few p.rules.fill size) word) (first-in-lines None none))
