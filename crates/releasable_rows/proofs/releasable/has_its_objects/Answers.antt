use Rattle.std.proofs.Common.{◌≡◌, ◌↔◌, inl, inr, refl, sym, subst, arith}
use Rattle.heap_layout.specs.declared.block.Kind.TheVariants as kinds
use Rattle.object_model.specs.Objects.{HeapState, state_over, HasKind, class_at, cell_words}
use Rattle.object_model.proofs.OneKind.{one-kind, has_small-code}
use Rattle.object_model.specs.Releasing.{IsReleasable}
use Rattle.releasable_rows.specs.BlockTests.{HoldsSmall, AreInCells}
use Rattle.releasable_rows.proofs.ReleasableBlocks.{word-code, word-kind, word-class, empty-releasable, small-releasable, releasable-small, releasable-cells, releasable-free, releasable-tail, large-releasable, releasable-large, plain-releasable}
use Rattle.releasable_rows.proofs.releasable.has_its_objects.Goals as goal

pub returns-in-Free : goal.returns-in-Free
returns-in-Free g c =
    let s : HeapState = state_over (g.W.Words.words c.args.words.now) c.args.layout.now 0 0 in
    let k = c.args.block in
    let kind : HasKind s k kinds.Free = subst (HasKind s k) c.in-Free.is (word-kind s k c.requires.block c.args.word.now c.requires.valid c.requires.word) in (
      λ clear.
          let none = c.is_clear.ensures.0 clear in
          empty-releasable s k c.requires.block (λ head. (let wrong = one-kind s k kinds.Free kinds.LargeHead kind head in omega arith)) none.0
          (word-code s k c.requires.block c.args.word.now c.requires.valid c.requires.word) (λ _. none.1),
      λ can. c.is_clear.ensures.1 (releasable-free s k kind can),
    )

pub returns-in-LargeTail : goal.returns-in-LargeTail
returns-in-LargeTail g c =
    let s : HeapState = state_over (g.W.Words.words c.args.words.now) c.args.layout.now 0 0 in
    let k = c.args.block in
    let kind : HasKind s k kinds.LargeTail = subst (HasKind s k) c.in-LargeTail.is (word-kind s k c.requires.block c.args.word.now c.requires.valid c.requires.word) in (
      λ empty.
          empty-releasable s k c.requires.block (λ head. (let wrong = one-kind s k kinds.LargeTail kinds.LargeHead kind head in omega arith)) (c.is_empty.ensures.0 empty)
          (word-code s k c.requires.block c.args.word.now c.requires.valid c.requires.word) (λ free. absurd (let wrong = one-kind s k kinds.LargeTail kinds.Free kind free in omega arith)),
      λ can. c.is_empty.ensures.1 (releasable-tail s k c.requires.block kind can),
    )

pub returns-in-LargeHead : goal.returns-in-LargeHead
returns-in-LargeHead g c =
    let s : HeapState = state_over (g.W.Words.words c.args.words.now) c.args.layout.now 0 0 in
    let k = c.args.block in
    let kind : HasKind s k kinds.LargeHead = subst (HasKind s k) c.in-LargeHead.is (word-kind s k c.requires.block c.args.word.now c.requires.valid c.requires.word) in
    let class : class_at s k ≡ c.args.word.now.class = word-class s k c.requires.block c.args.word.now c.requires.valid c.requires.word in (
      λ holds. large-releasable s k c.args.word.now.class c.requires.block kind class (c.holds_large.ensures.0 holds) (word-code s k c.requires.block c.args.word.now c.requires.valid c.requires.word),
      λ can. c.holds_large.ensures.1 (releasable-large s k c.args.word.now.class c.requires.block kind class can),
    )

pub returns-in-Cells : goal.returns-in-Cells
returns-in-Cells g c =
    let s : HeapState = state_over (g.W.Words.words c.args.words.now) c.args.layout.now 0 0 in
    let k = c.args.block in
    let kind : HasKind s k kinds.Cells = subst (HasKind s k) c.in-Cells.is (word-kind s k c.requires.block c.args.word.now c.requires.valid c.requires.word) in
    let class : class_at s k ≡ c.args.word.now.class = word-class s k c.requires.block c.args.word.now c.requires.valid c.requires.word in
    let no-head : HasKind s k kinds.LargeHead → ⊥ = λ head. (let wrong = one-kind s k kinds.Cells kinds.LargeHead kind head in omega arith) in
    let no-free : HasKind s k kinds.Free → ⊥ = λ free. (let wrong = one-kind s k kinds.Cells kinds.Free kind free in omega arith) in
    let small = has_small-code s k kinds.Cells kind in (
      λ holds.
          let both = c.holds_cells.ensures.0 holds in
          small-releasable s k c.requires.block no-head no-free small both.0 (word-code s k c.requires.block c.args.word.now c.requires.valid c.requires.word)
          (λ _. subst (λ n. AreInCells s k (cell_words n) 4096) (sym class) both.1),
      λ can. c.holds_cells.ensures.1 (
        releasable-small s k c.requires.block no-head no-free small can,
        subst (λ n. AreInCells s k (cell_words n) 4096) class (releasable-cells s k c.requires.block no-head no-free small can kind),
      ),
    )

pub returns-in-Bump : goal.returns-in-Bump
returns-in-Bump g c =
    let s : HeapState = state_over (g.W.Words.words c.args.words.now) c.args.layout.now 0 0 in
    let k = c.args.block in
    let plain = plain-releasable s k c.requires.block c.args.word.now c.requires.valid c.requires.word in
    let same : HoldsSmall s k 4096 4096 ↔ IsReleasable s k = elim c.in-Bump.is as (λ _. HoldsSmall s k 4096 4096 ↔ IsReleasable s k) [
      | inl bump ↦ plain kinds.Bump refl (omega arith) bump
      | inr others ↦ elim others as (λ _. HoldsSmall s k 4096 4096 ↔ IsReleasable s k) [
        | inl young ↦ plain kinds.Young refl (omega arith) young
        | inr more ↦ elim more as (λ _. HoldsSmall s k 4096 4096 ↔ IsReleasable s k) [
          | inl mature ↦ plain kinds.Mature refl (omega arith) mature
          | inr last ↦ elim last as (λ _. HoldsSmall s k 4096 4096 ↔ IsReleasable s k) [
            | inl immix ↦ plain kinds.Immix refl (omega arith) immix
            | inr kept ↦ plain kinds.Kept refl (omega arith) kept
          ]
        ]
      ]
    ] in
    (λ holds. same.0 (c.holds_small.ensures.0 holds), λ can. c.holds_small.ensures.1 (same.1 can))
