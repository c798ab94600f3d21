-- The heap after mutators gave back all their blocks.
use Rattle.std.proofs.Common.{◌≡◌, ◌∙◌, ℕ, ◌/◌, ◌%◌, ◌<◌, ◌≤◌, ◌⊎◌, inl, inr, arith, length, List}
use Rattle.std.proofs.lemmas.Bool.{cases_lt}
use Rattle.heap_layout.specs.Zones.{first, BlockWords, StartBits}
use Rattle.heap_layout.specs.declared.block.Kind.{Kind}
use Rattle.heap_layout.specs.declared.block.Kind.TheVariants as kinds
use Rattle.object_model.specs.Objects.{HeapState, block_word, HasKind, owner_at, line_marked}
use Rattle.object_model.specs.Lawful.{LineBitsAreExact}
use Rattle.object_model.proofs.OneKind.{kind-within}
use Rattle.block_regions.specs.declared.block_notes.BlockNote.{BlockNote}
use Rattle.block_regions.specs.Notes.{HasNotes, ListsOwned}
use Rattle.mutator_core.specs.Closing.{GivesBack}
use Rattle.block_regions.proofs.GivingBack.{IsGivingBack, kept-nobody}

-- all blocks are given back
module _ (fill : Kind) (old s : HeapState) (notes now : List BlockNote) (owned : List ℕ) (noted : HasNotes fill old notes) (lists : ListsOwned notes owned)
    (is : IsGivingBack fill old s notes now owned (length owned)) where
  pub gives-back-all : GivesBack old s
  gives-back-all = record {
    blocks = is.sides.blocks;
    number = is.sides.number;
    base = is.sides.base;
    extent = is.sides.extent;
    words = is.sides.words;
    owners = λ k there. elim (is.each k there) as (λ _. block_word s k ≡ block_word old k % 65536) [
      | inl kept ↦ (let none : block_word old k / 65536 ≡ 0 = kept-nobody fill old s notes now owned noted lists is k there kept in kept.word ∙ omega arith)
      | inr gone ↦ gone.word
    ];
    listed = λ k some. elim (cases_lt k old.blocks) as (λ _. LineBitsAreExact s k) [
      | inl there ↦ elim (is.each k there) as (λ _. LineBitsAreExact s k) [
        | inl kept ↦ absurd (let none : owner_at old k ≡ 0 = kept-nobody fill old s notes now owned noted lists is k there kept in omega arith)
        | inr gone ↦ gone.exact
      ]
      | inr past ↦ record {
        marked = λ line immix few marked. absurd (beyond k past immix);
        touched = λ line immix few touched. absurd (beyond k past immix);
      }
    ];
    lines = λ k line there few none. elim (is.each k there) as (λ _. line_marked s k line ≡ line_marked old k line) [
      | inl kept ↦ kept.lines line few
      | inr gone ↦ absurd (let some : 0 < owner_at old k = gone.owned in omega arith)
    ];
    rest = λ i other. is.sides.rest i (elim other as (λ _. (i < first old.blocks BlockWords) ⊎ (first old.blocks StartBits ≤ i)) [ inl globals ↦ inl globals.1 | inr past ↦ inr past ]);
  }
    where
      beyond : (k : ℕ) → old.blocks ≤ k → HasKind s k kinds.Immix → ⊥
      beyond k past immix =
          let there : k < s.blocks = kind-within s k kinds.Immix immix in
          let same : s.blocks ≡ old.blocks = is.sides.blocks in
          omega arith
