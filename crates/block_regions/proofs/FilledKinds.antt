-- Blocks of the kind that mutators fill: their kind, class and word, and what a clear one has room for.
use Rattle.std.proofs.Common.{◌≡◌, ◌≢◌, refl, sym, ◌∙◌, ap, subst, ℕ, ◌≤◌, inl, inr, arith, true, false, ◌&&◌, IsTrue, nat_eq, nat_le}
use Rattle.std.specs.Prelude.{Option, Some, unwrap_or}
use Rattle.std.proofs.lemmas.Bool.{and_from, cases_lt, le-leb, true≢false}
use Rattle.heap_layout.specs.declared.block.Kind.{Kind}
use Rattle.heap_layout.specs.declared.block.Kind.TheVariants as kinds
use Rattle.heap_layout.specs.declared.block.BlockWord.{BlockWord}
use Rattle.heap_layout.specs.Blocks.{IsValidWord, code_of, is_block_code, is_valid_for_some, kind_code, kind_of_code}
use Rattle.heap_layout.proofs.BlockLemmas.{parts_of_code, kind_of_code-kind_code}
use Rattle.object_model.specs.Objects.{HeapState, block_word, HasKind, class_at, owner_at, cell_words}
use Rattle.object_model.specs.Lawful.{IsClear}
use Rattle.object_model.proofs.OneKind.{kind-code}
use Rattle.sessions.specs.Fitting.{HasHole, class_for}
use Rattle.sessions.proofs.HoleKinds.{class-least, few-classes, none-above}
use Rattle.block_regions.specs.Notes.{FillsTails, FillsHoles}
use Rattle.block_regions.specs.Regions.{IsRegionIn, first_region}
use Rattle.block_regions.proofs.LineRegions.{here-clear}
use Rattle.block_regions.proofs.Lists.{one-element}
use Rattle.block_regions.proofs.Regions.{hole-kind, class-lacks, clear-region, clear-cells, fills-cases}

-- the kind that is read of a block is the block's
pub kind-read : (s : HeapState) (k : ℕ) (b : BlockWord) (kind : Kind) → IsValidWord b → code_of b ≡ block_word s k → HasKind s k kind → b.kind ≡ kind
kind-read s k b kind valid code is =
    one-element (kind_of_code (kind_code kind)) b.kind kind
    (subst (λ (n : ℕ). kind_of_code n ≡ Some b.kind) (kind-code s k kind is) (parts_of_code b (block_word s k) valid code).0)
    (kind_of_code-kind_code kind)

-- blocks of other kinds have no holes
not-filled : false ≡ true → ⊥
not-filled wrong = true≢false (sym wrong)

-- the class of any size is one of the 19
cell-few : (size : ℕ) → class_for kinds.Cells size ≤ 18
cell-few size = elim (cases_lt 2048 size) as (λ _. class_for kinds.Cells size ≤ 18) [
  | inl large ↦ subst (λ (o : Option ℕ). unwrap_or o 0 ≤ 18) (sym (none-above size large)) (omega arith)
  | inr small ↦ few-classes kinds.Cells size small
]

pub class-few : (fill : Kind) (size : ℕ) → class_for fill size ≤ 18
class-few kinds.Cells size = cell-few size
class-few kinds.Free size = omega arith
class-few kinds.Bump size = omega arith
class-few kinds.Young size = omega arith
class-few kinds.Mature size = omega arith
class-few kinds.Immix size = omega arith
class-few kinds.LargeHead size = omega arith
class-few kinds.LargeTail size = omega arith
class-few kinds.Kept size = omega arith

-- the word of a block that is taken for a size is valid
tail-valid : (owner : ℕ) → owner ≤ 16 → IsTrue (nat_eq 0 0 && nat_le owner 32)
tail-valid owner few = and_from (nat_eq 0 0) (nat_le owner 32) refl (le-leb owner 32 (omega arith))

cell-valid : (class owner : ℕ) → class ≤ 18 → owner ≤ 16 → IsTrue (nat_le class 18 && nat_le owner 32)
cell-valid class owner small few = and_from (nat_le class 18) (nat_le owner 32) (le-leb class 18 small) (le-leb owner 32 (omega arith))

pub filled-valid : (fill : Kind) (size owner : ℕ) → FillsHoles fill → owner ≤ 16
    → IsValidWord (record { kind = fill; class = class_for fill size; owner = owner })
filled-valid kinds.Bump size owner fills few = tail-valid owner few
filled-valid kinds.Young size owner fills few = tail-valid owner few
filled-valid kinds.Cells size owner fills few = cell-valid (class_for kinds.Cells size) owner (cell-few size) few
filled-valid kinds.Immix size owner fills few = tail-valid owner few
filled-valid kinds.Free size owner fills few = absurd (not-filled fills)
filled-valid kinds.Mature size owner fills few = absurd (not-filled fills)
filled-valid kinds.LargeHead size owner fills few = absurd (not-filled fills)
filled-valid kinds.LargeTail size owner fills few = absurd (not-filled fills)
filled-valid kinds.Kept size owner fills few = absurd (not-filled fills)

-- the class of each size is 0 where mutators fill tails
pub tail-for : (fill : Kind) → FillsTails fill → (size : ℕ) → class_for fill size ≡ 0
tail-for fill (inl bump) size = ap (λ (f : Kind). class_for f size) bump
tail-for fill (inr young) size = ap (λ (f : Kind). class_for f size) young

-- a block of tails has class 0
pub filled-class : (kind : Kind) (class owner : ℕ) → FillsTails kind → IsValidWord (record { kind = kind; class = class; owner = owner }) → class ≡ 0
filled-class kind class owner tails valid = elim tails as (λ _. class ≡ 0) [
  | inl bump ↦ bumped (subst (λ (k : Kind). IsValidWord (record { kind = k; class = class; owner = owner })) bump valid)
  | inr young ↦ younger (subst (λ (k : Kind). IsValidWord (record { kind = k; class = class; owner = owner })) young valid)
]
  where
    bumped : IsValidWord (record { kind = kinds.Bump; class = class; owner = owner }) → class ≡ 0
    bumped is = grind arith

    younger : IsValidWord (record { kind = kinds.Young; class = class; owner = owner }) → class ≡ 0
    younger is = grind arith

-- so has a block of lines
lines-class : (class owner : ℕ) → IsValidWord (record { kind = kinds.Immix; class = class; owner = owner }) → class ≡ 0
lines-class class owner valid = grind arith

-- the parts of the word of a block of the kind are valid
pub valid-parts : (s : HeapState) (k : ℕ) (kind : Kind) → HasKind s k kind → IsTrue (is_block_code (block_word s k))
    → IsValidWord (record { kind = kind; class = class_at s k; owner = owner_at s k })
valid-parts s k kind is code = subst (λ (o : Option Kind). IsTrue (is_valid_for_some o (class_at s k) (owner_at s k)))
    (ap kind_of_code (kind-code s k kind is) ∙ kind_of_code-kind_code kind) code

-- the region of a clear block
pub clear-whole : (fill : Kind) → FillsHoles fill → (s : HeapState) (k : ℕ) → IsClear s k → IsRegionIn fill s k (first_region fill (class_at s k))
clear-whole kinds.Bump fills s k clear = clear-region kinds.Bump (inl refl) s k clear
clear-whole kinds.Young fills s k clear = clear-region kinds.Young (inr refl) s k clear
clear-whole kinds.Cells fills s k clear = clear-cells s k clear
clear-whole kinds.Immix fills s k clear = here-clear s k clear
clear-whole kinds.Free fills s k clear = absurd (not-filled fills)
clear-whole kinds.Mature fills s k clear = absurd (not-filled fills)
clear-whole kinds.LargeHead fills s k clear = absurd (not-filled fills)
clear-whole kinds.LargeTail fills s k clear = absurd (not-filled fills)
clear-whole kinds.Kept fills s k clear = absurd (not-filled fills)

-- has room for the size, if the block has the size's class
pub whole-room : (fill : Kind) (size : ℕ) → size ≤ 2048 → size ≤ (first_region fill (class_for fill size)).end
whole-room kinds.Cells size small =
    let least = class-least size small in
    let same : class_for kinds.Cells size ≡ least.class = ap (λ (o : Option ℕ). unwrap_or o 0) least.same in
    subst (λ (c : ℕ). size ≤ cell_words c) (sym same) least.room
whole-room kinds.Bump size small = omega arith
whole-room kinds.Young size small = omega arith
whole-room kinds.Immix size small = omega arith
whole-room kinds.Free size small = omega arith
whole-room kinds.Mature size small = omega arith
whole-room kinds.LargeHead size small = omega arith
whole-room kinds.LargeTail size small = omega arith
whole-room kinds.Kept size small = omega arith

-- a block whose class is not the size's has no hole for it
pub tail-suits : (fill : Kind) → FillsTails fill → (s : HeapState) (k size : ℕ) → IsTrue (is_block_code (block_word s k)) → HasKind s k fill
    → class_at s k ≡ class_for fill size
tail-suits fill tails s k size code kind = filled-class fill (class_at s k) (owner_at s k) tails (valid-parts s k fill kind code) ∙ sym (tail-for fill tails size)

pub lines-suits : (s : HeapState) (k : ℕ) → IsTrue (is_block_code (block_word s k)) → HasKind s k kinds.Immix → class_at s k ≡ 0
lines-suits s k code kind = lines-class (class_at s k) (owner_at s k) (valid-parts s k kinds.Immix kind code)

pub suits-hole : (fill : Kind) → FillsHoles fill → (s : HeapState) (k at size : ℕ) → IsTrue (is_block_code (block_word s k))
    → class_at s k ≢ class_for fill size → HasHole fill s k at size → ⊥
suits-hole fill fills s k at size code other hole = elim (fills-cases fill fills) as (λ _. ⊥) [
  | inl (inl tails) ↦ other (tail-suits fill tails s k size code (hole-kind fill s k at size hole))
  | inl (inr cells) ↦ class-lacks s k at size
      (subst (λ (f : Kind). class_at s k ≢ class_for f size) cells other) (subst (λ (f : Kind). HasHole f s k at size) cells hole)
  | inr lines ↦ subst (λ (f : Kind). class_at s k ≢ class_for f size) lines other
      (lines-suits s k code (subst (HasKind s k) lines (hole-kind fill s k at size hole)))
]
