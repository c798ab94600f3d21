-- A hole of a heap is one of an earlier heap, if no line bit of its block was cleared since.
use Rattle.std.proofs.Common.{◌≡◌, refl, sym, ◌∙◌, subst, ℕ, zero, suc, ◌+◌, ◌*◌, ◌-◌, ◌/◌, ◌<◌, ◌≤◌, inl, inr, arith, IsTrue}
use Rattle.std.proofs.lemmas.Bool.{cases_Bool, cases_eq, true≢false}
use Rattle.heap_layout.specs.declared.block.Kind.{Kind}
use Rattle.heap_layout.specs.declared.block.Kind.TheVariants as kinds
use Rattle.object_model.specs.Objects.{HeapState, HasKind, line_marked}
use Rattle.sessions.specs.Fitting.{HasHole, IsTail}
use Rattle.block_regions.specs.Notes.{FillsTails, FillsTailsOrCells, FillsHoles}
use Rattle.block_regions.proofs.BlockFrames.{SameBlock, AddsInBlock}
use Rattle.block_regions.proofs.Regions.{no-lines, fills-cases}
use Rattle.block_regions.proofs.RegionFrames.{kind-as, hole-as, hole-born}

-- lines `from` to `to` - 1 of block k are clear
abbrev AreClear : HeapState → ℕ → ℕ → ℕ → Type 0
AreClear s k from to = (line : ℕ) → from ≤ line → line < to → IsTrue (line_marked s k line) → ⊥

-- the clear lines before them
lines-before : (s : HeapState) (k to from : ℕ) → AreClear s k from to → (a : ℕ) × (a ≤ from) × AreClear s k a to × (0 < a → IsTrue (line_marked s k (a - 1)))
lines-before s k to zero clear = (0, omega arith, clear, λ some. absurd (omega arith))
lines-before s k to (suc n) clear = elim (cases_Bool (line_marked s k n)) as (λ _. (a : ℕ) × (a ≤ suc n) × AreClear s k a to × (0 < a → IsTrue (line_marked s k (a - 1)))) [
  | inl set ↦ (suc n, omega arith, clear, λ some. let e : n ≡ suc n - 1 = omega arith in subst (λ (q : ℕ). IsTrue (line_marked s k q)) e set)
  | inr not ↦ (
      let rest = lines-before s k to n (λ line past below is. elim (cases_eq line n) as (λ _. ⊥) [
        | inl same ↦ true≢false (sym (subst (λ (q : ℕ). IsTrue (line_marked s k q)) same is) ∙ not)
        | inr other ↦ clear line (omega arith) below is
      ]) in
      let few : rest.0 ≤ n = rest.1 in
      (rest.0, omega arith, rest.2, rest.3))
]

-- and those after them
lines-after : (s : HeapState) (k from rest to : ℕ) → to + rest ≡ 256 → AreClear s k from to
    → (b : ℕ) × (to ≤ b) × (b ≤ 256) × AreClear s k from b × (b < 256 → IsTrue (line_marked s k b))
lines-after s k from zero to all clear = (to, omega arith, omega arith, clear, λ less. absurd (omega arith))
lines-after s k from (suc n) to all clear =
    elim (cases_Bool (line_marked s k to)) as (λ _. (b : ℕ) × (to ≤ b) × (b ≤ 256) × AreClear s k from b × (b < 256 → IsTrue (line_marked s k b))) [
      | inl set ↦ (to, omega arith, omega arith, clear, λ less. set)
      | inr not ↦ (
          let more = lines-after s k from n (to + 1) (omega arith) (λ line past below is. elim (cases_eq line to) as (λ _. ⊥) [
            | inl same ↦ true≢false (sym (subst (λ (q : ℕ). IsTrue (line_marked s k q)) same is) ∙ not)
            | inr other ↦ clear line past (omega arith) is
          ]) in
          let far : to + 1 ≤ more.0 = more.1 in
          (more.0, omega arith, more.2, more.3, more.4))
    ]

-- no line bit of block k was cleared
abbrev pub GrowsLines : HeapState → HeapState → ℕ → Type 0
GrowsLines s t k = (line : ℕ) → line < 256 → IsTrue (line_marked s k line) → IsTrue (line_marked t k line)

marked-at : (s : HeapState) (k x y : ℕ) → x ≡ y → IsTrue (line_marked s k y) → IsTrue (line_marked s k x)
marked-at s k x y same set = subst (λ (q : ℕ). IsTrue (line_marked s k q)) (sym same) set

-- a hole of lines now lies in one of before, which has as much room
lines-grown : (s t : HeapState) (k at size : ℕ) → HasKind s k kinds.Immix → GrowsLines s t k → HasHole kinds.Immix t k at size → (was : ℕ) × HasHole kinds.Immix s k was size
lines-grown s t k at size kind grows hole =
    let line : ℕ = hole.1.line in
    let len : ℕ = hole.1.len in
    let inside : line + len ≤ 256 = hole.1.hole.inside in
    let some : 1 ≤ len = hole.1.hole.some in
    let room : (size + 15) / 16 ≤ len = hole.1.room in
    let clear : AreClear s k line (line + len) = λ x past below is. hole.1.hole.clear x past below (grows x (omega arith) is) in
    let left = lines-before s k (line + len) line clear in
    let a : ℕ = left.0 in
    let before : a ≤ line = left.1 in
    let right = lines-after s k a (256 - (line + len)) (line + len) (omega arith) left.2 in
    let b : ℕ = right.0 in
    let after : line + len ≤ b = right.1 in
    let most : b ≤ 256 = right.2 in
    let end : a + (b - a) ≡ b = omega arith in (
      16 * a,
      (
        kind,
        record {
          line = a;
          len = b - a;
          start = refl;
          hole = record {
            some = omega arith;
            inside = omega arith;
            clear = λ x past below is. right.3 x past (omega arith) is;
            before = left.3;
            after = λ less. marked-at s k (a + (b - a)) b end (right.4 (omega arith));
          };
          room = omega arith;
        },
      ),
    )

-- a hole of a block with the same objects
pub hole-grown : (fill : Kind) → FillsHoles fill → (s t : HeapState) (k at size : ℕ) → SameBlock t s k → GrowsLines s t k → HasHole fill t k at size → (was : ℕ) × HasHole fill s k was size
hole-grown fill fills s t k at size same grows hole = elim (fills-cases fill fills) as (λ _. (was : ℕ) × HasHole fill s k was size) [
  | inl plain ↦ (at, hole-as fill t s k at size same (λ lines. absurd (no-lines (subst FillsTailsOrCells lines plain))) hole)
  | inr lines ↦ (
      let now = subst (λ (f : Kind). HasHole f t k at size) lines hole in
      subst (λ (f : Kind). (was : ℕ) × HasHole f s k was size) (sym lines) (lines-grown s t k at size (kind-as t s k same kinds.Immix now.0) grows now))
]

-- and of a block with one object more, which was placed in a hole
pub hole-filled : (fill : Kind) → FillsHoles fill → (s t : HeapState) (k at size : ℕ) → AddsInBlock s t k at size → (HasKind t k kinds.Immix → HasKind s k kinds.Immix) → GrowsLines s t k
    → (FillsTails fill → IsTail s k at) → (from n : ℕ) → HasHole fill t k from n → (was : ℕ) × HasHole fill s k was n
hole-filled fill fills s t k at size adds kind grows tail from n hole = elim (fills-cases fill fills) as (λ _. (was : ℕ) × HasHole fill s k was n) [
  | inl plain ↦ hole-born s t k at size adds fill (λ lines. absurd (no-lines (subst FillsTailsOrCells lines plain))) tail from n hole
  | inr lines ↦ (
      let now = subst (λ (f : Kind). HasHole f t k from n) lines hole in
      subst (λ (f : Kind). (was : ℕ) × HasHole f s k was n) (sym lines) (lines-grown s t k from n (kind now.0) grows now))
]
