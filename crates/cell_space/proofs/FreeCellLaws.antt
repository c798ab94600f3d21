-- No held object has a word of a free cell.
use Rattle.std.proofs.Common.{◌≡◌, sym, ◌∙◌, ap, subst, ℕ, ◌+◌, ◌*◌, ◌-◌, ◌/◌, ◌%◌, ◌<◌, ◌≤◌, inl, inr, arith, IfSome, mul-le-mul_right, Option, Some, None, MatchOption}
use Rattle.std.proofs.lemmas.Bool.{cases_lt, cases_eq}
use Rattle.std.proofs.lemmas.Nat.{div-add-mod'}
use Rattle.heap_layout.specs.Zones.{block_at, offset_at, block_start}
use Rattle.heap_layout.specs.declared.block.Kind.TheVariants as kinds
use Rattle.object_model.specs.Objects.{HeapState, HasKind, class_at, IsHeld, is_start, size_at, IsInExtent, IsInExtentOf, cell_words}
use Rattle.object_model.specs.Lawful.{Lies, LiesInCell, AllLie, MeetsNoObject}
use Rattle.object_model.proofs.OneKind.{one-kind}
use Rattle.object_model.proofs.ObjectReads.{place_of_address}
use Rattle.sessions.specs.Fitting.{IsFreeCell}
use Rattle.cell_space.specs.FreeCells.{IsNextCell, HasNoCell}

module _ (s : HeapState) (k at : ℕ) (kind : HasKind s k kinds.Cells) (cell : IsFreeCell s k at) (x i : ℕ) (held : IsHeld s x)
    (lies : Lies s x (size_at s x)) (in-object : IsInExtent s x i) (in-cell : IsInExtentOf (block_start s.blocks k + at) (cell_words (class_at s k)) i) where
  abbrev size : ℕ
  size = size_at s x

  abbrev c : ℕ
  c = cell_words (class_at s k)

  inside : at + c ≤ 4096
  inside = cell.inside

  object-from : x ≤ i
  object-from = in-object.from

  object-below : i < x + size
  object-below = in-object.below

  cell-from : block_start s.blocks k + at ≤ i
  cell-from = in-cell.from

  large-not : 2048 < size → ⊥
  large-not large =
      let run = lies.large large in
      let place = place_of_address s.blocks x held.address in
      let q : ℕ = block_at s.blocks x in
      let first : offset_at s.blocks x ≡ 0 = run.start in
      let before : q ≤ k = omega arith in
      let below : k < q + (size + 4095) / 4096 = omega arith in
      elim (cases_eq q k) as (λ _. ⊥) [
        | inl same ↦ (let wrong = one-kind s k kinds.LargeHead kinds.Cells (subst (λ (b : ℕ). HasKind s b kinds.LargeHead) same run.run.head) kind in omega (arith, wrong))
        | inr other ↦
            let tail : HasKind s (q + (k - q)) kinds.LargeTail = run.run.tails (k - q) (omega (arith, before, other)) (omega (arith, before, below)) in
            let wrong = one-kind s k kinds.LargeTail kinds.Cells (subst (λ (b : ℕ). HasKind s b kinds.LargeTail) (let e : q + (k - q) ≡ k = omega (arith, before) in e) tail) kind in omega (arith, wrong)
      ]

  small-not : size ≤ 2048 → ⊥
  small-not small =
      let place = place_of_address s.blocks x held.address in
      let block = lies.small small in
      let within : offset_at s.blocks x + size ≤ 4096 = block.within in
      let here : block_at s.blocks x ≡ k = omega arith in
      let o : ℕ = offset_at s.blocks x in
      let of-cell : LiesInCell s x size = block.cell (subst (λ (b : ℕ). HasKind s b kinds.Cells) (sym here) kind) in
      let start : o % c ≡ 0 = ap (λ b. o % cell_words (class_at s b)) (sym here) ∙ of-cell.start in
      let words : cell_words (class_at s (block_at s.blocks x)) ≡ c = ap (λ b. cell_words (class_at s b)) here in
      let room : size ≤ c = (let most = of-cell.room in omega (arith, most, words)) in
      let m : ℕ = o / c in
      let times : m * c + o % c ≡ o = div-add-mod' o c in
      let from : at ≡ cell.index * c = cell.start in
      elim (cases_eq m cell.index) as (λ _. ⊥) [
        | inl same ↦
            let equal : m * c ≡ cell.index * c = ap (λ n. n * c) same in
            let address : block_start s.blocks k + at ≡ x = omega arith in
            cell.free (ap (is_start s) address ∙ held.start)
        | inr other ↦ elim (cases_lt m cell.index) as (λ _. ⊥) [
          | inl less ↦ (let more = mul-le-mul_right {m = m + 1} {n = cell.index} c (omega (arith, less)) in let e : (m + 1) * c ≡ m * c + c = omega arith in omega arith)
          | inr past ↦ (let more = mul-le-mul_right {m = cell.index + 1} {n = m} c (omega (arith, past, other)) in let e : (cell.index + 1) * c ≡ cell.index * c + c = omega arith in omega arith)
        ]
      ]

  pub not-met : ⊥
  not-met = elim (cases_lt 2048 size) as (λ _. ⊥) [ inl large ↦ large-not large | inr small ↦ small-not small ]

pub apart-cell : (s : HeapState) (k from class : ℕ) → HasKind s k kinds.Cells → class_at s k ≡ class → (o : Option ℕ) → MatchOption o (HasNoCell s k from) (IsNextCell s k from)
    → AllLie s → IfSome o (λ at. MeetsNoObject s (block_start s.blocks k + at) (cell_words class))
apart-cell s k from class kind is None none all = tt
apart-cell s k from class kind is (Some at) next all =
    subst (λ (n : ℕ). MeetsNoObject s (block_start s.blocks k + at) (cell_words n)) is
    (λ x i held in-object in-cell. not-met s k at kind next.cell x i held (all x held) in-object in-cell)
