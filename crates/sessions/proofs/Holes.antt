-- A hole holds no object.
use Rattle.std.proofs.Common.{◌≡◌, ◌≢◌, refl, sym, ◌∙◌, ap, subst, ℕ, ◌+◌, ◌*◌, ◌-◌, ◌/◌, ◌%◌, ◌<◌, ◌≤◌, inl, inr, arith, Bool, true, false, IsTrue, List, [], ◌∷◌, Option, Some, cond, mul-le-mul_right, div-add-mod'}
use Rattle.std.specs.Prelude.{find, unwrap_or, nat_le}
use Rattle.std.specs.List.{range_with_len}
use Rattle.std.proofs.lemmas.Bool.{cases_lt, cases_eq, leb-true}
use Rattle.std.proofs.lemmas.Option.{none-some}
use Rattle.heap_layout.specs.Zones.{heap_of, block_at, offset_at, block_start}
use Rattle.heap_layout.specs.declared.block.Kind.{Kind}
use Rattle.heap_layout.specs.declared.block.Kind.TheVariants as kinds
use Rattle.heap_layout.specs.Blocks.{kind_code}
use Rattle.object_model.specs.Objects.{HeapState, HasKind, class_at, is_start, IsHeld, IsInExtent, size_at, cell_words}
use Rattle.object_model.specs.Lawful.{IsWellFormed, IsRunOfBlocks, LiesInBlock, LineBitsAreExact}
use Rattle.object_model.proofs.Lines.{word-touched}
use Rattle.object_model.proofs.ObjectReads.{place_of_address}
use Rattle.object_model.proofs.OneKind.{one-kind}
use Rattle.sessions.specs.Fitting.{IsTail, IsFreeCell, HasLineHole, HasHole, LiesInLineHole, LiesInHole, class_of}
use Rattle.sessions.proofs.Tails.{small-block}

-- an element that find returns passes the test
found-passes : {X : Type 0} (p : X → Bool) (y x : X) (b : Bool) (rest : Option X) → p y ≡ b → (rest ≡ Some x → p x ≡ true) → cond b (Some y) rest ≡ Some x → p x ≡ true
found-passes p y x true rest passes later e = subst (λ z. p z ≡ true) (ap (λ o. unwrap_or o y) e) passes
found-passes p y x false rest fails later e = later e

find-passes : {X : Type 0} (p : X → Bool) (xs : List X) (x : X) → find p xs ≡ Some x → p x ≡ true
find-passes p [] x e = absurd (none-some x e)
find-passes p (y ∷ ys) x e = found-passes p y x (p y) (find p ys) refl (find-passes p ys x) e

-- a class that is for a size has room for it
pub class-room : (size class : ℕ) → class_of size ≡ Some class → size ≤ cell_words class
class-room size class e = leb-true size (cell_words class) (find-passes (λ c. nat_le size (cell_words c)) (range_with_len 0 19) class e)

-- one number of cells is before an offset that lies in a cell
same-cell : (i j c at : ℕ) → i * c ≤ at → at < i * c + c → j * c ≤ at → at < j * c + c → i ≡ j
same-cell i j c at i_from i_below j_from j_below = elim (cases_lt i j) as (λ _. i ≡ j) [
  | inl less ↦ absurd (let more = mul-le-mul_right {m = i + 1} {n = j} c (omega arith) in let e : (i + 1) * c ≡ i * c + c = omega arith in omega arith)
  | inr past ↦ elim (cases_lt j i) as (λ _. i ≡ j) [
    | inl less ↦ absurd (let more = mul-le-mul_right {m = j + 1} {n = i} c (omega arith) in let e : (j + 1) * c ≡ j * c + c = omega arith in omega arith)
    | inr other ↦ omega arith
  ]
]

-- a word of a held object in a block that is none of a large run
module _ (s : HeapState) (order : IsWellFormed s) (k : ℕ) (kind : Kind) (is : HasKind s k kind) (no_head : kind_code kind ≢ 6) (no_tail : kind_code kind ≢ 7)
    (a i : ℕ) (holds : IsHeld s a) (inside : IsInExtent s a i) (here : block_at s.blocks i ≡ k) where
  in-run : {j n : ℕ} → IsRunOfBlocks s j n → k < j + n → j ≤ k → ⊥
  in-run {j} {n} run within from = elim (cases_eq k j) as (λ _. ⊥) [
    | inl e ↦ no_head (one-kind s k kind kinds.LargeHead is (subst (λ (q : ℕ). HasKind s q kinds.LargeHead) (sym e) run.head))
    | inr other ↦ (let e : j + (k - j) ≡ k = omega arith in
        no_tail (one-kind s k kind kinds.LargeTail is (subst (λ (q : ℕ). HasKind s q kinds.LargeTail) e (run.tails (k - j) (omega arith) (omega arith)))))
  ]

  -- the object lies in this block
  lies-here : (block_at s.blocks a ≡ k) × LiesInBlock s a (size_at s a)
  lies-here =
      let base : heap_of s.blocks ≤ a = holds.address.from in
      let from : a ≤ i = inside.from in
      let below : i < a + size_at s a = inside.below in
      elim (cases_lt 2048 (size_at s a)) as (λ _. (block_at s.blocks a ≡ k) × LiesInBlock s a (size_at s a)) [
        | inl large ↦
            let run = (order.objects.lies a holds).large large in
            let start : offset_at s.blocks a ≡ 0 = run.start in
            absurd (in-run run.run (omega arith) (omega arith))
        | inr small ↦
            let lies = (order.objects.lies a holds).small small in
            (sym (small-block s a i (size_at s a) holds.address lies.within from below) ∙ here, lies)
      ]

  -- where its words begin and end in the block
  places : (offset_at s.blocks a ≤ offset_at s.blocks i) × (offset_at s.blocks i < offset_at s.blocks a + size_at s a)
  places =
      let base : heap_of s.blocks ≤ a = holds.address.from in
      let from : a ≤ i = inside.from in
      let below : i < a + size_at s a = inside.below in
      let block : block_at s.blocks a ≡ k = lies-here.0 in
      (omega arith, omega arith)

  pub tail-clear : (at : ℕ) → IsTail s k at → at ≤ offset_at s.blocks i → ⊥
  tail-clear at tail past = (let end : offset_at s.blocks a + size_at s a ≤ at = tail.after a holds lies-here.0 in let within = places.1 in omega arith)

  pub cell-clear : (at : ℕ) → HasKind s k kinds.Cells → IsFreeCell s k at → at ≤ offset_at s.blocks i → offset_at s.blocks i < at + cell_words (class_at s k) → ⊥
  cell-clear at cells free from below =
      let c : ℕ = cell_words (class_at s k) in
      let block : block_at s.blocks a ≡ k = lies-here.0 in
      let cell = lies-here.1.cell (subst (λ (q : ℕ). HasKind s q kinds.Cells) (sym block) cells) in
      let room : size_at s a ≤ c = subst (λ (q : ℕ). size_at s a ≤ cell_words (class_at s q)) block cell.room in
      let start : offset_at s.blocks a % c ≡ 0 = subst (λ (q : ℕ). offset_at s.blocks a % cell_words (class_at s q) ≡ 0) block cell.start in
      let j : ℕ = offset_at s.blocks a / c in
      let whole : j * c ≡ offset_at s.blocks a = (let e = div-add-mod' (offset_at s.blocks a) c in omega arith) in
      let place = places in
      let begins : at ≡ free.index * c = free.start in
      let same : free.index ≡ j = same-cell free.index j c (offset_at s.blocks i) (omega arith) (omega arith) (omega arith) (omega arith) in
      let at_a : at ≡ offset_at s.blocks a = begins ∙ ap (λ q. q * c) same ∙ whole in
      let address = place_of_address s.blocks a holds.address in
      let e : a ≡ block_start s.blocks k + at = omega arith in
      free.free (subst (λ (x : ℕ). IsTrue (is_start s x)) e holds.start)

-- no word of a held object lies in the words that a new object takes in a hole
pub hole-clear : (fill : Kind) (s : HeapState) (k from size a i : ℕ) → IsWellFormed s → LineBitsAreExact s k → LiesInHole fill s k from size → IsHeld s a → IsInExtent s a i
    → block_at s.blocks i ≡ k → from ≤ offset_at s.blocks i → offset_at s.blocks i < from + size → ⊥
hole-clear kinds.Bump s k from size a i order right lies holds inside here past below =
    tail-clear s order k kinds.Bump lies.0 (λ e. omega arith) (λ e. omega arith) a i holds inside here lies.1.at lies.1.tail (let beyond : lies.1.at ≤ from = lies.1.after in omega arith)
hole-clear kinds.Young s k from size a i order right lies holds inside here past below =
    tail-clear s order k kinds.Young lies.0 (λ e. omega arith) (λ e. omega arith) a i holds inside here lies.1.at lies.1.tail (let beyond : lies.1.at ≤ from = lies.1.after in omega arith)
hole-clear kinds.Cells s k from size a i order right lies holds inside here past below =
    cell-clear s order k kinds.Cells lies.0 (λ e. omega arith) (λ e. omega arith) a i holds inside here from lies.0 lies.1 past
    (let room : size ≤ cell_words (class_at s k) = class-room size (class_at s k) lies.2 in omega arith)
hole-clear kinds.Immix s k from size a i order right lies holds inside here past below =
    let hole : LiesInLineHole s k from size = lies.1 in
    let line : ℕ = offset_at s.blocks i / 16 in
    let beyond : 16 * hole.line ≤ from = hole.after in
    let within : from + size ≤ 16 * (hole.line + hole.len) = hole.inside in
    let end : hole.line + hole.len ≤ 256 = hole.hole.inside in
    let base : heap_of s.blocks ≤ a = holds.address.from in
    let before : a ≤ i = inside.from in
    hole.hole.clear line (omega arith) (omega arith)
    (right.touched line lies.0 (omega arith) (record { object = a; held = holds; touches = word-touched s.blocks a (size_at s a) (256 * k + line) i base inside (omega arith) }))
hole-clear kinds.Free s k from size a i order right lies holds inside here past below = lies
hole-clear kinds.Mature s k from size a i order right lies holds inside here past below = lies
hole-clear kinds.LargeHead s k from size a i order right lies holds inside here past below = lies
hole-clear kinds.LargeTail s k from size a i order right lies holds inside here past below = lies
hole-clear kinds.Kept s k from size a i order right lies holds inside here past below = lies

-- an object at the start of a hole lies in it
pub hole-start : (fill : Kind) (s : HeapState) (k at size : ℕ) → HasHole fill s k at size → LiesInHole fill s k at size
hole-start kinds.Bump s k at size hole = (hole.0, record { at = at; tail = hole.1; after = omega arith; inside = hole.2 })
hole-start kinds.Young s k at size hole = (hole.0, record { at = at; tail = hole.1; after = omega arith; inside = hole.2 })
hole-start kinds.Cells s k at size hole = hole
hole-start kinds.Immix s k at size hole =
    let lines : HasLineHole s k at size = hole.1 in
    let start : at ≡ 16 * lines.line = lines.start in
    let room : (size + 15) / 16 ≤ lines.len = lines.room in
    (hole.0, record { line = lines.line; len = lines.len; hole = lines.hole; after = omega arith; inside = omega arith })
hole-start kinds.Free s k at size hole = hole
hole-start kinds.Mature s k at size hole = hole
hole-start kinds.LargeHead s k at size hole = hole
hole-start kinds.LargeTail s k at size hole = hole
hole-start kinds.Kept s k at size hole = hole
