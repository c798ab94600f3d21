-- Where the objects lie that a part of an epoch allocates.
use Rattle.std.proofs.Common.{◌≡◌, ◌≢◌, sym, ◌∙◌, ap, subst, ℕ, ◌+◌, ◌*◌, ◌-◌, ◌/◌, ◌%◌, ◌<◌, ◌≤◌, ◌⊎◌, inl, inr, arith, true, List, Some}
use Rattle.std.specs.Prelude.{unwrap_or}
use Rattle.heap_layout.specs.Zones.{block_at, offset_at, block_start}
use Rattle.heap_layout.specs.Blocks.{kind_code}
use Rattle.heap_layout.specs.declared.block.Kind.{Kind}
use Rattle.heap_layout.specs.declared.block.Kind.TheVariants as kinds
use Rattle.ideal_heap.specs.Runs.{Entry}
use Rattle.object_model.specs.Objects.{HeapState, HasKind, class_at, line_marked, is_start, IsHeld, size_at, cell_words}
use Rattle.object_model.proofs.OneKind.{one-kind}
use Rattle.sessions.specs.Plans.{Rules}
use Rattle.sessions.specs.Fitting.{IsTail, HasHole, HasLineHole, LiesInTail, LiesInLineHole, LiesInHole, IsFreeCell, IsCellFor, class_of}
use Rattle.sessions.specs.Sessions.{LeavesNoGap, IsBirth}
use Rattle.sessions.proofs.Tails.{tail-unique}
use Rattle.sessions.proofs.Holes.{hole-start}

-- a hole is in a block that mutators fill
pub lies-kind : (fill : Kind) (s : HeapState) (k from size : ℕ) → LiesInHole fill s k from size → HasKind s k fill
lies-kind kinds.Bump s k from size lies = lies.0
lies-kind kinds.Young s k from size lies = lies.0
lies-kind kinds.Cells s k from size lies = lies.0
lies-kind kinds.Immix s k from size lies = lies.0
lies-kind kinds.Free s k from size lies = absurd lies
lies-kind kinds.Mature s k from size lies = absurd lies
lies-kind kinds.LargeHead s k from size lies = absurd lies
lies-kind kinds.LargeTail s k from size lies = absurd lies
lies-kind kinds.Kept s k from size lies = absurd lies

pub hole-kind : (fill : Kind) (s : HeapState) (k at size : ℕ) → HasHole fill s k at size → HasKind s k fill
hole-kind fill s k at size hole = lies-kind fill s k at size (hole-start fill s k at size hole)

-- a hole is in no Free block
pub hole-not_free : (fill : Kind) (s : HeapState) (k at size : ℕ) → HasHole fill s k at size → HasKind s k kinds.Free → ⊥
hole-not_free kinds.Bump s k at size hole free = (let e = one-kind s k kinds.Bump kinds.Free hole.0 free in omega arith)
hole-not_free kinds.Young s k at size hole free = (let e = one-kind s k kinds.Young kinds.Free hole.0 free in omega arith)
hole-not_free kinds.Cells s k at size hole free = (let e = one-kind s k kinds.Cells kinds.Free hole.0 free in omega arith)
hole-not_free kinds.Immix s k at size hole free = (let e = one-kind s k kinds.Immix kinds.Free hole.0 free in omega arith)
hole-not_free kinds.Free s k at size hole free = hole
hole-not_free kinds.Mature s k at size hole free = hole
hole-not_free kinds.LargeHead s k at size hole free = hole
hole-not_free kinds.LargeTail s k at size hole free = hole
hole-not_free kinds.Kept s k at size hole free = hole

module _ (rules : Rules) (old : HeapState) (part : List Entry) (new : HeapState) (a : ℕ) (birth : IsBirth rules old part new a) where
  abbrev k : ℕ
  k = block_at new.blocks a

  abbrev from : ℕ
  from = offset_at new.blocks a

  abbrev size : ℕ
  size = size_at new a

  pub birth-kind : HasKind old k kinds.Free ⊎ HasKind old k rules.fill
  birth-kind = elim birth.place as (λ _. HasKind old k kinds.Free ⊎ HasKind old k rules.fill) [ inl free ↦ inl free | inr lies ↦ inr (lies-kind rules.fill old k from size lies) ]

  -- the hole, if the block was not Free
  lies-in : (kind : Kind) → rules.fill ≡ kind → HasKind old k kind → kind_code kind ≢ 0 → LiesInHole kind old k from size
  lies-in kind is has some = elim birth.place as (λ _. LiesInHole kind old k from size) [
    | inl free ↦ absurd (some (one-kind old k kind kinds.Free has free))
    | inr lies ↦ subst (λ f. LiesInHole f old k from size) is lies
  ]

  pub birth-behind : rules.fill ≡ kinds.Bump → HasKind old k kinds.Bump → (x : ℕ) → IsHeld old x → block_at old.blocks x ≡ k → offset_at old.blocks x + size_at old x ≤ from
  birth-behind is bump x holds same =
      let lies : LiesInTail old k from size = (lies-in kinds.Bump is bump (λ e. omega arith)).1 in
      let last : offset_at old.blocks x + size_at old x ≤ lies.at = lies.tail.after x holds same in
      let past : lies.at ≤ from = lies.after in
      omega arith

  pub birth-lines : rules.fill ≡ kinds.Immix → HasKind old k kinds.Immix → (line : ℕ) → 16 * line < from + size → from < 16 * (line + 1) → line_marked old k line ≡ true → ⊥
  birth-lines is immix line begins ends marked =
      let lies : LiesInLineHole old k from size = (lies-in kinds.Immix is immix (λ e. omega arith)).1 in
      let past : 16 * lies.line ≤ from = lies.after in
      let within : from + size ≤ 16 * (lies.line + lies.len) = lies.inside in
      lies.hole.clear line (omega arith) (omega arith) marked

  pub birth-cell : rules.fill ≡ kinds.Cells → HasKind old k kinds.Cells → is_start old (block_start old.blocks k + from) ≡ true → ⊥
  birth-cell is cells = (let free : IsFreeCell old k from = (lies-in kinds.Cells is cells (λ e. omega arith)).1 in free.free)

  pub birth-five : rules.fill ≡ kinds.Cells → size ≡ 5 → (cell_words (class_at new k) ≡ 6) × (from % 6 ≡ 0)
  birth-five is five =
      let cell : IsCellFor new k from size = birth.cell is in
      let class : Some 1 ≡ Some (class_at new k) = subst (λ (q : ℕ). class_of q ≡ Some (class_at new k)) five cell.class in
      let one : class_at new k ≡ 1 = sym (ap (λ o. unwrap_or o 0) class) in
      let words : cell_words (class_at new k) ≡ 6 = ap cell_words one in
      let start : from ≡ cell.index * 6 = cell.start ∙ ap (λ q. cell.index * q) words in
      (words, omega arith)

-- an object of the block ends where the object at a begins
abbrev pub Follows : HeapState → ℕ → Type 0
Follows new a = (x : ℕ) × IsHeld new x × (block_at new.blocks x ≡ block_at new.blocks a) × (x + size_at new x ≡ a)

module _ (fill : Kind) (old new : HeapState) (a : ℕ) (packed : LeavesNoGap fill old new a) where
  pub packed-tail : fill ≡ kinds.Bump → HasKind old (block_at new.blocks a) kinds.Bump → (at : ℕ) → IsTail old (block_at new.blocks a) at → (offset_at new.blocks a ≡ at) ⊎ Follows new a
  packed-tail is bump at tail = elim packed as (λ _. (offset_at new.blocks a ≡ at) ⊎ Follows new a) [
    | inl cells ↦ absurd (let e : kinds.Bump ≡ kinds.Cells = sym is ∙ cells in let wrong : 1 ≡ 5 = ap kind_code e in omega arith)
    | inr rest ↦ elim rest as (λ _. (offset_at new.blocks a ≡ at) ⊎ Follows new a) [
      | inl hole ↦ inl (tail-unique old (block_at new.blocks a) (offset_at new.blocks a) at (subst (λ f. HasHole f old (block_at new.blocks a) (offset_at new.blocks a) (size_at new a)) is hole).1 tail)
      | inr last ↦ elim last as (λ _. (offset_at new.blocks a ≡ at) ⊎ Follows new a) [
        | inl free ↦ absurd (let wrong = one-kind old (block_at new.blocks a) kinds.Bump kinds.Free bump free.0 in omega arith)
        | inr follows ↦ inr follows
      ]
    ]
  ]

  pub packed-free : fill ≢ kinds.Cells → HasKind old (block_at new.blocks a) kinds.Free → (offset_at new.blocks a ≡ 0) ⊎ Follows new a
  packed-free other free = elim packed as (λ _. (offset_at new.blocks a ≡ 0) ⊎ Follows new a) [
    | inl cells ↦ absurd (other cells)
    | inr rest ↦ elim rest as (λ _. (offset_at new.blocks a ≡ 0) ⊎ Follows new a) [
      | inl hole ↦ absurd (hole-not_free fill old (block_at new.blocks a) (offset_at new.blocks a) (size_at new a) hole free)
      | inr last ↦ elim last as (λ _. (offset_at new.blocks a ≡ 0) ⊎ Follows new a) [ inl is ↦ inl is.1 | inr follows ↦ inr follows ]
    ]
  ]

  -- at the start of a line, and the line before it is marked
  abbrev pub StartsHole : Type 0
  StartsHole = (offset_at new.blocks a % 16 ≡ 0) × (0 < offset_at new.blocks a → line_marked old (block_at new.blocks a) (offset_at new.blocks a / 16 - 1) ≡ true)

  pub packed-lines : fill ≡ kinds.Immix → HasKind old (block_at new.blocks a) kinds.Immix → StartsHole ⊎ Follows new a
  packed-lines is immix = elim packed as (λ _. StartsHole ⊎ Follows new a) [
    | inl cells ↦ absurd (let e : kinds.Immix ≡ kinds.Cells = sym is ∙ cells in let wrong : 4 ≡ 5 = ap kind_code e in omega arith)
    | inr rest ↦ elim rest as (λ _. StartsHole ⊎ Follows new a) [
      | inl hole ↦
          let lines : HasLineHole old (block_at new.blocks a) (offset_at new.blocks a) (size_at new a) = (subst (λ f. HasHole f old (block_at new.blocks a) (offset_at new.blocks a) (size_at new a)) is hole).1 in
          let start : offset_at new.blocks a ≡ 16 * lines.line = lines.start in
          let line : offset_at new.blocks a / 16 ≡ lines.line = omega arith in
          inl (omega arith, λ some. subst (λ (q : ℕ). line_marked old (block_at new.blocks a) (q - 1) ≡ true) (sym line) (lines.hole.before (omega arith)))
      | inr last ↦ elim last as (λ _. StartsHole ⊎ Follows new a) [
        | inl free ↦ absurd (let wrong = one-kind old (block_at new.blocks a) kinds.Immix kinds.Free immix free.0 in omega arith)
        | inr follows ↦ inr follows
      ]
    ]
  ]
