-- Size classes, and holes by kinds of blocks: where they lie, and which blocks have one.
use Rattle.std.proofs.Common.{◌≡◌, ◌≢◌, refl, sym, ◌∙◌, ap, subst, ℕ, zero, suc, ◌+◌, ◌*◌, ◌-◌, ◌/◌, ◌%◌, ◌<◌, ◌≤◌, inl, inr, arith, Bool, true, false, ◌||◌, IsTrue, Option, Some, None, cond, slice_index, nat_eq, zero-add}
use Rattle.std.specs.Prelude.{find, map, unwrap_or, nat_le}
use Rattle.std.specs.List.{range_with_len, list_all}
use Rattle.std.proofs.lemmas.Bool.{cases_lt, leb-true, leb-false}
use Rattle.std.proofs.Math.Nat.{mul-mod_left}
use Rattle.std.proofs.lemmas.List.{get_or_past}
use Rattle.std.proofs.lemmas.List.FromFn.{get_or-range_with_len, length-range_with_len}
use Rattle.std.proofs.lemmas.List.Sums.{AllPass-from_list_all}
use Rattle.heap_layout.specs.Zones.{block_start}
use Rattle.heap_layout.specs.declared.block.Kind.{Kind}
use Rattle.heap_layout.specs.declared.block.Kind.TheVariants as kinds
use Rattle.heap_layout.specs.Blocks.{kind_code}
use Rattle.object_model.specs.Objects.{HeapState, HasKind, class_at, is_start, is_pinned, is_unlogged, cell_words}
use Rattle.object_model.specs.Lawful.{IsClear}
use Rattle.object_model.proofs.OneKind.{one-kind}
use Rattle.sessions.specs.Plans.{Plan, NoGc, MarkSweep, SemiSpace, GenCopy, Immix, StickyImmix, rules_of}
use Rattle.sessions.specs.Fitting.{IsTail, IsLineHole, HasLineHole, HasHole, LiesInLineHole, LiesInHole, class_of, class_for, HasCellFor}
use Rattle.sessions.proofs.Holes.{class-room}

-- what holds for each of the first n numbers
pub all-below : (p : ℕ → Bool) (n : ℕ) → list_all p (range_with_len 0 n) ≡ true → (j : ℕ) → j < n → p j ≡ true
all-below p n all j less =
    let e : slice_index (range_with_len 0 n) j ≡ j = get_or-range_with_len 0 n j 0 less ∙ zero-add j in
    subst (λ x. p x ≡ true) e (AllPass-from_list_all p (range_with_len 0 n) all j 0 (rw length-range_with_len less))

-- a cell has at most 2,048 words
cell-most : (class : ℕ) → cell_words class ≤ 2048
cell-most class = elim (cases_lt class 19) as (λ _. cell_words class ≤ 2048) [
  | inl less ↦ leb-true (cell_words class) 2048 (all-below (λ c. nat_le (cell_words c) 2048) 19 refl class less)
  | inr past ↦ (let e : cell_words class ≡ 0 = get_or_past (map cell_words (range_with_len 0 19)) class 0 past in omega arith)
]

-- the least class with room, of those from `from` on
pub record LeastClass (size from : ℕ) (found : Option ℕ) : Type 0 where
  pub class : ℕ
  pub same : found ≡ Some class
  pub room : size ≤ cell_words class
  pub after : from ≤ class
  pub least : (d : ℕ) → from ≤ d → d < class → cell_words d < size

pick-class : (size from : ℕ) (rest : Option ℕ) (b : Bool) → nat_le size (cell_words from) ≡ b → (cell_words from < size → LeastClass size (from + 1) rest)
    → LeastClass size from (cond b (Some from) rest)
pick-class size from rest true fits later = record { class = from; same = refl; room = leb-true size (cell_words from) fits; after = omega arith; least = λ d above below. absurd (omega arith) }
pick-class size from rest false over later =
    let more : cell_words from < size = leb-false size (cell_words from) over in
    let next : LeastClass size (from + 1) rest = later more in
    let beyond : from + 1 ≤ next.class = next.after in
    record {
      class = next.class;
      same = next.same;
      room = next.room;
      after = omega arith;
      least = λ d above below. elim (cases_lt from d) as (λ _. cell_words d < size) [
        | inl past ↦ next.least d (omega arith) below
        | inr upto ↦ (let e : from ≡ d = omega arith in subst (λ (c : ℕ). cell_words c < size) e more)
      ];
    }

least-class : (size n from : ℕ) → size ≤ cell_words (from + n) → LeastClass size from (find (λ c. nat_le size (cell_words c)) (range_with_len from (suc n)))
least-class size zero from room = pick-class size from None (nat_le size (cell_words from)) refl
    (λ over. absurd (let e : from + 0 ≡ from = omega arith in let within : size ≤ cell_words from = subst (λ (c : ℕ). size ≤ cell_words c) e room in omega arith))
least-class size (suc n) from room = pick-class size from (find (λ c. nat_le size (cell_words c)) (range_with_len (from + 1) (suc n))) (nat_le size (cell_words from)) refl
    (λ over. least-class size n (from + 1) (let e : from + suc n ≡ from + 1 + n = omega arith in subst (λ (c : ℕ). size ≤ cell_words c) e room))

pub class-least : (size : ℕ) → size ≤ 2048 → LeastClass size 0 (class_of size)
class-least size small = least-class size 18 0 small

no-class : (o : Option ℕ) → ((class : ℕ) → o ≡ Some class → ⊥) → o ≡ None
no-class None none = refl
no-class (Some class) none = absurd (none class refl)

pub none-above : (size : ℕ) → 2048 < size → class_of size ≡ None
none-above size large = no-class (class_of size) (λ class e. let room : size ≤ cell_words class = class-room size class e in let most : cell_words class ≤ 2048 = cell-most class in omega arith)

-- the codes of the kinds of blocks that have holes
abbrev pub is_holed : ℕ → Bool
is_holed code = nat_eq code 1 || nat_eq code 2 || nat_eq code 4 || nat_eq code 5

or_first : (a b c : Bool) → IsTrue a → IsTrue (a || b || c)
or_first true b c is = refl
or_first false b c is = absurd (let wrong : false ≡ true = is in cc)

-- a clear block has a hole at its front
module _ (s : HeapState) (k size : ℕ) (clear : IsClear s k) (small : size ≤ 2048) where
  empty-tail : IsTail s k 0
  empty-tail = record {
    after = λ a holds block. absurd (clear.marks a block (or_first (is_start s a) (is_pinned s a) (is_unlogged s a) holds.start));
    least = inl refl;
  }

  pub clear-bump : HasKind s k kinds.Bump → HasHole kinds.Bump s k 0 size
  clear-bump kind = (kind, empty-tail, omega arith)

  pub clear-young : HasKind s k kinds.Young → HasHole kinds.Young s k 0 size
  clear-young kind = (kind, empty-tail, omega arith)

  pub clear-immix : HasKind s k kinds.Immix → HasHole kinds.Immix s k 0 size
  clear-immix kind = (
    kind,
    record {
      line = 0;
      len = 256;
      start = refl;
      hole = record {
        some = omega arith;
        inside = omega arith;
        clear = λ line from below. clear.lines line (omega arith);
        before = λ less. absurd (omega arith);
        after = λ less. absurd (omega arith);
      };
      room = omega arith;
    },
  )

  pub clear-cells : HasKind s k kinds.Cells → class_at s k ≡ unwrap_or (class_of size) 0 → HasHole kinds.Cells s k 0 size
  clear-cells kind class =
      let least = class-least size small in
      let same : class_of size ≡ Some (class_at s k) = least.same ∙ ap (λ c. Some c) (sym (class ∙ ap (λ o. unwrap_or o 0) least.same)) in
      let most : cell_words (class_at s k) ≤ 2048 = cell-most (class_at s k) in (
        kind,
        record {
          index = 0;
          start = omega arith;
          inside = omega arith;
          free = λ is. clear.marks (block_start s.blocks k + 0) (omega arith) (or_first _ _ _ is);
        },
        same,
      )

pub clear-hole : (fill : Kind) (s : HeapState) (k size : ℕ) → IsTrue (is_holed (kind_code fill)) → HasKind s k fill → class_at s k ≡ class_for fill size → IsClear s k → size ≤ 2048
    → HasHole fill s k 0 size
clear-hole kinds.Bump s k size holed kind class clear small = clear-bump s k size clear small kind
clear-hole kinds.Young s k size holed kind class clear small = clear-young s k size clear small kind
clear-hole kinds.Immix s k size holed kind class clear small = clear-immix s k size clear small kind
clear-hole kinds.Cells s k size holed kind class clear small = clear-cells s k size clear small kind class
clear-hole kinds.Free s k size holed kind class clear small = absurd (let wrong : false ≡ true = holed in cc)
clear-hole kinds.Mature s k size holed kind class clear small = absurd (let wrong : false ≡ true = holed in cc)
clear-hole kinds.LargeHead s k size holed kind class clear small = absurd (let wrong : false ≡ true = holed in cc)
clear-hole kinds.LargeTail s k size holed kind class clear small = absurd (let wrong : false ≡ true = holed in cc)
clear-hole kinds.Kept s k size holed kind class clear small = absurd (let wrong : false ≡ true = holed in cc)

-- the mutators of each plan fill blocks with holes
pub plan-holed : (p : Plan) → IsTrue (is_holed (kind_code (rules_of p).fill))
plan-holed NoGc = refl
plan-holed MarkSweep = refl
plan-holed SemiSpace = refl
plan-holed GenCopy = refl
plan-holed Immix = refl
plan-holed StickyImmix = refl

-- the class of a new block
pub few-classes : (fill : Kind) (size : ℕ) → size ≤ 2048 → class_for fill size ≤ 18
few-classes kinds.Cells size small =
    let least = class-least size small in
    let same : unwrap_or (class_of size) 0 ≡ least.class = ap (λ o. unwrap_or o 0) least.same in
    elim (cases_lt 18 least.class) as (λ _. unwrap_or (class_of size) 0 ≤ 18) [ inl many ↦ absurd (let over : 2048 < size = least.least 18 (omega arith) many in omega arith) | inr few ↦ omega arith ]
few-classes kinds.Free size small = omega arith
few-classes kinds.Bump size small = omega arith
few-classes kinds.Young size small = omega arith
few-classes kinds.Mature size small = omega arith
few-classes kinds.Immix size small = omega arith
few-classes kinds.LargeHead size small = omega arith
few-classes kinds.LargeTail size small = omega arith
few-classes kinds.Kept size small = omega arith

-- a hole lies in a block of its kind
pub lies-kind : (fill : Kind) (s : HeapState) (k from size : ℕ) → LiesInHole fill s k from size → HasKind s k fill
lies-kind kinds.Bump s k from size lies = lies.0
lies-kind kinds.Young s k from size lies = lies.0
lies-kind kinds.Cells s k from size lies = lies.0
lies-kind kinds.Immix s k from size lies = lies.0
lies-kind kinds.Free s k from size lies = absurd lies
lies-kind kinds.Mature s k from size lies = absurd lies
lies-kind kinds.LargeHead s k from size lies = absurd lies
lies-kind kinds.LargeTail s k from size lies = absurd lies
lies-kind kinds.Kept s k from size lies = absurd lies

-- a block with a hole has one of four kinds
pub lies-code : (fill : Kind) (s : HeapState) (k from size : ℕ) → LiesInHole fill s k from size → IsTrue (is_holed (kind_code fill))
lies-code kinds.Bump s k from size lies = refl
lies-code kinds.Young s k from size lies = refl
lies-code kinds.Cells s k from size lies = refl
lies-code kinds.Immix s k from size lies = refl
lies-code kinds.Free s k from size lies = absurd lies
lies-code kinds.Mature s k from size lies = absurd lies
lies-code kinds.LargeHead s k from size lies = absurd lies
lies-code kinds.LargeTail s k from size lies = absurd lies
lies-code kinds.Kept s k from size lies = absurd lies

pub none-lies : (fill other : Kind) (s : HeapState) (k from size : ℕ) → is_holed (kind_code other) ≡ false → LiesInHole fill s k from size → HasKind s k other → ⊥
none-lies fill other s k from size unholed lies is =
    let same : kind_code fill ≡ kind_code other = one-kind s k fill other (lies-kind fill s k from size lies) is in
    let holed : is_holed (kind_code fill) ≡ true = lies-code fill s k from size lies in
    let also : is_holed (kind_code other) ≡ true = subst (λ (code : ℕ). is_holed code ≡ true) same holed in
    let wrong : true ≡ false = sym also ∙ unholed in cc

-- the words of a hole are the block's
pub lies-within : (fill : Kind) (s : HeapState) (k from size : ℕ) → LiesInHole fill s k from size → from + size ≤ 4096
lies-within kinds.Bump s k from size lies = lies.1.inside
lies-within kinds.Young s k from size lies = lies.1.inside
lies-within kinds.Cells s k from size lies =
    let room : size ≤ cell_words (class_at s k) = class-room size (class_at s k) lies.2 in
    let inside : from + cell_words (class_at s k) ≤ 4096 = lies.1.inside in
    omega arith
lies-within kinds.Immix s k from size lies =
    let hole : LiesInLineHole s k from size = lies.1 in
    let inside : from + size ≤ 16 * (hole.line + hole.len) = hole.inside in
    let end : hole.line + hole.len ≤ 256 = hole.hole.inside in
    omega arith
lies-within kinds.Free s k from size lies = absurd lies
lies-within kinds.Mature s k from size lies = absurd lies
lies-within kinds.LargeHead s k from size lies = absurd lies
lies-within kinds.LargeTail s k from size lies = absurd lies
lies-within kinds.Kept s k from size lies = absurd lies

-- a part of a hole that is no cell lies in it
pub part-lies : (fill : Kind) (s : HeapState) (k at size from n : ℕ) → fill ≢ kinds.Cells → HasHole fill s k at size → at ≤ from → from + n ≤ at + size → LiesInHole fill s k from n
part-lies kinds.Bump s k at size from n other hole after upto = (let room : at + size ≤ 4096 = hole.2 in (hole.0, record { at = at; tail = hole.1; after = after; inside = omega arith }))
part-lies kinds.Young s k at size from n other hole after upto = (let room : at + size ≤ 4096 = hole.2 in (hole.0, record { at = at; tail = hole.1; after = after; inside = omega arith }))
part-lies kinds.Cells s k at size from n other hole after upto = absurd (other refl)
part-lies kinds.Immix s k at size from n other hole after upto =
    let lines : HasLineHole s k at size = hole.1 in
    let start : at ≡ 16 * lines.line = lines.start in
    let room : (size + 15) / 16 ≤ lines.len = lines.room in
    (hole.0, record { line = lines.line; len = lines.len; hole = lines.hole; after = omega arith; inside = omega arith })
part-lies kinds.Free s k at size from n other hole after upto = absurd hole
part-lies kinds.Mature s k at size from n other hole after upto = absurd hole
part-lies kinds.LargeHead s k at size from n other hole after upto = absurd hole
part-lies kinds.LargeTail s k at size from n other hole after upto = absurd hole
part-lies kinds.Kept s k at size from n other hole after upto = absurd hole

-- holes of lines that share a line are one
pub one-line_hole : (s : HeapState) (k line x m y n : ℕ) → IsLineHole s k x m → IsLineHole s k y n → x ≤ line → line < x + m → y ≤ line → line < y + n → (x ≡ y) × (m ≡ n)
one-line_hole s k line x m y n one other x_from x_upto y_from y_upto =
    let same : x ≡ y = elim (cases_lt x y) as (λ _. x ≡ y) [
      | inl less ↦ absurd (one.clear (y - 1) (omega arith) (omega arith) (other.before (omega arith)))
      | inr upto ↦ elim (cases_lt y x) as (λ _. x ≡ y) [
        | inl less ↦ absurd (other.clear (x - 1) (omega arith) (omega arith) (one.before (omega arith)))
        | inr from ↦ omega arith
      ]
    ] in
    let one_end : x + m ≤ 256 = one.inside in
    let other_end : y + n ≤ 256 = other.inside in (
      same,
      elim (cases_lt (x + m) (y + n)) as (λ _. m ≡ n) [
        | inl less ↦ absurd (other.clear (x + m) (omega arith) less (one.after (omega arith)))
        | inr upto ↦ elim (cases_lt (y + n) (x + m)) as (λ _. m ≡ n) [
          | inl less ↦ absurd (one.clear (y + n) (omega arith) less (other.after (omega arith)))
          | inr from ↦ omega arith
        ]
      ],
    )

-- a hole for cells is a cell for the size
pub hole-cell : (fill : Kind) (s : HeapState) (k at size : ℕ) → HasHole fill s k at size → HasCellFor fill s k at size
hole-cell fill s k at size hole cells =
    let found : HasHole kinds.Cells s k at size = subst (λ (x : Kind). HasHole x s k at size) cells hole in
    record { kind = found.0; class = found.2; index = found.1.index; start = found.1.start }

pub cell-start : (fill : Kind) (s : HeapState) (k from size : ℕ) → fill ≡ kinds.Cells → HasCellFor fill s k from size → HasKind s k kinds.Cells × (class_of size ≡ Some (class_at s k)) × (from % cell_words (class_at s k) ≡ 0)
cell-start fill s k from size cells has =
    let cell = has cells in
    (cell.kind, cell.class, ap (λ i. i % cell_words (class_at s k)) cell.start ∙ mul-mod_left cell.index (cell_words (class_at s k)))
