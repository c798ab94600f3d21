-- The hole found in the view of a block is the first hole of the block.
use Rattle.std.proofs.Common.{◌≡◌, refl, sym, ◌∙◌, ap, subst, ℕ, ◌+◌, ◌*◌, ◌-◌, ◌/◌, ◌%◌, ◌<◌, ◌≤◌, inl, inr, max, arith, List, Option, Some, None}
use Rattle.std.specs.Prelude.{MatchOption}
use Rattle.std.proofs.lemmas.Bool.{cases_lt, cases_eq, false_from_ne_true, true≢false}
use Rattle.heap_layout.specs.Zones.{block_at, offset_at, block_start}
use Rattle.heap_layout.specs.declared.block.Kind.{Kind}
use Rattle.heap_layout.specs.declared.block.Kind.TheVariants as kinds
use Rattle.heap_layout.specs.declared.region.Region.{Region}
use Rattle.heap_layout.specs.Blocks.{kind_of_code}
use Rattle.heap_layout.proofs.BlockLemmas.{parts_of_code, kind_of_code-kind_code, kind_code_of}
use Rattle.object_model.specs.Objects.{HeapState, HasKind, block_word, class_at, owner_at, is_start, IsHeld, size_at, cell_words, lines_for, line_marked}
use Rattle.object_model.proofs.OneKind.{kind-from, kind-code}
use Rattle.sessions.specs.Fitting.{IsTail, IsFreeCell, class_of}
use Rattle.sessions.proofs.Tails.{tail-unique}
use Rattle.sessions.proofs.Holes.{class-room}
use Rattle.plan_api.specs.declared.block_view.BlockView.{BlockView}
use Rattle.line_marks.specs.Bits.{bit_in, IsClearFrom, IsFirstClearRun, HasNoClearRun}
use Rattle.line_marks.proofs.HoleRuns.{run-hole, hole-clear}
use Rattle.plan_api.specs.Cells.{IsClearCell, IsFirstCell, HasNoClearCell}
use Rattle.plan_api.specs.Views.{IsLastObject, IsViewOf}
use Rattle.block_sweeps.specs.Sweeping.{AreApart}
use Rattle.plan_api.specs.Holes.{IsTailPart, IsLinePart, IsHolePart, IsFirstHole}
use Rattle.plan_api.proofs.BlockViews.{at-offset}

-- the results of the searches for a tail, for a run of clear lines and for a cell
abbrev pub FindsTail : BlockView → ℕ → ℕ → Option Region → Type 0
FindsTail v from size o = MatchOption o (4096 < max v.end from + size) (λ r. (r.next ≡ max v.end from) × (r.end ≡ 4096) × (r.next + size ≤ 4096))

abbrev pub FindsLines : List ℕ → ℕ → ℕ → Option Region → Type 0
FindsLines lines from size o = MatchOption o (HasNoClearRun lines (lines_for from) (lines_for size)) (λ r. (x : ℕ) × (end : ℕ) × (r.next ≡ 16 * x) × (r.end ≡ 16 * end) × IsFirstClearRun lines (lines_for from) (lines_for size) x end)

abbrev pub FindsCell : BlockView → ℕ → ℕ → Option Region → Type 0
FindsCell v words from o = MatchOption o (HasNoClearCell v.starts words from) (λ r. IsFirstCell v.starts words from r.next × (r.end ≡ r.next + words))

-- words in so many lines take so many
fits-lines : (x e size : ℕ) → 16 * x + size ≤ 16 * e → x + (size + 15) / 16 ≤ e
fits-lines x e size room = omega arith

-- these words have the line bits of block k
module _ (s : HeapState) (k : ℕ) (lines : List ℕ) (read : (line : ℕ) → line < 256 → bit_in lines line ≡ line_marked s k line) where
  -- runs of clear lines
  line-part : (from size x end : ℕ) → 1 ≤ size → IsFirstClearRun lines (lines_for from) (lines_for size) x end → IsLinePart s k from (16 * x) (16 * end)
  line-part from size x end some run =
      let room = run.room in
      let hole = run-hole s k lines read (lines_for from) (lines_for size) x end (omega arith) run in
      let ends : x + (end - x) ≡ hole.line + hole.all = hole.ends in
      record { line = hole.line; len = hole.all; hole = hole.hole; starts = ap (λ q. 16 * q) hole.starts; ends = omega arith }

  -- a part with room begins with enough clear lines
  part-clear : (from size next end : ℕ) → 1 ≤ size → IsLinePart s k from next end → next + size ≤ end → (x : ℕ) × (next ≡ 16 * x) × (lines_for from ≤ x) × IsClearFrom lines x (lines_for size)
  part-clear from size next end some part room =
      let x : ℕ = max part.line (lines_for from) in
      let starts : next ≡ 16 * x = part.starts in
      let ends : end ≡ 16 * (part.line + part.len) = part.ends in
      let inside : part.line + part.len ≤ 256 = part.hole.inside in
      let least : part.line ≤ x = omega arith in
      let fits : x + lines_for size ≤ part.line + part.len = fits-lines x (part.line + part.len) size (omega arith) in
      let clear = hole-clear s k lines read (lines_for from) (lines_for size) x (part.line + part.len - x)
      (record { line = part.line; all = part.len; hole = part.hole; starts = refl; ends = omega arith }) (omega arith) in
      (x, starts, clear.0, clear.1)

  -- the run that is found is the first part of a hole
  pub first-lines : (from size : ℕ) → 1 ≤ size → HasKind s k kinds.Immix → (o : Option Region) → FindsLines lines from size o → IsFirstHole kinds.Immix s k from size o
  first-lines from size some kind None none = λ next end hole. let clear = part-clear from size next end some hole.part.1 hole.room in none clear.0 clear.2 clear.3
  first-lines from size some kind (Some r) found =
      let x : ℕ = found.0 in
      let end : ℕ = found.1 in
      let run = found.4 in
      let part : IsLinePart s k from r.next r.end = subst (λ (q : ℕ). IsLinePart s k from q r.end) (sym found.2) (subst (λ (q : ℕ). IsLinePart s k from (16 * x) q) (sym found.3) (line-part from size x end some run)) in
      record {
        hole = record {
          part = (kind, part);
          room = (let e = found.2 in let e' = found.3 in let room = run.room in omega arith);
        };
        first = λ next end' hole.
            let clear = part-clear from size next end' some hole.part.1 hole.room in
            let e : next ≡ 16 * clear.0 = clear.1 in
            let e' = found.2 in
            elim (cases_lt clear.0 x) as (λ _. r.next ≤ next) [ inl less ↦ absurd (run.first clear.0 clear.2 less clear.3) | inr past ↦ omega arith ];
      }

module _ (s : HeapState) (k : ℕ) (v : BlockView) (view : IsViewOf s k v) where
  parts : (kind_of_code (block_word s k % 256) ≡ Some v.word.kind) × (block_word s k / 256 % 256 ≡ v.word.class) × (block_word s k / 65536 ≡ v.word.owner)
  parts = parts_of_code v.word (block_word s k) view.valid view.code

  pub kind-viewed : HasKind s k v.word.kind
  kind-viewed = kind-from s k v.word.kind view.block (sym (kind_code_of (block_word s k % 256) v.word.kind parts.0))

  pub class-viewed : class_at s k ≡ v.word.class
  class-viewed = parts.1

  pub owner-viewed : owner_at s k ≡ v.word.owner
  owner-viewed = parts.2

  -- the kind that the block has is the one of the view
  pub kind-same : (kind : Kind) → HasKind s k kind → v.word.kind ≡ kind
  kind-same kind is =
      let e : Some v.word.kind ≡ Some kind = sym parts.0 ∙ ap kind_of_code (kind-code s k kind is) ∙ kind_of_code-kind_code kind in cc

  -- if the objects of the block do not overlap, its tail begins where its last object ends
  module _ (apart : AreApart s k) where
    last-past : (end l : ℕ) → IsLastObject s k end l → (a : ℕ) → IsHeld s a → block_at s.blocks a ≡ k → offset_at s.blocks a + size_at s a ≤ end
    last-past end l last a holds here = elim (cases_eq a l) as (λ _. offset_at s.blocks a + size_at s a ≤ end) [
      | inl e ↦ subst (λ (x : ℕ). offset_at s.blocks x + size_at s x ≤ end) (sym e) (let ends : offset_at s.blocks l + size_at s l ≡ end = last.ends in omega arith)
      | inr other ↦
          let before : a ≤ l = last.last a holds here in
          let ends : offset_at s.blocks l + size_at s l ≡ end = last.ends in
          let place_a = at-offset s k a holds here in
          let place_l = at-offset s k l last.held last.here in
          elim (cases_lt l (a + size_at s a)) as (λ _. offset_at s.blocks a + size_at s a ≤ end) [
            | inl over ↦ absurd (other (apart a l l holds last.held here last.here (record { from = before; below = over }) (record { from = omega arith; below = omega arith })))
            | inr past ↦ omega arith
          ]
    ]

    pub tail-viewed : IsTail s k v.end
    tail-viewed = elim view.end as (λ _. IsTail s k v.end) [
      | inl none ↦ record { after = λ a holds here. absurd (none.0 a holds here); least = inl none.1 }
      | inr some ↦ record { after = last-past v.end some.0 some.1; least = inr (some.0, some.1.held, some.1.here, some.1.ends) }
    ]

    tail-found : (from size next end : ℕ) → next ≡ max v.end from → end ≡ 4096 → IsTailPart s k from next end
    tail-found from size next end starts ends = record { begin = v.end; tail = tail-viewed; starts = starts; ends = ends }

    tail-next : (from next end : ℕ) → IsTailPart s k from next end → next ≡ max v.end from
    tail-next from next end part = part.starts ∙ ap (λ b. max b from) (tail-unique s k part.begin v.end part.tail tail-viewed)

  -- free cells in the view, if cells have at least one word
  cell-small : (at words : ℕ) → 1 ≤ words → at + words ≤ 4096 → at < 4096
  cell-small at words some inside = omega arith

  cell-from : (at : ℕ) → 1 ≤ cell_words (class_at s k) → IsClearCell v.starts (cell_words (class_at s k)) at → IsFreeCell s k at
  cell-from at some cell = record {
    index = cell.index;
    start = cell.start;
    inside = cell.inside;
    free = λ set. true≢false (sym set ∙ sym (view.starts at (cell-small at (cell_words (class_at s k)) some cell.inside)) ∙ cell.clear);
  }

  cell-back : (at : ℕ) → 1 ≤ cell_words (class_at s k) → IsFreeCell s k at → IsClearCell v.starts (cell_words (class_at s k)) at
  cell-back at some cell = record {
    index = cell.index;
    start = cell.start;
    inside = cell.inside;
    clear = view.starts at (cell-small at (cell_words (class_at s k)) some cell.inside) ∙ false_from_ne_true (is_start s (block_start s.blocks k + at)) cell.free;
  }

  module _ (from size : ℕ) (some : 1 ≤ size) where
    tail-some : AreApart s k → (r : Region) → (r.next ≡ max v.end from) × (r.end ≡ 4096) × (r.next + size ≤ 4096) → IsTailPart s k from r.next r.end × (r.next + size ≤ r.end) × ((next end : ℕ) → IsTailPart s k from next end → r.next ≤ next)
    tail-some apart r found = (
      tail-found apart from size r.next r.end found.0 found.1,
      (let end = found.1 in let room = found.2 in omega arith),
      (λ next end part. let e : next ≡ max v.end from = tail-next apart from next end part in let e' = found.0 in omega arith),
    )

    tail-none : AreApart s k → 4096 < max v.end from + size → (next end : ℕ) → IsTailPart s k from next end → next + size ≤ end → ⊥
    tail-none apart short next end part room = (let e : next ≡ max v.end from = tail-next apart from next end part in let e' : end ≡ 4096 = part.ends in omega arith)

    pub bump-hole : AreApart s k → v.word.kind ≡ kinds.Bump → (o : Option Region) → FindsTail v from size o → IsFirstHole kinds.Bump s k from size o
    bump-hole apart kind None short = λ next end hole. tail-none apart short next end hole.part.1 hole.room
    bump-hole apart kind (Some r) found =
        let tail = tail-some apart r found in record {
          hole = record { part = (subst (HasKind s k) kind kind-viewed, tail.0); room = tail.1 };
          first = λ next end hole. tail.2 next end hole.part.1;
        }

    pub young-hole : AreApart s k → v.word.kind ≡ kinds.Young → (o : Option Region) → FindsTail v from size o → IsFirstHole kinds.Young s k from size o
    young-hole apart kind None short = λ next end hole. tail-none apart short next end hole.part.1 hole.room
    young-hole apart kind (Some r) found =
        let tail = tail-some apart r found in record {
          hole = record { part = (subst (HasKind s k) kind kind-viewed, tail.0); room = tail.1 };
          first = λ next end hole. tail.2 next end hole.part.1;
        }

    pub lines-hole : v.word.kind ≡ kinds.Immix → (o : Option Region) → FindsLines v.lines from size o → IsFirstHole kinds.Immix s k from size o
    lines-hole kind o found = first-lines s k v.lines view.lines from size some (subst (HasKind s k) kind kind-viewed) o found

    -- if the block's class is the class for the size
    module _ (class : class_of size ≡ Some v.word.class) where
      of-class : class_of size ≡ Some (class_at s k)
      of-class = class ∙ ap Some (sym class-viewed)

      has-words : size ≤ cell_words (class_at s k)
      has-words = class-room size (class_at s k) of-class

      pub cells-hole : v.word.kind ≡ kinds.Cells → (o : Option Region)
          → FindsCell v (cell_words v.word.class) from o
          → IsFirstHole kinds.Cells s k from size o
      cells-hole kind o found = found-of o (subst (λ (c : ℕ). FindsCell v (cell_words c) from o) (sym class-viewed) found)
        where
          found-of : (o : Option Region) → FindsCell v (cell_words (class_at s k)) from o → IsFirstHole kinds.Cells s k from size o
          found-of None none = λ next end hole. let part = hole.part.1 in none next part.after (cell-back next (let more = has-words in omega arith) part.cell)
          found-of (Some r) found =
              let first = found.0 in
              let words = has-words in
              record {
                hole = record {
                  part = (subst (HasKind s k) kind kind-viewed, record { class = of-class; cell = cell-from r.next (omega arith) first.cell; after = first.after; ends = found.1 });
                  room = (let e = found.1 in omega arith);
                };
                first = λ next end hole. let part = hole.part.1 in first.first next part.after (cell-back next (omega arith) part.cell);
              }

    pub other-class : (class_of size ≡ Some v.word.class → ⊥) → IsFirstHole kinds.Cells s k from size None
    other-class other = λ next end hole. other (hole.part.1.class ∙ ap Some class-viewed)

-- a hole is in a block of the kind that mutators fill
pub part-kind : (fill : Kind) (s : HeapState) (k from size next end : ℕ) → IsHolePart fill s k from size next end → HasKind s k fill
part-kind kinds.Bump s k from size next end part = part.0
part-kind kinds.Young s k from size next end part = part.0
part-kind kinds.Cells s k from size next end part = part.0
part-kind kinds.Immix s k from size next end part = part.0
part-kind kinds.Free s k from size next end part = absurd part
part-kind kinds.Mature s k from size next end part = absurd part
part-kind kinds.LargeHead s k from size next end part = absurd part
part-kind kinds.LargeTail s k from size next end part = absurd part
part-kind kinds.Kept s k from size next end part = absurd part

pub other-kind : (fill : Kind) (s : HeapState) (k : ℕ) (v : BlockView) (from size : ℕ) → IsViewOf s k v → (v.word.kind ≡ fill → ⊥) → IsFirstHole fill s k from size None
other-kind fill s k v from size view other = λ next end hole. other (kind-same s k v view fill (part-kind fill s k from size next end hole.part))
