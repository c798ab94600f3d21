-- Parts of holes against holes.
use Rattle.std.proofs.Common.{◌≡◌, ◌≢◌, refl, subst, ℕ, ◌+◌, ◌*◌, ◌-◌, ◌<◌, ◌≤◌, max, arith}
use Rattle.heap_layout.specs.Zones.{block_at, offset_at}
use Rattle.heap_layout.specs.declared.block.Kind.{Kind}
use Rattle.heap_layout.specs.declared.block.Kind.TheVariants as kinds
use Rattle.object_model.specs.Objects.{HeapState, IsHeld, IsInExtent, class_at, cell_words, lines_for}
use Rattle.object_model.specs.Lawful.{IsWellFormed, LineBitsAreExact}
use Rattle.sessions.specs.Fitting.{IsTail, HasHole, LiesInHole}
use Rattle.sessions.proofs.Holes.{class-room, cell-clear, hole-clear}
use Rattle.plan_api.specs.Holes.{IsHolePart, HasRoomFrom}

-- a hole is its own part from offset 0 on
pub whole-part : (fill : Kind) (s : HeapState) (k size at : ℕ) → HasHole fill s k at size → (end : ℕ) × HasRoomFrom fill s k 0 size at end
whole-part kinds.Bump s k size at hole = (4096, record { part = (hole.0, record { begin = at; tail = hole.1; starts = omega arith; ends = refl }); room = hole.2 })
whole-part kinds.Young s k size at hole = (4096, record { part = (hole.0, record { begin = at; tail = hole.1; starts = omega arith; ends = refl }); room = hole.2 })
whole-part kinds.Cells s k size at hole = (
  at + cell_words (class_at s k),
  record {
    part = (hole.0, record { class = hole.2; cell = hole.1; after = omega arith; ends = refl });
    room = (let room = class-room size (class_at s k) hole.2 in omega arith);
  },
)
whole-part kinds.Immix s k size at hole =
    let run = hole.1 in
    let start : at ≡ 16 * run.line = run.start in
    let room : lines_for size ≤ run.len = run.room in
    (16 * (run.line + run.len), record { part = (hole.0, record { line = run.line; len = run.len; hole = run.hole; starts = omega arith; ends = refl }); room = omega arith })
whole-part kinds.Free s k size at hole = absurd hole
whole-part kinds.Mature s k size at hole = absurd hole
whole-part kinds.LargeHead s k size at hole = absurd hole
whole-part kinds.LargeTail s k size at hole = absurd hole
whole-part kinds.Kept s k size at hole = absurd hole

pub part-whole : (fill : Kind) (s : HeapState) (k size at : ℕ) → (end : ℕ) × HasRoomFrom fill s k 0 size at end → HasHole fill s k at size
part-whole kinds.Bump s k size at (end, hole) =
    let part = hole.part.1 in
    let same : part.begin ≡ at = (let starts : at ≡ max part.begin 0 = part.starts in omega arith) in
    (hole.part.0, subst (λ (q : ℕ). IsTail s k q) same part.tail, (let ends : end ≡ 4096 = part.ends in let room = hole.room in omega arith))
part-whole kinds.Young s k size at (end, hole) =
    let part = hole.part.1 in
    let same : part.begin ≡ at = (let starts : at ≡ max part.begin 0 = part.starts in omega arith) in
    (hole.part.0, subst (λ (q : ℕ). IsTail s k q) same part.tail, (let ends : end ≡ 4096 = part.ends in let room = hole.room in omega arith))
part-whole kinds.Cells s k size at (end, hole) = (hole.part.0, hole.part.1.cell, hole.part.1.class)
part-whole kinds.Immix s k size at (end, hole) =
    let part = hole.part.1 in
    let starts : at ≡ 16 * max part.line (lines_for 0) = part.starts in
    let ends : end ≡ 16 * (part.line + part.len) = part.ends in
    let room : at + size ≤ end = hole.room in
    (hole.part.0, record { line = part.line; len = part.len; start = omega arith; hole = part.hole; room = omega arith })
part-whole kinds.Free s k size at (end, hole) = absurd hole.part
part-whole kinds.Mature s k size at (end, hole) = absurd hole.part
part-whole kinds.LargeHead s k size at (end, hole) = absurd hole.part
part-whole kinds.LargeTail s k size at (end, hole) = absurd hole.part
part-whole kinds.Kept s k size at (end, hole) = absurd hole.part

-- an object at the start of a part lies in the hole, at or after the offset
pub part-start : (fill : Kind) (s : HeapState) (k from size next end : ℕ) → HasRoomFrom fill s k from size next end → (from ≤ next) × LiesInHole fill s k next size
part-start kinds.Bump s k from size next end hole =
    let part = hole.part.1 in
    let starts : next ≡ max part.begin from = part.starts in
    let ends : end ≡ 4096 = part.ends in
    let room = hole.room in
    (omega arith, (hole.part.0, record { at = part.begin; tail = part.tail; after = omega arith; inside = omega arith }))
part-start kinds.Young s k from size next end hole =
    let part = hole.part.1 in
    let starts : next ≡ max part.begin from = part.starts in
    let ends : end ≡ 4096 = part.ends in
    let room = hole.room in
    (omega arith, (hole.part.0, record { at = part.begin; tail = part.tail; after = omega arith; inside = omega arith }))
part-start kinds.Cells s k from size next end hole = (hole.part.1.after, (hole.part.0, hole.part.1.cell, hole.part.1.class))
part-start kinds.Immix s k from size next end hole =
    let part = hole.part.1 in
    let starts : next ≡ 16 * max part.line (lines_for from) = part.starts in
    let ends : end ≡ 16 * (part.line + part.len) = part.ends in
    let room = hole.room in
    (omega arith, (hole.part.0, record { line = part.line; len = part.len; hole = part.hole; after = omega arith; inside = omega arith }))
part-start kinds.Free s k from size next end hole = absurd hole.part
part-start kinds.Mature s k from size next end hole = absurd hole.part
part-start kinds.LargeHead s k from size next end hole = absurd hole.part
part-start kinds.LargeTail s k from size next end hole = absurd hole.part
part-start kinds.Kept s k from size next end hole = absurd hole.part

-- unless the block has cells, any range of words within a part lies in the hole
pub part-within : (fill : Kind) (s : HeapState) (k from size next end at n : ℕ) → IsHolePart fill s k from size next end → fill ≢ kinds.Cells → next ≤ at → at + n ≤ end → LiesInHole fill s k at n
part-within kinds.Bump s k from size next end at n part other past within =
    let starts : next ≡ max part.1.begin from = part.1.starts in
    let ends : end ≡ 4096 = part.1.ends in
    (part.0, record { at = part.1.begin; tail = part.1.tail; after = omega arith; inside = omega arith })
part-within kinds.Young s k from size next end at n part other past within =
    let starts : next ≡ max part.1.begin from = part.1.starts in
    let ends : end ≡ 4096 = part.1.ends in
    (part.0, record { at = part.1.begin; tail = part.1.tail; after = omega arith; inside = omega arith })
part-within kinds.Cells s k from size next end at n part other past within = absurd (other refl)
part-within kinds.Immix s k from size next end at n part other past within =
    let starts : next ≡ 16 * max part.1.line (lines_for from) = part.1.starts in
    let ends : end ≡ 16 * (part.1.line + part.1.len) = part.1.ends in
    (part.0, record { line = part.1.line; len = part.1.len; hole = part.1.hole; after = omega arith; inside = omega arith })
part-within kinds.Free s k from size next end at n part other past within = absurd part
part-within kinds.Mature s k from size next end at n part other past within = absurd part
part-within kinds.LargeHead s k from size next end at n part other past within = absurd part
part-within kinds.LargeTail s k from size next end at n part other past within = absurd part
part-within kinds.Kept s k from size next end at n part other past within = absurd part

clear-of : (fill : Kind) (s : HeapState) (k from size next end a i : ℕ) → IsWellFormed s → LineBitsAreExact s k → IsHolePart fill s k from size next end → fill ≢ kinds.Cells → IsHeld s a → IsInExtent s a i
    → block_at s.blocks i ≡ k → next ≤ offset_at s.blocks i → offset_at s.blocks i < end → ⊥
clear-of fill s k from size next end a i order right part other holds inside here past below =
    hole-clear fill s k next (end - next) a i order right (part-within fill s k from size next end next (end - next) part other (omega arith) (omega arith)) holds inside here past (omega arith)

-- no word of a held object is in a part
pub part-clear : (fill : Kind) (s : HeapState) (k from size next end a i : ℕ) → IsWellFormed s → LineBitsAreExact s k → IsHolePart fill s k from size next end → IsHeld s a → IsInExtent s a i
    → block_at s.blocks i ≡ k → next ≤ offset_at s.blocks i → offset_at s.blocks i < end → ⊥
part-clear kinds.Cells s k from size next end a i order right part holds inside here past below =
    cell-clear s order k kinds.Cells part.0 (λ e. omega arith) (λ e. omega arith) a i holds inside here next part.0 part.1.cell past
    (let ends : end ≡ next + cell_words (class_at s k) = part.1.ends in omega arith)
part-clear kinds.Bump s k from size next end a i order right part holds inside here past below = clear-of kinds.Bump s k from size next end a i order right part (λ e. cc) holds inside here past below
part-clear kinds.Young s k from size next end a i order right part holds inside here past below = clear-of kinds.Young s k from size next end a i order right part (λ e. cc) holds inside here past below
part-clear kinds.Immix s k from size next end a i order right part holds inside here past below = clear-of kinds.Immix s k from size next end a i order right part (λ e. cc) holds inside here past below
part-clear kinds.Free s k from size next end a i order right part holds inside here past below = absurd part
part-clear kinds.Mature s k from size next end a i order right part holds inside here past below = absurd part
part-clear kinds.LargeHead s k from size next end a i order right part holds inside here past below = absurd part
part-clear kinds.LargeTail s k from size next end a i order right part holds inside here past below = absurd part
part-clear kinds.Kept s k from size next end a i order right part holds inside here past below = absurd part
