-- A block of a mutator that fills lines lacks room still, after births, and after other blocks were taken.
use Rattle.std.proofs.Common.{◌≡◌, refl, sym, subst, ℕ, ◌≤◌, arith}
use Rattle.std.specs.Prelude.{Some}
use Rattle.heap_layout.specs.declared.block.Kind.TheVariants as kinds
use Rattle.heap_layout.specs.declared.region.Region.{Region}
use Rattle.object_model.specs.Objects.{HeapState, HasKind}
use Rattle.plan_api.specs.Cursors.{RegionHasRoom}
use Rattle.plan_api.specs.Holes.{HasRoomFrom, IsFirstPart}
use Rattle.local_allocators.specs.MutatorRegions.{MutatorRegions, LacksLines}
use Rattle.block_regions.proofs.BlockFrames.{SameLines}
use Rattle.block_regions.proofs.LineRegions.{line-hole-as}

-- a region that ends where it did, and begins there or later, has room only where it had
room-back : (q r : Region) (n : ℕ) → r.end ≡ q.end → q.next ≤ r.next → RegionHasRoom r n → RegionHasRoom q n
room-back q r n same later room = omega arith

-- a part of a hole of lines was one
pub part-back : (s t : HeapState) (k from size next end : ℕ) → (HasKind t k kinds.Immix → HasKind s k kinds.Immix) → SameLines s t k
    → HasRoomFrom kinds.Immix t k from size next end → HasRoomFrom kinds.Immix s k from size next end
part-back s t k from size next end kind same has = record {
  part = (
    kind has.part.0,
    record {
      line = has.part.1.line;
      len = has.part.1.len;
      hole = line-hole-as t s k has.part.1.line has.part.1.len (λ line few. sym (same line few)) has.part.1.hole;
      starts = has.part.1.starts;
      ends = has.part.1.ends;
    },
  );
  room = has.room;
}

pub first-back : (s t : HeapState) (k from size : ℕ) (r : Region) → (HasKind t k kinds.Immix → HasKind s k kinds.Immix) → (HasKind s k kinds.Immix → HasKind t k kinds.Immix)
    → SameLines s t k → IsFirstPart kinds.Immix t k from size r → IsFirstPart kinds.Immix s k from size r
first-back s t k from size r kind again same is = record {
  hole = part-back s t k from size r.next r.end kind same is.hole;
  first = λ next end has. is.first next end (part-back t s k from size next end again (λ line few. sym (same line few)) has);
}

-- what is left of a block after the mutator made steps: no more than before, with the same end
pub record Shrinks (q r : Region) : Type 0 where
  pub end : r.end ≡ q.end
  pub later : q.next ≤ r.next

pub same-shrinks : (q r : Region) → r ≡ q → Shrinks q r
same-shrinks q r same = subst (λ (x : Region). Shrinks q x) (sym same) (record { end = refl; later = omega arith })

pub lines-lack-still : (old new : MutatorRegions) (s t : HeapState) (size k : ℕ)
    → (new.blocks 0 ≡ Some k → old.blocks 0 ≡ Some k) → (new.over ≡ Some k → old.over ≡ Some k)
    → Shrinks (old.left (Some k)) (new.left (Some k)) → (HasKind t k kinds.Immix → HasKind s k kinds.Immix)
    → (new.blocks 0 ≡ Some k → SameLines s t k) → LacksLines old s size k → LacksLines new t size k
lines-lack-still old new s t size k hole over shrinks kind same lacks = record {
  region = λ is room. lacks.region (hole is) (room-back (old.left (Some k)) (new.left (Some k)) size shrinks.end shrinks.later room);
  later = λ is next end has. lacks.later (hole is) next end
      (part-back s t k (old.left (Some k)).end size next end kind (same is)
      (subst (λ (from : ℕ). HasRoomFrom kinds.Immix t k from size next end) shrinks.end has));
  over = λ is above room. lacks.over (over is) above (room-back (old.left (Some k)) (new.left (Some k)) size shrinks.end shrinks.later room);
}
