-- Which collections may be made of a heap, and how one fills blocks.
use Rattle.std.specs.Prelude.{◌≡◌, ◌≢◌, ℕ, ◌+◌, ◌/◌, ◌<◌, ◌≤◌, ◌⊎◌, ◌||◌, Bool, true, false, IsTrue, List, [], ◌∷◌}
use Rattle.heap_layout.specs.Zones.{block_at, block_start}
use Rattle.heap_layout.specs.declared.layout.TheConstants.{BLOCK_WORDS}
use Rattle.heap_layout.specs.declared.block.Kind.TheVariants as kinds
use Rattle.object_model.specs.declared.collect.Collect.{Collect}
use Rattle.object_model.specs.declared.collect.Collect.TheVariants.{Nursery}
use Rattle.object_model.specs.Ages.{RemembersYoung}
use Rattle.object_model.specs.declared.shape.TheConstants.{MAX_MEDIUM_WORDS}
use Rattle.object_model.specs.Counting.{kind_count}
use Rattle.object_model.specs.Objects.{HeapState, has_kind, HasKind, IsInExtentOf, size_at}
use Rattle.sessions.specs.Plans.{Rules, Copies}
use Rattle.sessions.specs.Fitting.{used_of}
use Rattle.sessions.specs.Collecting.{CollectsIf, is_evacuated}
use Rattle.object_model.specs.Times.{times}
use Rattle.collector.specs.declared.outcome.Note.{Note}

-- A collection of this kind may be made of this heap under these rules: a full one of any heap, a
-- nursery one under rules with young objects, after a full one, if the heap remembers its young
-- objects.
pub record IsOffered (r : Rules) (c : Collect) (s : HeapState) : Type 0 where
  pub young : c ≡ Nursery → IsTrue r.young
  pub base : c ≡ Nursery → 0 < s.base
  pub remembers : c ≡ Nursery → RemembersYoung s

-- The word at this address belongs to an object that moved.
abbrev pub IsCopiedAt : HeapState → (ℕ → ℕ) → ℕ → Type 0
IsCopiedAt old target i = (a : ℕ) × (0 < target a) × (target a ≢ a)
    × IsInExtentOf (target a) (size_at old a) i

-- Block b was left for an object that did not fit behind the copies in it, and that came first in
-- block `next`.
pub record IsLeftForNext (old : HeapState) (target : ℕ → ℕ) (b next : ℕ) : Type 0 where
  pub words : ℕ
  pub copied : (o : ℕ) → o < words → IsCopiedAt old target (block_start old.blocks b + o)
  pub object : ℕ
  pub first : target object ≡ block_start old.blocks next
  pub no_room : BLOCK_WORDS < words + size_at old object

-- These blocks, the last one first, were taken in rising order, and each but the last was left for
-- the first object of the next one.
abbrev pub AreFilledInTurn : HeapState → (ℕ → ℕ) → List ℕ → Type 0
AreFilledInTurn old target [] = Unit {0}
AreFilledInTurn old target (b ∷ []) = Unit {0}
AreFilledInTurn old target (next ∷ b ∷ earlier) = (b < next) × IsLeftForNext old target b next
    × AreFilledInTurn old target (b ∷ earlier)

-- How the worker of a collection fills blocks with the objects that move. It takes a block only for
-- an object that does not fit the last one, and then the lowest Free one that is left.
pub record FillsInTurn (old : HeapState) (target : ℕ → ℕ) : Type 0 where
  -- the blocks that it took, the last one first
  pub taken : List ℕ
  pub free : (b : ℕ) → 0 < times b taken → HasKind old b kinds.Free
  pub copies : (a : ℕ) → 0 < target a → target a ≢ a
      → 0 < times (block_at old.blocks (target a)) taken
  pub lowest : (b c : ℕ) → 0 < times b taken → c < b → HasKind old c kinds.Free → 0 < times c taken
  pub turns : AreFilledInTurn old target taken

-- how a collection by one worker fills blocks; of more workers nothing is said, and one that
-- reclaims nothing fills none
abbrev pub FillsIf : (collects : Bool) (r : Rules) (w : ℕ) (c : Collect) (s : HeapState)
    (roots : List ℕ)
    (new : HeapState) (roots' : List ℕ) → CollectsIf collects r w c s roots new roots' → Type 0
FillsIf true r w c s roots new roots' made = w ≡ 1 → FillsInTurn s made.target
FillsIf false r w c s roots new roots' made = Unit {0}

-- each block of the heap is Free, of a large object, or evacuated
abbrev pub EvacuatesAll : Rules → Collect → HeapState → Type 0
EvacuatesAll r c s = (k : ℕ) → k < s.blocks → HasKind s k kinds.Free
    ⊎ (IsTrue (has_kind s k kinds.LargeHead || has_kind s k kinds.LargeTail)
    ⊎ IsTrue (is_evacuated r c s k))

-- If each block of the old heap was Free, large or evacuated, under a plan that holds back copies,
-- then the blocks in use, large ones not counted, are at most one for each MAX_MEDIUM_WORDS words
-- kept, one for each worker, and the Kept ones.
abbrev pub LeavesFewBlocks : Rules → ℕ → Collect → HeapState → HeapState → Note → Type 0
LeavesFewBlocks r w c old new note = r.reserve ≡ Copies → EvacuatesAll r c old
    → used_of new ≤ note.kept_words / MAX_MEDIUM_WORDS + w + kind_count new kinds.Kept
