-- Collections: which one is made, which blocks it evacuates, and the heap after it.
use Rattle.std.specs.Prelude.{◌≡◌, ◌≢◌, ℕ, ◌+◌, ◌*◌, ◌-◌, ◌<◌, ◌≤◌, ◌⊎◌, ◌↔◌, Bool, true, false, ◌&&◌, ◌||◌, not}
use Rattle.std.specs.Prelude.{IsTrue, nat_eq, nat_lt, nat_le, if◌then◌else◌, List, count_by, sum_by, slice_index}
use Rattle.std.specs.List.{range_with_len, list_any}
use Rattle.heap_layout.specs.Zones.{block_at, block_start}
use Rattle.heap_layout.specs.declared.block.Kind.TheVariants as kinds
use Rattle.object_model.specs.declared.collect.Collect.{Collect}
use Rattle.object_model.specs.declared.collect.Collect.TheVariants.{Nursery, Full}
use Rattle.object_model.specs.Objects.{HeapState, has_kind, HasKind, line_marked, is_start, is_unlogged, IsHeld}
use Rattle.object_model.specs.Objects.{is_reference, IsInExtent, number_at, refs_at, ref_at, global_at, block_word}
use Rattle.object_model.specs.Objects.{block_count}
use Rattle.object_model.specs.Graphs.{IsReachable}
use Rattle.object_model.specs.Ages.{is_old, is_logged, RemembersYoung}
use Rattle.object_model.specs.Preserving.{may_leave, PreservesObjects}
use Rattle.sessions.specs.Plans.{Rules, Reserve, Nothing, Copies, Headroom}
use Rattle.sessions.specs.Fitting.{free_of, used_of}
use Rattle.heap_layout.specs.declared.layout.TheConstants.{BLOCK_LINES, BLOCK_WORDS, GLOBALS}

-- Whether an object is old or logged under a plan. Under a plan without young objects none is.
abbrev pub is_old_under : Rules → HeapState → ℕ → Bool
is_old_under r s a = r.young && is_old s a

abbrev pub is_logged_under : Rules → HeapState → ℕ → Bool
is_logged_under r s a = r.young && is_logged s a

-- The heap remembers its young objects, if the plan has any.
abbrev pub Remembers : Rules → HeapState → Type 0
Remembers r s = IsTrue r.young → RemembersYoung s

-- an object that is not old under the plan begins in block k
abbrev pub has_young : Rules → HeapState → ℕ → Bool
has_young r s k = list_any (λ w. is_start s (block_start s.blocks k + w)
    && not (is_old_under r s (block_start s.blocks k + w))) (range_with_len 0 BLOCK_WORDS)

-- the number of blocks in which young objects begin, heads of large objects not counted
abbrev pub young_blocks : Rules → HeapState → ℕ
young_blocks r s = block_count s (λ k. has_young r s k && not (has_kind s k kinds.LargeHead))

-- The collection to try first: a nursery collection if and only if the plan has young objects, a
-- full collection was made, some object is young, and at least a quarter of the blocks in use have
-- young objects, large ones not counted.
abbrev pub first_collection : Rules → HeapState → Collect
first_collection r s =
    if r.young && nat_lt 0 s.base && list_any (has_young r s) (range_with_len 0 s.blocks)
    && nat_le (used_of s) (4 * young_blocks r s) then Nursery else Full

-- a hole of block k begins at this line
abbrev pub is_hole_start : HeapState → ℕ → ℕ → Bool
is_hole_start s k line = not (line_marked s k line) && (nat_eq line 0 || line_marked s k (line - 1))

-- the number of holes of a block
abbrev pub holes_in : HeapState → ℕ → ℕ
holes_in s k = count_by (is_hole_start s k) (range_with_len 0 BLOCK_LINES)

-- the number of marked lines of a block
abbrev pub marked_in : HeapState → ℕ → ℕ
marked_in s k = count_by (line_marked s k) (range_with_len 0 BLOCK_LINES)

-- an Immix block with a marked line and a clear one
abbrev pub is_recyclable : HeapState → ℕ → Bool
is_recyclable s k = has_kind s k kinds.Immix && nat_lt 0 (marked_in s k)
    && nat_lt (marked_in s k) BLOCK_LINES

-- block j is k or is evacuated before k: it has more holes, or as many and no higher number
abbrev pub is_by : HeapState → ℕ → ℕ → Bool
is_by s k j = nat_lt (holes_in s k) (holes_in s j)
    || (nat_eq (holes_in s k) (holes_in s j) && nat_le j k)

-- A recyclable block is a candidate if it and the recyclable blocks before it in that order have,
-- together, no more marked lines than the Free blocks have lines (defragmentation of Immix).
abbrev pub is_candidate : HeapState → ℕ → Bool
is_candidate s k = is_recyclable s k
    && nat_le
    (sum_by (λ j. if is_recyclable s j && is_by s k j then marked_in s j else 0)
    (range_with_len 0 s.blocks))
    (BLOCK_LINES * free_of s)

-- a copying plan evacuates the blocks that mutators fill; a full collection also Kept ones and
-- those that workers fill
abbrev pub is_copied_out : Rules → Collect → HeapState → ℕ → Bool
is_copied_out r Full s k = has_kind s k r.fill || has_kind s k r.copy || has_kind s k kinds.Kept
is_copied_out r Nursery s k = r.young && has_kind s k r.fill

-- a plan with lines evacuates the candidates, and only in a full collection
abbrev pub is_defragmented : Collect → HeapState → ℕ → Bool
is_defragmented Full s k = is_candidate s k
is_defragmented Nursery s k = false

-- block k is to be evacuated under this reserve
abbrev pub is_evacuated_by : Reserve → Rules → Collect → HeapState → ℕ → Bool
is_evacuated_by Nothing r c s k = false
is_evacuated_by Copies r c s k = is_copied_out r c s k
is_evacuated_by Headroom r c s k = is_defragmented c s k

-- block k is to be evacuated under these rules
abbrev pub is_evacuated : Rules → Collect → HeapState → ℕ → Bool
is_evacuated r c s k = is_evacuated_by r.reserve r c s k

-- the object may move: the plan moves objects, and the object may leave the blocks to evacuate
abbrev pub may_move : Rules → Collect → HeapState → ℕ → Bool
may_move r c s a = r.moves && may_leave (is_evacuated r c s) s a

-- the objects that a nursery collection preserves: all old ones, and all reachable from a root, a
-- global or an old one
pub data IsNurseryReachable (r : Rules) (s : HeapState) (roots : List ℕ) : ℕ → Type 0 where
  is_root : (i : ℕ) {a : ℕ} → slice_index roots i ≡ a → 0 < a → IsNurseryReachable r s roots a
  is_global : (g : ℕ) {a : ℕ} → g < GLOBALS → global_at s g ≡ a → 0 < a
      → IsNurseryReachable r s roots a
  was_old : {a : ℕ} → IsHeld s a → IsTrue (is_old_under r s a) → IsNurseryReachable r s roots a
  is_field : (x i : ℕ) {a : ℕ} → IsNurseryReachable r s roots x → i < refs_at s x
      → ref_at s x i ≡ a → IsTrue (is_reference a) → IsNurseryReachable r s roots a

-- A full collection preserves exactly the reachable objects, a nursery collection exactly those of
-- IsNurseryReachable. target gives the new address of each preserved object, and 0 for all others.
abbrev pub IsPrecise : Rules → Collect → HeapState → List ℕ → (ℕ → ℕ) → Type 0
IsPrecise r Full old roots target = (a : ℕ) → (0 < target a) ↔ IsReachable old roots a
IsPrecise r Nursery old roots target = (a : ℕ) → (0 < target a) ↔ IsNurseryReachable r old roots a

-- the base: the number of the last full collection that reclaimed
abbrev pub base_after : Collect → ℕ → ℕ → ℕ
base_after Full number base = number
base_after Nursery number base = base

-- no word of a held object lies in block k
abbrev pub IsEmptied : HeapState → ℕ → Type 0
IsEmptied s k = (a i : ℕ) → IsHeld s a → IsInExtent s a i → block_at s.blocks i ≢ k

-- Block k after a collection. A block without held objects is Free. Of the others, one that was
-- Free has the kind that workers fill, an evacuated one that is not of kind Immix is Kept, and the
-- block words of the rest are unchanged.
pub record BlockAfter (r : Rules) (c : Collect) (old new : HeapState) (k : ℕ) : Type 0 where
  pub emptied : IsEmptied new k → HasKind new k kinds.Free
  pub taken : (IsEmptied new k → ⊥) → HasKind old k kinds.Free → HasKind new k r.copy
  pub kept : (IsEmptied new k → ⊥) → IsTrue (is_evacuated r c old k)
      → (HasKind old k kinds.Immix → ⊥)
      → (HasKind old k kinds.Free → ⊥) → HasKind new k kinds.Kept
  pub others : (IsEmptied new k → ⊥) → (HasKind old k kinds.Free → ⊥)
      → (IsTrue (is_evacuated r c old k) → HasKind old k kinds.Immix)
      → block_word new k ≡ block_word old k

-- the number of blocks that are Free before and after
abbrev pub still_free : HeapState → HeapState → ℕ
still_free old new = block_count old (λ k. has_kind old k kinds.Free && has_kind new k kinds.Free)

-- a collection under a plan that reclaims
pub record Collects (r : Rules) (workers : ℕ) (c : Collect) (old : HeapState) (roots : List ℕ)
    (new : HeapState)
    (roots' : List ℕ) : Type 0 where
  pub target : ℕ → ℕ
  pub kept : PreservesObjects (may_move r c old) old roots (IsHeld new) new roots' target
  pub precise : IsPrecise r c old roots target
  pub ages : (a : ℕ) → IsHeld new a → IsTrue r.young → IsTrue (is_old_under r new a)
  pub block : (k : ℕ) → k < old.blocks → BlockAfter r c old new k
  pub logged : (a : ℕ) → IsTrue (is_logged_under r new a) → ⊥
  -- each object's unlog bit is set, under any plan
  pub unlogged : (a : ℕ) → IsHeld new a → IsTrue (is_unlogged new a)
  -- A full collection claims each object that it keeps, and leaves its number in it. So does a
  -- nursery collection with young objects. Old ones stay in place, with the number that they had.
  pub numbers : c ≡ Full → (a : ℕ) → IsHeld new a → number_at new a ≡ new.number
  pub claimed : c ≡ Nursery → (a : ℕ) → 0 < target a → is_old_under r old a ≡ false
      → number_at new (target a) ≡ new.number
  pub stays : c ≡ Nursery → (a : ℕ) → 0 < target a → IsTrue (is_old_under r old a)
      → (target a ≡ a) × (number_at new a ≡ number_at old a)
  pub number : new.number ≡ old.number + 1
  pub base : new.base ≡ base_after c new.number old.base
  pub layout : new.blocks ≡ old.blocks
  -- In a full collection a movable object, and in a nursery collection a movable young one, stays
  -- in place only if no more blocks than there are workers are Free before and after.
  pub moved : (a : ℕ) → 0 < target a → (c ≡ Full) ⊎ (is_old_under r old a ≡ false)
      → IsTrue (may_move r c old a)
      → target a ≡ a → still_free old new ≤ workers

-- under a plan that does not reclaim, a full collection increments the collection number and does
-- nothing else
pub record OnlyCounts (c : Collect) (old : HeapState) (roots : List ℕ) (new : HeapState)
    (roots' : List ℕ) : Type 0 where
  pub full : c ≡ Full
  pub heap : new ≡ record old { number = old.number + 1 }
  pub registers : roots' ≡ roots

-- what a collection does, by whether the plan reclaims
abbrev pub CollectsIf : Bool → Rules → ℕ → Collect → HeapState → List ℕ → HeapState
    → List ℕ → Type 0
CollectsIf true r workers c old roots new roots' = Collects r workers c old roots new roots'
CollectsIf false r workers c old roots new roots' = OnlyCounts c old roots new roots'

-- a collection under the rules of a plan
abbrev pub IsCollection : Rules → ℕ → Collect → HeapState → List ℕ → HeapState → List ℕ → Type 0
IsCollection r = CollectsIf r.collects r
