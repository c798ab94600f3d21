-- Heaps that are not a worked heap after a collection.
use Rattle.std.proofs.Common.{◌≡◌, refl, sym, ◌∙◌, ap, subst, ℕ, ◌<◌, ◌≤◌, inl, inr, arith, true, false, List, [], ◌∷◌, ◌++◌, lit<, slice_index}
use Rattle.std.proofs.lemmas.Bool.{false≢true}
use Rattle.heap_layout.specs.declared.block.Kind.TheVariants as kinds
use Rattle.object_model.specs.declared.collect.Collect.{Collect}
use Rattle.object_model.specs.declared.collect.Collect.TheVariants.{Nursery, Full}
use Rattle.object_model.specs.Objects.{HeapState, is_start, IsHeld, number_at, ref_at}
use Rattle.object_model.specs.Graphs as graphs
use Rattle.object_model.specs.WorkedHeaps.{plain_object}
use Rattle.object_model.specs.Graphs.{IsReachable}
use Rattle.sessions.specs.Plans.{MarkSweep, SemiSpace, GenCopy, Immix, StickyImmix, Rules, rules_of}
use Rattle.sessions.specs.Collecting as collecting
use Rattle.sessions.specs.Collecting.{Collects, IsNurseryReachable, IsEmptied, may_move}
use Rattle.sessions.specs.WorkedCollections.{heap_before, heap_left, unlogged_after, roots_before, roots_moved, left_in_place, moved_out, first_one, second_one, pinned_one, lonely_one, old_one, remembered_ones, four_kinds, cells_left, run_heap}
use Rattle.sessions.proofs.WorkedCollecting.{held-from, emptied-from, not-emptied}
use Rattle.sessions.proofs.CollectionsOfPlans.{mark-sweep, nursery-sticky-immix}

-- a preserved object that may not move has its start bit afterwards
stands : {r : Rules} {workers : ℕ} {c : Collect} {old new : HeapState} {roots after : List ℕ} (k : Collects r workers c old roots new after) (a : ℕ) → 0 < k.target a → may_move r c old a ≡ false → is_start new a ≡ true
stands {new = new} k a some still = (subst (λ (v : ℕ). IsHeld new v) (k.kept.stays a some still) (k.kept.there a some)).start

-- if the second root is at 806, the second root afterwards is its target
root-goes : {r : Rules} {workers : ℕ} {c : Collect} {old new : HeapState} {after : List ℕ} (k : Collects r workers c old roots_before new after) → slice_index after 1 ≡ k.target 806
root-goes k = ap (λ (l : List ℕ). slice_index l 1) k.kept.registers

abbrev cells : HeapState
cells = heap_before kinds.Cells kinds.Cells 1

abbrev bump : HeapState
bump = heap_before kinds.Bump kinds.Bump 0

abbrev young : HeapState
young = heap_before kinds.Young kinds.Mature 0

abbrev immix : HeapState
immix = heap_before kinds.Immix kinds.Immix 0

-- objects

abbrev dead-kept-heap : HeapState
dead-kept-heap = heap_left cells_left (left_in_place ++ lonely_one ∷ []) 818 4

pub dead-kept : Collects (rules_of MarkSweep) 1 Full cells roots_before dead-kept-heap roots_before → ⊥
dead-kept k =
    let from = k.kept.onto 824 (held-from dead-kept-heap 824 refl) in
    let same : from.0 ≡ 824 = sym (k.kept.stays from.0 from.1 refl) ∙ from.2 in
    let live : IsReachable cells roots_before 824 = subst (IsReachable cells roots_before) same ((k.precise from.0).0 from.1) in
    false≢true (stands mark-sweep 824 (mark-sweep.kept.reached 824 live) refl)

abbrev live-lost-heap : HeapState
live-lost-heap = heap_left cells_left (first_one 0 (812 ∷ 818 ∷ []) 4 ∷ pinned_one ∷ []) 818 4

pub live-lost : Collects (rules_of MarkSweep) 1 Full cells roots_before live-lost-heap roots_before → ⊥
live-lost k =
    false≢true (stands k 818 (k.kept.reached 818 (graphs.from_global 0 (lit< tt) refl (lit< tt))) refl)

abbrev pinned-moved-heap : HeapState
pinned-moved-heap = heap_left (four_kinds kinds.Free kinds.Free kinds.Bump kinds.Free) (first_one 2 (9010 ∷ 9004 ∷ []) 4 ∷ record pinned_one { block = 2; offset = 12 } ∷ second_one 2 6 8998 ∷ []) 9004 4

pub pinned-moved : Collects (rules_of SemiSpace) 1 Full bump roots_before pinned-moved-heap roots_moved → ⊥
pinned-moved k =
    false≢true (stands k 812 (k.kept.reached 812 (graphs.from_field 806 0 (graphs.from_root 1 refl (lit< tt)) (lit< tt) refl refl)) refl)

abbrev field-left-heap : HeapState
field-left-heap = heap_left (four_kinds kinds.Kept kinds.Free kinds.Bump kinds.Free) (first_one 2 (812 ∷ 818 ∷ []) 4 ∷ pinned_one ∷ second_one 2 6 8998 ∷ []) 9004 4

pub field-left : Collects (rules_of SemiSpace) 1 Full bump roots_before field-left-heap roots_moved → ⊥
field-left k =
    let first : 8998 ≡ k.target 806 = root-goes k in
    let second : 9004 ≡ k.target 818 = k.kept.globals 0 (lit< tt) in
    let some : 0 < k.target 806 = omega (arith, first) in
    let field : 818 ≡ k.target 818 = subst (λ (v : ℕ). ref_at field-left-heap v 1 ≡ k.target 818) (sym first) (k.kept.fields 806 1 some (lit< tt)) in
    omega (arith, second, field)

abbrev root-left-heap : HeapState
root-left-heap = heap_left (four_kinds kinds.Kept kinds.Free kinds.Bump kinds.Free) moved_out 9004 4

pub root-left : Collects (rules_of SemiSpace) 1 Full bump roots_before root-left-heap roots_before → ⊥
root-left k =
    let first : 806 ≡ k.target 806 = root-goes k in
    false≢true (subst (λ (v : ℕ). IsHeld root-left-heap v) (sym first) (k.kept.there 806 (omega (arith, first)))).start

-- objects in place

abbrev one-worker-heap : HeapState
one-worker-heap = heap_left (four_kinds kinds.Kept kinds.Free kinds.Free kinds.Free) left_in_place 818 4

pub one-worker : Collects (rules_of SemiSpace) 1 Full bump roots_before one-worker-heap roots_before → ⊥
one-worker k =
    let first : 806 ≡ k.target 806 = root-goes k in
    let few : 2 ≤ 1 = k.moved 806 (omega (arith, first)) (inl refl) refl (sym first) in
    omega (arith, few)

abbrev young-in-place-heap : HeapState
young-in-place-heap = heap_left (four_kinds kinds.Kept kinds.Mature kinds.Free kinds.Free) (left_in_place ++ remembered_ones 0 24 830) 818 2

pub young-in-place : Collects (rules_of GenCopy) 1 Nursery young roots_before young-in-place-heap roots_before → ⊥
young-in-place k =
    let first : 806 ≡ k.target 806 = root-goes k in
    let few : 2 ≤ 1 = k.moved 806 (omega (arith, first)) (inr refl) refl (sym first) in
    omega (arith, few)

abbrev old-in-full-heap : HeapState
old-in-full-heap = heap_left (four_kinds kinds.Kept kinds.Kept kinds.Mature kinds.Free) (moved_out ++ plain_object 2 12 5 [] 3 4 ∷ plain_object 1 0 6 (9010 ∷ 0 ∷ []) 1 4 ∷ []) 9004 4

pub old-in-full : Collects (rules_of GenCopy) 0 Full young (0 ∷ 4902 ∷ []) old-in-full-heap (0 ∷ 4902 ∷ []) → ⊥
old-in-full k =
    let first : 4902 ≡ k.target 4902 = ap (λ (l : List ℕ). slice_index l 1) k.kept.registers in
    let few : 1 ≤ 0 = k.moved 4902 (omega (arith, first)) (inl refl) refl (sym first) in
    omega (arith, few)

-- blocks

abbrev emptied-left-heap : HeapState
emptied-left-heap = heap_left (four_kinds kinds.Kept kinds.Bump kinds.Bump kinds.Free) moved_out 9004 4

pub emptied-left : Collects (rules_of SemiSpace) 1 Full bump roots_before emptied-left-heap roots_moved → ⊥
emptied-left k =
    false≢true ((k.block 1 (lit< tt)).emptied (emptied-from emptied-left-heap 1 refl))

abbrev taken-young-heap : HeapState
taken-young-heap = heap_left (four_kinds kinds.Kept kinds.Free kinds.Young kinds.Free) moved_out 9004 4

pub taken-young : Collects (rules_of GenCopy) 1 Full young roots_before taken-young-heap roots_moved → ⊥
taken-young k =
    false≢true ((k.block 2 (lit< tt)).taken (not-emptied taken-young-heap 2 8998 (held-from taken-young-heap 8998 refl) refl) refl)

abbrev evacuated-left-heap : HeapState
evacuated-left-heap = heap_left (four_kinds kinds.Bump kinds.Free kinds.Bump kinds.Free) moved_out 9004 4

pub evacuated-left : Collects (rules_of SemiSpace) 1 Full bump roots_before evacuated-left-heap roots_moved → ⊥
evacuated-left k =
    false≢true ((k.block 0 (lit< tt)).kept (not-emptied evacuated-left-heap 0 812 (held-from evacuated-left-heap 812 refl) refl) refl (λ is. false≢true is) (λ is. false≢true is))

abbrev lines-kept-heap : HeapState
lines-kept-heap = heap_left (four_kinds kinds.Kept kinds.Free kinds.Immix kinds.Free) moved_out 9004 4

pub lines-kept : Collects (rules_of Immix) 1 Full immix roots_before lines-kept-heap roots_moved → ⊥
lines-kept k =
    let same : 8 ≡ 4 = (k.block 0 (lit< tt)).others (not-emptied lines-kept-heap 0 812 (held-from lines-kept-heap 812 refl) refl) (λ is. false≢true is) (λ is. refl) in
    omega (arith, same)

abbrev class-changed-heap : HeapState
class-changed-heap = heap_left (four_kinds kinds.Cells kinds.Free kinds.Free kinds.Free) left_in_place 818 4

pub class-changed : Collects (rules_of MarkSweep) 1 Full cells roots_before class-changed-heap roots_before → ⊥
class-changed k =
    let same : 5 ≡ 261 = (k.block 0 (lit< tt)).others (not-emptied class-changed-heap 0 806 (held-from class-changed-heap 806 refl) refl) (λ is. false≢true is) (λ is. absurd (false≢true is)) in
    omega (arith, same)

-- the last word of a run lies in its second block, or there is none
pub crossed : IsEmptied (run_heap 4097) 1 → ⊥
crossed = not-emptied (run_heap 4097) 1 806 (held-from (run_heap 4097) 806 refl) refl

pub not-crossed : IsEmptied (run_heap 4096) 1
not-crossed = emptied-from (run_heap 4096) 1 refl

-- ages

abbrev young-left-heap : HeapState
young-left-heap = heap_left (four_kinds kinds.Kept kinds.Free kinds.Mature kinds.Free) (first_one 2 (812 ∷ 9004 ∷ []) 3 ∷ pinned_one ∷ second_one 2 6 8998 ∷ []) 9004 4

pub young-left : Collects (rules_of GenCopy) 1 Full young roots_before young-left-heap roots_moved → ⊥
young-left k =
    false≢true (k.ages 8998 (held-from young-left-heap 8998 refl) refl)

abbrev logged-left-heap : HeapState
logged-left-heap = unlogged_after false (four_kinds kinds.Kept kinds.Free kinds.Mature kinds.Free) moved_out 9004 4

pub logged-left : Collects (rules_of GenCopy) 1 Full young roots_before logged-left-heap roots_moved → ⊥
logged-left k =
    k.logged 8998 refl

abbrev bits-clear-heap : HeapState
bits-clear-heap = unlogged_after false (four_kinds kinds.Kept kinds.Free kinds.Bump kinds.Free) moved_out 9004 4

pub bits-clear : Collects (rules_of SemiSpace) 1 Full bump roots_before bits-clear-heap roots_moved → ⊥
bits-clear k =
    false≢true (k.unlogged 8998 (held-from bits-clear-heap 8998 refl))

abbrev number-left-heap : HeapState
number-left-heap = heap_left (four_kinds kinds.Kept kinds.Free kinds.Bump kinds.Free) (first_one 2 (812 ∷ 9004 ∷ []) 3 ∷ pinned_one ∷ second_one 2 6 8998 ∷ []) 9004 4

pub number-left : Collects (rules_of SemiSpace) 1 Full bump roots_before number-left-heap roots_moved → ⊥
number-left k =
    let same : 3 ≡ 4 = k.numbers refl 8998 (held-from number-left-heap 8998 refl) in
    omega (arith, same)

-- nursery collections

abbrev old-lost-heap : HeapState
old-lost-heap = heap_left (four_kinds kinds.Immix kinds.Free kinds.Free kinds.Free) left_in_place 818 2

pub old-lost : Collects (rules_of StickyImmix) 1 Nursery immix roots_before old-lost-heap roots_before → ⊥
old-lost k =
    false≢true (stands k 4902 ((k.precise 4902).1 (collecting.was_old (held-from immix 4902 refl) refl)) refl)

abbrev remembered-lost-heap : HeapState
remembered-lost-heap = heap_left (four_kinds kinds.Immix kinds.Immix kinds.Free kinds.Free) (left_in_place ++ old_one 830 ∷ []) 818 2

pub remembered-lost : Collects (rules_of StickyImmix) 1 Nursery immix roots_before remembered-lost-heap roots_before → ⊥
remembered-lost k =
    false≢true (stands k 830 ((k.precise 830).1 (collecting.is_field 4902 0 (collecting.was_old (held-from immix 4902 refl) refl) (lit< tt) refl refl)) refl)

abbrev young-kept-heap : HeapState
young-kept-heap = heap_left (four_kinds kinds.Immix kinds.Immix kinds.Free kinds.Free) (left_in_place ++ lonely_one ∷ remembered_ones 0 24 830) 818 2

pub young-kept : Collects (rules_of StickyImmix) 1 Nursery immix roots_before young-kept-heap roots_before → ⊥
young-kept k =
    let from = k.kept.onto 824 (held-from young-kept-heap 824 refl) in
    let same : from.0 ≡ 824 = sym (k.kept.stays from.0 from.1 refl) ∙ from.2 in
    let live : IsNurseryReachable (rules_of StickyImmix) immix roots_before 824 = subst (IsNurseryReachable (rules_of StickyImmix) immix roots_before) same ((k.precise from.0).0 from.1) in
    false≢true (stands nursery-sticky-immix 824 ((nursery-sticky-immix.precise 824).1 live) refl)

abbrev old-claimed-heap : HeapState
old-claimed-heap = heap_left (four_kinds kinds.Immix kinds.Immix kinds.Free kinds.Free) (left_in_place ++ plain_object 0 24 5 [] 3 4 ∷ record (old_one 830) { number = 4 } ∷ []) 818 2

pub old-claimed : Collects (rules_of StickyImmix) 1 Nursery immix roots_before old-claimed-heap roots_before → ⊥
old-claimed k =
    let some : 0 < k.target 4902 = (k.precise 4902).1 (collecting.was_old (held-from immix 4902 refl) refl) in
    let same : 4 ≡ 2 = (k.stays refl 4902 some refl).1 in
    omega (arith, same)

abbrev young-unclaimed-heap : HeapState
young-unclaimed-heap = heap_left (four_kinds kinds.Immix kinds.Immix kinds.Free kinds.Free) (first_one 0 (812 ∷ 818 ∷ []) 3 ∷ pinned_one ∷ second_one 0 12 806 ∷ remembered_ones 0 24 830) 818 2

pub young-unclaimed : Collects (rules_of StickyImmix) 1 Nursery immix roots_before young-unclaimed-heap roots_before → ⊥
young-unclaimed k =
    let some : 0 < k.target 806 = (k.precise 806).1 (collecting.is_root 1 refl (lit< tt)) in
    let here : k.target 806 ≡ 806 = k.kept.stays 806 some refl in
    let same : 3 ≡ 4 = ap (λ a. number_at young-unclaimed-heap a) (sym here) ∙ k.claimed refl 806 some refl in
    omega (arith, same)
