-- Worked collections of the six plans.
use Rattle.std.proofs.Common.{refl, ℕ, List, [], ◌∷◌, ◌++◌, lit<}
use Rattle.heap_layout.specs.declared.block.Kind.TheVariants as kinds
use Rattle.object_model.specs.declared.collect.Collect.TheVariants.{Nursery, Full}
use Rattle.object_model.specs.Graphs as graphs
use Rattle.object_model.specs.Graphs.{IsReachable}
use Rattle.sessions.specs.Plans.{MarkSweep, SemiSpace, GenCopy, Immix, StickyImmix, rules_of}
use Rattle.sessions.specs.Collecting as collecting
use Rattle.sessions.specs.Collecting.{Collects, IsNurseryReachable}
use Rattle.sessions.specs.WorkedCollections.{heap_before, heap_left, roots_before, roots_moved, left_in_place, moved_out, remembered_ones, four_kinds, cells_left}
use Rattle.sessions.proofs.WorkedCollecting.{held-from, collected-full, collected-nursery}

-- where the preserved objects go
abbrev pub stayed : List (ℕ × ℕ)
stayed = (806, 806) ∷ (812, 812) ∷ (818, 818) ∷ []

abbrev pub moved : List (ℕ × ℕ)
moved = (806, 8998) ∷ (812, 812) ∷ (818, 9004) ∷ []

pub mark-sweep : Collects (rules_of MarkSweep) 1 Full (heap_before kinds.Cells kinds.Cells 1) roots_before (heap_left cells_left left_in_place 818 4) roots_before
mark-sweep = collected-full (rules_of MarkSweep) 1 Full (heap_before kinds.Cells kinds.Cells 1) (heap_left cells_left left_in_place 818 4) roots_before roots_before stayed
    refl refl refl refl refl refl refl refl refl refl refl refl
    (let first : IsReachable (heap_before kinds.Cells kinds.Cells 1) roots_before 806 = graphs.from_root 1 refl (lit< tt) in
    (first, (graphs.from_field 806 0 first (lit< tt) refl refl, (graphs.from_global 0 (lit< tt) refl (lit< tt), tt))))
    refl refl refl

pub semi-space : Collects (rules_of SemiSpace) 1 Full (heap_before kinds.Bump kinds.Bump 0) roots_before (heap_left (four_kinds kinds.Kept kinds.Free kinds.Bump kinds.Free) moved_out 9004 4) roots_moved
semi-space = collected-full (rules_of SemiSpace) 1 Full (heap_before kinds.Bump kinds.Bump 0) (heap_left (four_kinds kinds.Kept kinds.Free kinds.Bump kinds.Free) moved_out 9004 4) roots_before roots_moved moved
    refl refl refl refl refl refl refl refl refl refl refl refl
    (let first : IsReachable (heap_before kinds.Bump kinds.Bump 0) roots_before 806 = graphs.from_root 1 refl (lit< tt) in
    (first, (graphs.from_field 806 0 first (lit< tt) refl refl, (graphs.from_global 0 (lit< tt) refl (lit< tt), tt))))
    refl refl refl

pub gen-copy : Collects (rules_of GenCopy) 1 Full (heap_before kinds.Young kinds.Mature 0) roots_before (heap_left (four_kinds kinds.Kept kinds.Free kinds.Mature kinds.Free) moved_out 9004 4) roots_moved
gen-copy = collected-full (rules_of GenCopy) 1 Full (heap_before kinds.Young kinds.Mature 0) (heap_left (four_kinds kinds.Kept kinds.Free kinds.Mature kinds.Free) moved_out 9004 4) roots_before roots_moved moved
    refl refl refl refl refl refl refl refl refl refl refl refl
    (let first : IsReachable (heap_before kinds.Young kinds.Mature 0) roots_before 806 = graphs.from_root 1 refl (lit< tt) in
    (first, (graphs.from_field 806 0 first (lit< tt) refl refl, (graphs.from_global 0 (lit< tt) refl (lit< tt), tt))))
    refl refl refl

pub immix : Collects (rules_of Immix) 1 Full (heap_before kinds.Immix kinds.Immix 0) roots_before (heap_left (four_kinds kinds.Immix kinds.Free kinds.Immix kinds.Free) moved_out 9004 4) roots_moved
immix = collected-full (rules_of Immix) 1 Full (heap_before kinds.Immix kinds.Immix 0) (heap_left (four_kinds kinds.Immix kinds.Free kinds.Immix kinds.Free) moved_out 9004 4) roots_before roots_moved moved
    refl refl refl refl refl refl refl refl refl refl refl refl
    (let first : IsReachable (heap_before kinds.Immix kinds.Immix 0) roots_before 806 = graphs.from_root 1 refl (lit< tt) in
    (first, (graphs.from_field 806 0 first (lit< tt) refl refl, (graphs.from_global 0 (lit< tt) refl (lit< tt), tt))))
    refl refl refl

pub sticky-immix : Collects (rules_of StickyImmix) 1 Full (heap_before kinds.Immix kinds.Immix 0) roots_before (heap_left (four_kinds kinds.Immix kinds.Free kinds.Immix kinds.Free) moved_out 9004 4) roots_moved
sticky-immix = collected-full (rules_of StickyImmix) 1 Full (heap_before kinds.Immix kinds.Immix 0) (heap_left (four_kinds kinds.Immix kinds.Free kinds.Immix kinds.Free) moved_out 9004 4) roots_before roots_moved moved
    refl refl refl refl refl refl refl refl refl refl refl refl
    (let first : IsReachable (heap_before kinds.Immix kinds.Immix 0) roots_before 806 = graphs.from_root 1 refl (lit< tt) in
    (first, (graphs.from_field 806 0 first (lit< tt) refl refl, (graphs.from_global 0 (lit< tt) refl (lit< tt), tt))))
    refl refl refl

-- movable objects in place, for two workers
pub left-in-place : Collects (rules_of SemiSpace) 2 Full (heap_before kinds.Bump kinds.Bump 0) roots_before (heap_left (four_kinds kinds.Kept kinds.Free kinds.Free kinds.Free) left_in_place 818 4) roots_before
left-in-place = collected-full (rules_of SemiSpace) 2 Full (heap_before kinds.Bump kinds.Bump 0) (heap_left (four_kinds kinds.Kept kinds.Free kinds.Free kinds.Free) left_in_place 818 4) roots_before roots_before stayed
    refl refl refl refl refl refl refl refl refl refl refl refl
    (let first : IsReachable (heap_before kinds.Bump kinds.Bump 0) roots_before 806 = graphs.from_root 1 refl (lit< tt) in
    (first, (graphs.from_field 806 0 first (lit< tt) refl refl, (graphs.from_global 0 (lit< tt) refl (lit< tt), tt))))
    refl refl refl

pub nursery-gen-copy : Collects (rules_of GenCopy) 1 Nursery (heap_before kinds.Young kinds.Mature 0) roots_before (heap_left (four_kinds kinds.Kept kinds.Mature kinds.Mature kinds.Free) (moved_out ++ remembered_ones 2 12 9010) 9004 2) roots_moved
nursery-gen-copy = collected-nursery (rules_of GenCopy) 1 Nursery (heap_before kinds.Young kinds.Mature 0) (heap_left (four_kinds kinds.Kept kinds.Mature kinds.Mature kinds.Free) (moved_out ++ remembered_ones 2 12 9010) 9004 2) roots_before roots_moved (moved ++ (830, 9010) ∷ (4902, 4902) ∷ [])
    refl refl refl refl refl refl refl refl refl refl refl refl refl
    (let first : IsNurseryReachable (rules_of GenCopy) (heap_before kinds.Young kinds.Mature 0) roots_before 806 = collecting.is_root 1 refl (lit< tt) in
    let old_one : IsNurseryReachable (rules_of GenCopy) (heap_before kinds.Young kinds.Mature 0) roots_before 4902 = collecting.was_old (held-from (heap_before kinds.Young kinds.Mature 0) 4902 refl) refl in
    (first, (collecting.is_field 806 0 first (lit< tt) refl refl, (collecting.is_global 0 (lit< tt) refl (lit< tt), (collecting.is_field 4902 0 old_one (lit< tt) refl refl, (old_one, tt))))))
    refl refl refl

pub nursery-sticky-immix : Collects (rules_of StickyImmix) 1 Nursery (heap_before kinds.Immix kinds.Immix 0) roots_before (heap_left (four_kinds kinds.Immix kinds.Immix kinds.Free kinds.Free) (left_in_place ++ remembered_ones 0 24 830) 818 2) roots_before
nursery-sticky-immix = collected-nursery (rules_of StickyImmix) 1 Nursery (heap_before kinds.Immix kinds.Immix 0) (heap_left (four_kinds kinds.Immix kinds.Immix kinds.Free kinds.Free) (left_in_place ++ remembered_ones 0 24 830) 818 2) roots_before roots_before (stayed ++ (830, 830) ∷ (4902, 4902) ∷ [])
    refl refl refl refl refl refl refl refl refl refl refl refl refl
    (let first : IsNurseryReachable (rules_of StickyImmix) (heap_before kinds.Immix kinds.Immix 0) roots_before 806 = collecting.is_root 1 refl (lit< tt) in
    let old_one : IsNurseryReachable (rules_of StickyImmix) (heap_before kinds.Immix kinds.Immix 0) roots_before 4902 = collecting.was_old (held-from (heap_before kinds.Immix kinds.Immix 0) 4902 refl) refl in
    (first, (collecting.is_field 806 0 first (lit< tt) refl refl, (collecting.is_global 0 (lit< tt) refl (lit< tt), (collecting.is_field 4902 0 old_one (lit< tt) refl refl, (old_one, tt))))))
    refl refl refl

-- an old object in a block to evacuate stays in place
pub old-in-place : Collects (rules_of GenCopy) 0 Nursery (heap_before kinds.Young kinds.Young 0) roots_before (heap_left (four_kinds kinds.Kept kinds.Kept kinds.Mature kinds.Free) (moved_out ++ remembered_ones 2 12 9010) 9004 2) roots_moved
old-in-place = collected-nursery (rules_of GenCopy) 0 Nursery (heap_before kinds.Young kinds.Young 0) (heap_left (four_kinds kinds.Kept kinds.Kept kinds.Mature kinds.Free) (moved_out ++ remembered_ones 2 12 9010) 9004 2) roots_before roots_moved (moved ++ (830, 9010) ∷ (4902, 4902) ∷ [])
    refl refl refl refl refl refl refl refl refl refl refl refl refl
    (let first : IsNurseryReachable (rules_of GenCopy) (heap_before kinds.Young kinds.Young 0) roots_before 806 = collecting.is_root 1 refl (lit< tt) in
    let old_one : IsNurseryReachable (rules_of GenCopy) (heap_before kinds.Young kinds.Young 0) roots_before 4902 = collecting.was_old (held-from (heap_before kinds.Young kinds.Young 0) 4902 refl) refl in
    (first, (collecting.is_field 806 0 first (lit< tt) refl refl, (collecting.is_global 0 (lit< tt) refl (lit< tt), (collecting.is_field 4902 0 old_one (lit< tt) refl refl, (old_one, tt))))))
    refl refl refl
