-- Worked heaps for collections: ages, lines, blocks of each kind, objects that may move.
use Rattle.std.specs.Prelude.{ℕ, ◌-◌, Bool, true, List, [], ◌∷◌, ◌++◌, filter, map, replicate}
use Rattle.std.specs.List.{range_with_len}
use Rattle.heap_layout.specs.declared.block.BlockWord.{BlockWord}
use Rattle.heap_layout.specs.declared.block.Kind.{Kind}
use Rattle.heap_layout.specs.declared.block.Kind.TheVariants as kinds
use Rattle.object_model.specs.declared.collect.Collect.{Collect}
use Rattle.object_model.specs.Objects.{HeapState}
use Rattle.object_model.specs.Births.{with_block}
use Rattle.object_model.specs.WorkedHeaps.{WorkedObject, plain_object, build_heap, unowned}
use Rattle.sessions.specs.Plans.{Plan, rules_of}
use Rattle.sessions.specs.Collecting.{is_evacuated}

-- the heap with blocks of these kinds and these objects, nil globals, and this base, which is also
-- the number
abbrev pub heap_of_kinds : List Kind → List WorkedObject → ℕ → HeapState
heap_of_kinds blocks objects base = build_heap (record {
  blocks = map (λ kind. unowned kind 0) blocks;
  objects = objects;
  globals = replicate 16 0;
  number = base;
  base = base;
})

-- Block 0 has an old object and, in its last three words, an object with this number. The next
-- block in use has an old one. Objects with numbers from 2 on are old if the base is 2.
abbrev pub aged_heap : List Kind → ℕ → ℕ → HeapState
aged_heap blocks number base = heap_of_kinds blocks
    (plain_object 0 0 1 [] 0 2 ∷ plain_object 0 4093 2 [] 0 number
    ∷ plain_object 1 0 3 [] 0 2 ∷ []) base

-- As many blocks, all in use, of which the first and the last have a young object each.
abbrev pub two_young : ℕ → HeapState
two_young blocks = heap_of_kinds (replicate blocks kinds.Young)
    (plain_object 0 0 1 [] 0 1 ∷ plain_object (blocks - 1) 4093 2 [] 0 1 ∷ []) 2

-- Block 0 has a large object with this number, and the next block, if it is not Free, may have
-- these objects.
abbrev pub large_heap : List Kind → ℕ → List WorkedObject → HeapState
large_heap blocks number objects =
    heap_of_kinds blocks (plain_object 0 0 1 [] 2046 number ∷ objects) 2

-- Immix blocks: an empty one; one with lines 1 and 3 marked; a full one; with line 255 clear; with
-- line 0 clear. Block 5 is a Bump block.
abbrev pub lined_heap : HeapState
lined_heap = heap_of_kinds (replicate 5 kinds.Immix ++ kinds.Bump ∷ [])
    (plain_object 1 16 1 [] 0 0 ∷ plain_object 1 60 2 [] 0 0
    ∷ plain_object 2 0 3 [] 2045 0 ∷ plain_object 2 2048 4 [] 2045 0
    ∷ plain_object 3 0 5 [] 2045 0 ∷ plain_object 3 2048 6 [] 2029 0
    ∷ plain_object 4 16 7 [] 2045 0 ∷ plain_object 4 2064 8 [] 2029 0
    ∷ plain_object 5 0 9 [] 0 0 ∷ []) 0

-- Recyclable blocks: 0 with 2 holes and 128 marked lines, 1 with 3 holes and 128, 2 with 2 holes
-- and 1. Block 3 has four holes and three marked lines, but is a Bump block. More objects and the
-- kind of block 4 are given. Block 5 is Free.
abbrev pub fragmented_heap : List WorkedObject → Kind → HeapState
fragmented_heap more kind = with_block (heap_of_kinds
    (kinds.Immix ∷ kinds.Immix ∷ kinds.Immix ∷ kinds.Immix ∷ kind ∷ kinds.Free ∷ [])
    (plain_object 0 16 1 [] 2045 0
    ∷ plain_object 1 16 2 [] 1597 0 ∷ plain_object 1 2400 3 [] 445 0
    ∷ plain_object 2 80 4 [] 0 0
    ∷ plain_object 3 16 5 [] 0 0 ∷ plain_object 3 48 6 [] 0 0
    ∷ plain_object 3 80 7 [] 0 0 ∷ more) 0)
    3 (unowned kinds.Bump 0)

-- a block of each kind, in the order of their numbers, with an object in the Immix block
abbrev pub each_kind_heap : HeapState
each_kind_heap =
    heap_of_kinds (kinds.Free ∷ kinds.Bump ∷ kinds.Young ∷ kinds.Mature ∷ kinds.Immix ∷ kinds.Cells
    ∷ kinds.LargeHead ∷ kinds.LargeTail ∷ kinds.Kept ∷ []) (plain_object 4 0 1 [] 0 0 ∷ []) 0

-- the blocks of that heap that a collection of a plan evacuates
abbrev pub evacuated_kinds : Collect → Plan → List ℕ
evacuated_kinds c p = filter (is_evacuated (rules_of p) c each_kind_heap) (range_with_len 0 9)

-- Bump blocks with a small object and a pinned one, with an object of 2,048 words and with one of
-- 2,049. Block 3 is a Cells block with an object.
abbrev pub movable_heap : HeapState
movable_heap = heap_of_kinds (kinds.Bump ∷ kinds.Bump ∷ kinds.Bump ∷ kinds.Cells ∷ kinds.Free ∷ [])
    (plain_object 0 0 1 [] 0 0 ∷ record (plain_object 0 3 2 [] 0 0) { pinned = true }
    ∷ plain_object 1 0 3 [] 2045 0 ∷ plain_object 2 0 4 [] 2046 0
    ∷ plain_object 3 0 5 [] 0 0 ∷ []) 0

-- The heap before worked collections. Block 0 has an object, 806, that refers to a pinned one, 812,
-- and to 818, which refers back. 824 is referred to by its own field alone, and has its address in
-- a number of 818. 830 is referred to by the object in block 1, 4902, alone. Collection 2, the last
-- full one, met 4902; no root, global or field refers to it.
abbrev pub heap_before : Kind → Kind → ℕ → HeapState
heap_before first second class = build_heap (record {
  blocks = unowned first class ∷ unowned second class ∷ unowned kinds.Free 0
      ∷ unowned kinds.Free 0 ∷ [];
  objects = plain_object 0 0 1 (812 ∷ 818 ∷ []) 1 0
      ∷ record (plain_object 0 6 2 [] 3 0) { pinned = true }
      ∷ record (plain_object 0 12 3 (806 ∷ 0 ∷ []) 1 0) { nums = 824 ∷ [] }
      ∷ plain_object 0 18 4 (824 ∷ 806 ∷ []) 1 0
      ∷ plain_object 0 24 5 [] 3 0
      ∷ plain_object 1 0 6 (830 ∷ 0 ∷ []) 1 2
      ∷ [];
  globals = 818 ∷ replicate 15 0;
  number = 3;
  base = 2;
})

-- the roots before a collection, and after it where the object at 806 moved to 8998
abbrev pub roots_before : List ℕ
roots_before = 0 ∷ 806 ∷ []

abbrev pub roots_moved : List ℕ
roots_moved = 0 ∷ 8998 ∷ []

-- the object with this unlog bit
abbrev pub with_unlog : Bool → WorkedObject → WorkedObject
with_unlog set o = record o { unlogged = set }

-- a heap after collection 4, with this unlog bit of all objects, this first global and this base
abbrev pub unlogged_after : Bool → List BlockWord → List WorkedObject → ℕ → ℕ → HeapState
unlogged_after set blocks objects global base = build_heap (record {
  blocks = blocks;
  objects = map (with_unlog set) objects;
  globals = global ∷ replicate 15 0;
  number = 4;
  base = base;
})

-- the unlog bit of each preserved object is set
abbrev pub heap_left : List BlockWord → List WorkedObject → ℕ → ℕ → HeapState
heap_left = unlogged_after true

-- the pinned object after a collection
abbrev pub pinned_one : WorkedObject
pinned_one = record (plain_object 0 6 2 [] 3 4) { pinned = true }

-- the object at 818 after a collection, at a place and with a reference
abbrev pub second_one : ℕ → ℕ → ℕ → WorkedObject
second_one block offset v =
    record (plain_object block offset 3 (v ∷ 0 ∷ []) 1 4) { nums = 824 ∷ [] }

-- the object at 806 after a collection: at a place, with these references and this number
abbrev pub first_one : ℕ → List ℕ → ℕ → WorkedObject
first_one block refs number = plain_object block 0 1 refs 1 number

-- the object that only its own field refers to, and the old object with this reference, after a
-- collection
abbrev pub lonely_one : WorkedObject
lonely_one = plain_object 0 18 4 (824 ∷ 806 ∷ []) 1 4

abbrev pub old_one : ℕ → WorkedObject
old_one v = plain_object 1 0 6 (v ∷ 0 ∷ []) 1 2

-- the reachable objects after a full collection: all in place; moved to block 2, but for the pinned
-- one
abbrev pub left_in_place : List WorkedObject
left_in_place = first_one 0 (812 ∷ 818 ∷ []) 4 ∷ pinned_one ∷ second_one 0 12 806 ∷ []

abbrev pub moved_out : List WorkedObject
moved_out = first_one 2 (812 ∷ 9004 ∷ []) 4 ∷ pinned_one ∷ second_one 2 6 8998 ∷ []

-- the objects that are reachable from the old one, after a nursery collection: at this place and
-- there
abbrev pub remembered_ones : ℕ → ℕ → ℕ → List WorkedObject
remembered_ones block offset v = plain_object block offset 5 [] 3 4 ∷ old_one v ∷ []

-- four blocks of these kinds
abbrev pub four_kinds : Kind → Kind → Kind → Kind → List BlockWord
four_kinds a b c d = unowned a 0 ∷ unowned b 0 ∷ unowned c 0 ∷ unowned d 0 ∷ []

-- Cells of six words in block 0, and three Free blocks
abbrev pub cells_left : List BlockWord
cells_left = unowned kinds.Cells 1 ∷ unowned kinds.Free 0 ∷ unowned kinds.Free 0
    ∷ unowned kinds.Free 0 ∷ []

-- an object of this many words in a run of two blocks
abbrev pub run_heap : ℕ → HeapState
run_heap size = heap_of_kinds (kinds.LargeHead ∷ kinds.LargeTail ∷ kinds.Free ∷ kinds.Free ∷ [])
    (plain_object 0 0 1 [] (size - 3) 0 ∷ []) 0
