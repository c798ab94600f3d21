-- Worked heaps for holes, counts and grants.
use Rattle.std.specs.Prelude.{ℕ, ◌+◌, ◌-◌, List, [], ◌∷◌, ◌++◌, map, replicate}
use Rattle.std.specs.List.{range_with_len}
use Rattle.heap_layout.specs.declared.block.BlockWord.{BlockWord}
use Rattle.heap_layout.specs.declared.block.Kind.TheVariants as kinds
use Rattle.object_model.specs.Objects.{HeapState}
use Rattle.object_model.specs.WorkedHeaps.{WorkedObject, unowned, plain_object, build_heap}

-- a new heap that was never collected, with these blocks and objects
abbrev pub heap_of_blocks : List BlockWord → List WorkedObject → HeapState
heap_of_blocks blocks objects =
    build_heap (record { blocks = blocks; objects = objects; globals = []; number = 0; base = 0 })

-- Eight blocks: a Bump block with 15 words in use; an Immix block with lines 0, 1, 10 and 12 in
-- use; a Cells block of class 18 with an object in its first cell, and one of class 17 with an
-- object in its second; a large run of two blocks; a Free block; a Young block with 10 words in
-- use.
abbrev pub mixed_heap : HeapState
mixed_heap = heap_of_blocks
    (unowned kinds.Bump 0 ∷ unowned kinds.Immix 0 ∷ unowned kinds.Cells 18 ∷ unowned kinds.Cells 17
    ∷ unowned kinds.LargeHead 2 ∷ unowned kinds.LargeTail 0 ∷ unowned kinds.Free 0
    ∷ unowned kinds.Young 0 ∷ [])
    (plain_object 0 0 1 [] 2 0 ∷ plain_object 0 5 2 [] 7 0 ∷ plain_object 1 0 3 [] 17 0
    ∷ plain_object 1 160 4 [] 13 0
    ∷ plain_object 1 192 5 [] 13 0 ∷ plain_object 2 0 6 [] 2045 0 ∷ plain_object 3 1536 7 [] 1533 0
    ∷ plain_object 4 0 8 [] 5000 0 ∷ plain_object 7 0 9 [] 7 0 ∷ [])

-- as many Bump blocks with an object of 4 words each, and then as many Free blocks
abbrev pub heap_used : ℕ → ℕ → HeapState
heap_used used free =
    heap_of_blocks (replicate used (unowned kinds.Bump 0) ++ replicate free (unowned kinds.Free 0))
    (map (λ k. plain_object k 0 (k + 1) [] 1 0) (range_with_len 0 used))

-- four blocks, of which as many are in use
abbrev pub used_heap : ℕ → HeapState
used_heap used = heap_used used (4 - used)

-- four Bump blocks that are full: two objects of 2,048 words in each
abbrev pub full_heap : HeapState
full_heap = heap_of_blocks (replicate 4 (unowned kinds.Bump 0))
    (map (λ k. plain_object k 0 (k + 1) [] 2045 0) (range_with_len 0 4)
    ++ map (λ k. plain_object k 2048 (k + 5) [] 2045 0) (range_with_len 0 4))

-- four blocks: a Free block, a Bump block with an object, a Free block, a Bump block with an object
abbrev pub split_heap : HeapState
split_heap = heap_of_blocks (unowned kinds.Free 0 ∷ unowned kinds.Bump 0 ∷ unowned kinds.Free 0
    ∷ unowned kinds.Bump 0 ∷ [])
    (plain_object 1 0 1 [] 1 0 ∷ plain_object 3 0 2 [] 1 0 ∷ [])
