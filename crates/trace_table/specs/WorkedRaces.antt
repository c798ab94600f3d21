-- A worked heap for two workers.
use Rattle.std.specs.Prelude.{true, [], ◌∷◌, replicate}
use Rattle.heap_layout.specs.declared.block.Kind.TheVariants as kinds
use Rattle.object_model.specs.WorkedHeaps.{WorkedHeap, plain_object, build_heap, unowned}
use Rattle.object_model.specs.Objects.{HeapState}

-- Block 0 has a pinned object at 806, two objects at 810 and 814 that refer to each other, and one
-- at 818. The first and the last refer to the one at 810 too. Blocks 1 to 3 are Free.
abbrev pub raced_parts : WorkedHeap
raced_parts = record {
  blocks = unowned kinds.Bump 0 ∷ replicate 3 (unowned kinds.Free 0);
  objects = (record (plain_object 0 0 1 (810 ∷ []) 0 0) { pinned = true })
      ∷ plain_object 0 4 2 (814 ∷ []) 0 0 ∷ plain_object 0 8 3 (810 ∷ []) 0 0
      ∷ plain_object 0 12 4 (810 ∷ []) 0 0 ∷ [];
  globals = replicate 16 0;
  number = 0;
  base = 0;
}

abbrev pub raced_heap : HeapState
raced_heap = build_heap raced_parts
