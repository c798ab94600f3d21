-- A worked heap with blocks of five kinds, of six blocks: the first address is 1200.
use Rattle.std.specs.Prelude.{ℕ, Bool, true, false, ◌&&◌, ◌||◌, if◌then◌else◌, nat_eq, None, Some, List, [], ◌∷◌, ◌++◌}
use Rattle.std.specs.Prelude.{replicate, slice_set}
use Rattle.heap_layout.specs.declared.block.Kind.TheVariants as kinds
use Rattle.heap_layout.specs.declared.block.BlockWord.{BlockWord}
use Rattle.ideal_heap.specs.declared.name.Name.{Name}
use Rattle.ideal_heap.specs.Names.{name, same_name}
use Rattle.ideal_heap.specs.Ideal.{IdealHeap, Nil, At}
use Rattle.object_model.specs.Objects.{HeapState, with_words, record_at}
use Rattle.object_model.specs.Graphs.{MutatorState}
use Rattle.object_model.specs.WorkedHeaps.{WorkedHeap, WorkedObject, unowned, build_heap}

-- the object with these parts
abbrev pub worked_object : ℕ → ℕ → Name → List ℕ → List ℕ → ℕ → Bool → Bool → WorkedObject
worked_object block offset n refs nums number pinned unlogged = record {
  block = block;
  offset = offset;
  name = n;
  refs = refs;
  nums = nums;
  number = number;
  pinned = pinned;
  unlogged = unlogged;
}

-- Objects of mutators 1 and 16 at 1212, 5312, 9384, 9392 and 19632: one in two lines of an Immix
-- block, two in a block of 8-word cells, the second of them in the last cell, one of 4,097 words in
-- a run of two blocks, and one of 2,048 words at the end of a Mature block. The first and the last
-- are pinned, the second and the third are unlogged.
abbrev pub five_kinds : WorkedHeap
five_kinds = record {
  blocks = unowned kinds.Immix 0 ∷ unowned kinds.Cells 2 ∷ unowned kinds.LargeHead 2
      ∷ unowned kinds.LargeTail 0
      ∷ unowned kinds.Mature 0 ∷ unowned kinds.Free 0 ∷ [];
  objects = worked_object 0 12 (name 1 1) (9392 ∷ 0 ∷ []) (7 ∷ []) 0 true false
      ∷ worked_object 1 16 (name 16 1) (19632 ∷ []) [] 3 false true
      ∷ worked_object 1 4088 (name 1 2) (0 ∷ 5312 ∷ []) (8 ∷ 9 ∷ 10 ∷ []) 2 false true
      ∷ worked_object 2 0 (name 1 3) [] (replicate 4093 0 ++ 11 ∷ []) 1 false false
      ∷ worked_object 4 2048 (name 16 2) (1212 ∷ []) (replicate 2044 0) 2 true false
      ∷ [];
  globals = 1212 ∷ replicate 14 0 ++ 9392 ∷ [];
  number = 3;
  base = 2;
}

abbrev pub kinds_heap : HeapState
kinds_heap = build_heap five_kinds

-- the addresses of its objects
abbrev pub kinds_held : List ℕ
kinds_held = 1212 ∷ 5312 ∷ 9384 ∷ 9392 ∷ 19632 ∷ []

-- mutators 1 and 16, with an object in the last register of the one and in the first register of
-- the other
abbrev pub kinds_mutators : List MutatorState
kinds_mutators = (record { number = 1; births = 3; registers = replicate 15 0 ++ 9384 ∷ [] })
    ∷ (record { number = 16; births = 2; registers = 19632 ∷ replicate 15 0 }) ∷ []

-- the ideal heap that they and the heap represent
abbrev pub kinds_ideal : IdealHeap
kinds_ideal = record {
  records = λ n.
      if same_name n (name 1 1) then Some (record {
        refs = At (name 1 3) ∷ Nil ∷ [];
        nums = 7 ∷ [];
      })
      else if same_name n (name 16 1) then Some (record { refs = At (name 16 2) ∷ []; nums = [] })
      else if same_name n (name 1 2) then Some (record {
        refs = Nil ∷ At (name 16 1) ∷ [];
        nums = 8 ∷ 9 ∷ 10 ∷ [];
      })
      else if same_name n (name 1 3) then Some (record_at kinds_heap 9392)
      else if same_name n (name 16 2) then Some (record_at kinds_heap 19632) else None;
  pinned = λ n. same_name n (name 1 1) || same_name n (name 16 2);
  globals =
      λ g. if nat_eq g 0 then Some (name 1 1) else if nat_eq g 15 then Some (name 1 3) else None;
  registers = λ m d.
      if nat_eq m 1 && nat_eq d 15 then Some (name 1 2) else if nat_eq m 16
      && nat_eq d 0 then Some (name 16 2) else None;
  births = λ m. if nat_eq m 1 then 3 else if nat_eq m 16 then 2 else 0;
}

-- a block and three Free ones
abbrev pub three_free : BlockWord → List BlockWord
three_free word = word ∷ unowned kinds.Free 0 ∷ unowned kinds.Free 0 ∷ unowned kinds.Free 0 ∷ []

-- a heap with nil globals, after collection 3, of which number 2 was the last full one
abbrev pub small_heap : List BlockWord → List WorkedObject → HeapState
small_heap blocks objects =
    build_heap (record { blocks = blocks; objects = objects; globals = []; number = 3; base = 2 })

-- such a heap of a Bump block and three Free ones
abbrev pub bump_with : List WorkedObject → HeapState
bump_with objects = small_heap (three_free (unowned kinds.Bump 0)) objects

-- such a heap with two logged objects, at 806 and 816
abbrev pub two_logged : HeapState
two_logged = bump_with (worked_object 0 0 (name 1 1) [] [] 2 false false
    ∷ worked_object 0 10 (name 1 2) [] [] 2 false false ∷ [])

-- the heap with another word at an index
abbrev pub with_word : HeapState → ℕ → ℕ → HeapState
with_word s i v = with_words s (slice_set s.words i v)
