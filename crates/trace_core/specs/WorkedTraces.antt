-- Worked tracings: two objects that refer to each other move, and a nursery collection begins.
use Rattle.std.specs.Prelude.{true, false, nat_eq, List, [], ◌∷◌, ◌++◌, map, replicate}
use Rattle.std.specs.List.{range_with_len}
use Rattle.heap_layout.specs.declared.block.Kind.TheVariants as kinds
use Rattle.object_model.specs.WorkedHeaps.{WorkedHeap, plain_object, build_heap, unowned}
use Rattle.trace_core.specs.Setups.{Setup}
use Rattle.trace_core.specs.Machine.{Event, ByRoot, ByGlobal, ByField, Claim, Ask, Copy, Scan, SetGlobal, MarkLines}
use Rattle.trace_core.specs.Machine.{TakeBlock}

-- Block 0 has two objects, at 806 and 810. Each has one field, which refers to the other, and the
-- second has a number. Global 0 refers to the first. Blocks 1 to 3 are Free.
abbrev pub cycle_parts : WorkedHeap
cycle_parts = record {
  blocks = unowned kinds.Bump 0 ∷ replicate 3 (unowned kinds.Free 0);
  objects = plain_object 0 0 1 (810 ∷ []) 0 0 ∷ plain_object 0 4 2 (806 ∷ []) 1 0 ∷ [];
  globals = 806 ∷ replicate 15 0;
  number = 0;
  base = 0;
}

-- a full collection by one worker, which moves the objects of block 0 into Bump blocks
abbrev pub cycle_setup : Setup
cycle_setup = record {
  before = build_heap cycle_parts;
  nursery = false;
  logged = λ a. false;
  from = λ b. nat_eq b 0;
  copy = kinds.Bump;
  workers = 1;
}

-- The worker takes block 1. It claims, copies and scans the first object and then the second, and
-- sets the globals. A root asks for the first object too, and the line of its target is marked.
abbrev pub cycle_events : List Event
cycle_events = TakeBlock 1 1 ∷ Claim 806 4902 (ByGlobal 0) ∷ replicate 6 (Copy 806)
    ++ Ask 806 ∷ MarkLines 806 26 1 ∷ Claim 810 4906 (ByField 806 0)
    ∷ replicate 7 (Copy 810) ++ Scan 806 ∷ Scan 810 ∷ map SetGlobal (range_with_len 0 16)

-- Block 0 has an old object that was not logged, an old one that was, and a young one, to which the
-- latter refers. The unlog bits of the old ones are set. The base is 1.
abbrev pub nursery_parts : WorkedHeap
nursery_parts = record {
  blocks = unowned kinds.Young 0 ∷ replicate 3 (unowned kinds.Free 0);
  objects = (record (plain_object 0 0 1 (810 ∷ []) 0 1) { unlogged = true })
      ∷ (record (plain_object 0 4 2 (814 ∷ []) 0 1) { unlogged = true })
      ∷ plain_object 0 8 3 [] 0 0 ∷ [];
  globals = replicate 16 0;
  number = 1;
  base = 1;
}

-- a nursery collection by two workers, which moves young objects of block 0 into Mature blocks
abbrev pub nursery_setup : Setup
nursery_setup = record {
  before = build_heap nursery_parts;
  nursery = true;
  logged = λ a. nat_eq a 810;
  from = λ b. nat_eq b 0;
  copy = kinds.Mature;
  workers = 2;
}

-- the second worker takes block 1, moves the young object, and scans the logged one
abbrev pub nursery_events : List Event
nursery_events = TakeBlock 1 2 ∷ Claim 814 4902 (ByField 810 0) ∷ replicate 5 (Copy 814)
    ++ Scan 810 ∷ map SetGlobal (range_with_len 0 16)

-- Block 0 has a pinned object at 806, one at 810, and one at 814, to which both refer. Globals 0
-- and 1 refer to the first two. Blocks 1 to 3 are Free.
abbrev pub shared_parts : WorkedHeap
shared_parts = record {
  blocks = unowned kinds.Bump 0 ∷ replicate 3 (unowned kinds.Free 0);
  objects = (record (plain_object 0 0 1 (814 ∷ []) 0 0) { pinned = true })
      ∷ plain_object 0 4 2 (814 ∷ []) 0 0 ∷ plain_object 0 8 3 [] 0 0 ∷ [];
  globals = 806 ∷ 810 ∷ replicate 14 0;
  number = 0;
  base = 0;
}

abbrev pub shared_setup : Setup
shared_setup = record {
  before = build_heap shared_parts;
  nursery = false;
  logged = λ a. false;
  from = λ b. nat_eq b 0;
  copy = kinds.Bump;
  workers = 1;
}

-- the pinned object is claimed in place, the others move
abbrev pub worked_share_events : List Event
worked_share_events = TakeBlock 1 1 ∷ Claim 806 806 (ByGlobal 0) ∷ Copy 806
    ∷ Claim 810 4902 (ByGlobal 1)
    ∷ replicate 6 (Copy 810)
    ++ Claim 814 4906 (ByField 806 0) ∷ replicate 5 (Copy 814) ++ Scan 806 ∷ Scan 810
    ∷ map SetGlobal (range_with_len 0 16)

-- block 3 is Free, and each other block has an object
abbrev pub full_parts : WorkedHeap
full_parts = record {
  blocks = replicate 3 (unowned kinds.Bump 0) ++ unowned kinds.Free 0 ∷ [];
  objects = plain_object 0 0 1 [] 0 0 ∷ plain_object 1 0 2 [] 0 0 ∷ plain_object 2 0 3 [] 0 0 ∷ [];
  globals = 806 ∷ replicate 15 0;
  number = 0;
  base = 0;
}

abbrev pub full_setup : Setup
full_setup = record {
  before = build_heap full_parts;
  nursery = false;
  logged = λ a. false;
  from = λ b. true;
  copy = kinds.Bump;
  workers = 1;
}

-- a worker takes the last Free block; then the object of block 0 is claimed in place for a root,
-- though it may move
abbrev pub full_events : List Event
full_events = TakeBlock 3 1 ∷ Claim 806 806 ByRoot ∷ Copy 806 ∷ map SetGlobal (range_with_len 0 16)
