-- Worked tracings: one share makes the nursery collection of the worked heap, and two workers fill
-- another heap.
use Rattle.std.specs.Prelude.{ℕ, zero, suc, false, nat_lt, [], ◌∷◌, replicate}
use Rattle.std.specs.List.{range_with_len}
use Rattle.heap_layout.specs.declared.block.Kind.TheVariants as kinds
use Rattle.object_model.specs.WorkedHeaps.{WorkedHeap, plain_object, build_heap, unowned}
use Rattle.trace_core.specs.Setups.{Setup}
use Rattle.trace_core.specs.Machine.{ByRoot, ByField}
use Rattle.trace_core.specs.WorkedTraces.{nursery_setup}
use Rattle.trace_words.specs.declared.share.Share.{Share}
use Rattle.trace_words.specs.Shares.{empty_share, worker_share, gives_parts, takes_after_full, claims_here}
use Rattle.trace_words.specs.Shares.{claims_moved, copies_on, ends_copy, gives_scan, scan_token, both_shares}
use Rattle.trace_words.specs.Shares.{scans_field, sets_global, asks_for, sets_lines, sees_busy}

-- the share as the tracing begins: the old object at 810 is logged, and is to be scanned
abbrev pub begun : Share
begun = record empty_share {
  parts = 3;
  numbers = 1 ∷ 2 ∷ [];
  grey = (810, 0) ∷ [];
  unset = range_with_len 0 16;
  known = (810, 810) ∷ [];
}

-- worker 2 gets a seat, and takes in a token with the right to scan the old object
abbrev pub without_worker : Share
without_worker = gives_parts 1 2 begun

abbrev pub helper : Share
helper = both_shares (worker_share 1 2) (scan_token 810 810)

-- it takes block 1, and claims the young object at 814 for the field of that at 810
abbrev pub with_room : Share
with_room = takes_after_full nursery_setup 1 helper

-- k steps of copying are made
abbrev pub copied_to : ℕ → Share
copied_to zero = claims_moved nursery_setup 814 (ByField 810 0) with_room
copied_to (suc k) = copies_on 814 k (copied_to k)

abbrev pub moved : Share
moved = ends_copy 814 4 (copied_to 4)

-- the old object is scanned, and the first share takes the worker's in
abbrev pub taken_in : Share
taken_in = both_shares (gives_scan 810 without_worker) (scans_field 810 0 moved)

-- it sets the globals below g
abbrev pub set_below : ℕ → Share
set_below zero = taken_in
set_below (suc g) = sets_global g (set_below g)

-- Block 0 has objects of 1000, 1500 and 1500 words, at 806, 1806 and 3306. Block 1 has one of 1500
-- and one of 1600, at 4902 and 6402. Blocks 2 and 3 are Free.
abbrev pub crowded_parts : WorkedHeap
crowded_parts = record {
  blocks = unowned kinds.Bump 0 ∷ unowned kinds.Bump 0 ∷ replicate 2 (unowned kinds.Free 0);
  objects = plain_object 0 0 1 [] 997 0 ∷ plain_object 0 1000 2 [] 1497 0
      ∷ plain_object 0 2500 3 [] 1497 0 ∷ plain_object 1 0 4 [] 1497 0
      ∷ plain_object 1 1500 5 [] 1597 0 ∷ [];
  globals = replicate 16 0;
  number = 0;
  base = 0;
}

-- a full collection by two workers, which moves the objects of blocks 0 and 1 into Immix blocks
abbrev pub crowded_setup : Setup
crowded_setup = record {
  before = build_heap crowded_parts;
  nursery = false;
  logged = λ a. false;
  from = λ b. nat_lt b 2;
  copy = kinds.Immix;
  workers = 2;
}

-- the share as this tracing begins, and when both workers have their seats
abbrev pub crowded_begun : Share
crowded_begun = record empty_share {
  parts = 3;
  numbers = 1 ∷ 2 ∷ [];
  unset = range_with_len 0 16;
}

abbrev pub without_workers : Share
without_workers = gives_parts 1 2 (gives_parts 1 1 crowded_begun)

-- Worker 1 takes block 2, and claims 2,500 words of objects for roots, which go there.
abbrev pub first_room : Share
first_room = takes_after_full crowded_setup 2 (worker_share 1 1)

abbrev pub first_claimed : Share
first_claimed = claims_moved crowded_setup 806 ByRoot first_room

abbrev pub first_filled : Share
first_filled = claims_moved crowded_setup 4902 ByRoot first_claimed

-- An object of 1,600 words doesn't fit, so it takes block 3, which two objects fill.
abbrev pub second_room : Share
second_room = takes_after_full crowded_setup 3 first_filled

abbrev pub second_claimed : Share
second_claimed = claims_moved crowded_setup 6402 ByRoot second_room

abbrev pub second_filled : Share
second_filled = claims_moved crowded_setup 1806 ByRoot second_claimed

-- It finds no other block. Of blocks 0 and 1 worker 2 found that, whose share it takes in.
abbrev pub looked_on : Share
looked_on = sees_busy 3 (sees_busy 2 second_filled)

abbrev pub helped : Share
helped = both_shares looked_on (sees_busy 1 (sees_busy 0 (worker_share 1 2)))

-- The last object stays. A root asks for the first one once more, and its first line is marked.
abbrev pub stayed : Share
stayed = claims_here crowded_setup 3306 ByRoot helped

abbrev pub asked_twice : Share
asked_twice = asks_for 806 8998 stayed

abbrev pub lined_once : Share
lined_once = sets_lines 806 30 1 asked_twice

-- the first share takes the worker's in
abbrev pub all_taken_in : Share
all_taken_in = both_shares without_workers lined_once
