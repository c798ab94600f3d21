-- Worked collections after which few blocks are in use.
use Rattle.std.specs.Prelude.{ℕ, ◌-◌, true, [], ◌∷◌}
use Rattle.heap_layout.specs.declared.block.Kind.TheVariants as kinds
use Rattle.object_model.specs.declared.collect.Collect.{Collect}
use Rattle.object_model.specs.Objects.{HeapState}
use Rattle.object_model.specs.WorkedHeaps.{plain_object}
use Rattle.sessions.specs.WorkedCollections.{heap_of_kinds}
use Rattle.collector.specs.declared.outcome.Note.{Note}

-- a note of a collection that kept so many objects with so many words, and moved so many
abbrev pub worked_note : Collect → (kept words moved free : ℕ) → Note
worked_note c kept words moved free = record {
  collect = c;
  kept = kept;
  moved = moved;
  in_place = kept - moved;
  kept_words = words;
  free_blocks = free;
}

-- one object of 3 words: it was in block 1, and the one worker copied it to block 0
abbrev pub one_object : HeapState
one_object = heap_of_kinds (kinds.Free ∷ kinds.Bump ∷ kinds.Free ∷ kinds.Free ∷ [])
    (plain_object 1 0 1 [] 0 1 ∷ []) 1

abbrev pub one_copied : HeapState
one_copied = heap_of_kinds (kinds.Bump ∷ kinds.Free ∷ kinds.Free ∷ kinds.Free ∷ [])
    (plain_object 0 0 1 [] 0 2 ∷ []) 2

-- beside it a pinned one, which stays in block 1
abbrev pub two_objects : HeapState
two_objects = heap_of_kinds (kinds.Free ∷ kinds.Bump ∷ kinds.Free ∷ kinds.Free ∷ [])
    (plain_object 1 0 1 [] 0 1 ∷ record (plain_object 1 3 2 [] 0 1) { pinned = true } ∷ []) 1

abbrev pub one_kept : HeapState
one_kept = heap_of_kinds (kinds.Bump ∷ kinds.Kept ∷ kinds.Free ∷ kinds.Free ∷ [])
    (plain_object 0 0 1 [] 0 2 ∷ record (plain_object 1 3 2 [] 0 2) { pinned = true } ∷ []) 2

-- two old large objects of a block each, which a nursery collection neither claims nor counts
abbrev pub two_large : ℕ → HeapState
two_large number = heap_of_kinds (kinds.LargeHead ∷ kinds.LargeHead ∷ kinds.Free ∷ kinds.Free ∷ [])
    (plain_object 0 0 1 [] 2046 1 ∷ plain_object 1 0 2 [] 2046 1 ∷ []) number
