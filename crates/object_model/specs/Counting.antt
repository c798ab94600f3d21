-- What a heap holds: its objects, their words, and its blocks by kind.
use Rattle.std.specs.Prelude.{ℕ, ◌+◌, ◌*◌, List, [], ◌∷◌, if◌then◌else◌}
use Rattle.std.specs.List.{flat_map, range_with_len}
use Rattle.heap_layout.specs.Zones.{heap_of}
use Rattle.heap_layout.specs.declared.block.Kind.{Kind}
use Rattle.heap_layout.specs.declared.layout.TheConstants.{BLOCK_WORDS}
use Rattle.object_model.specs.Objects.{HeapState, is_start, size_at, has_kind, block_count}

-- the addresses of the held objects, in rising order
abbrev pub held_in : HeapState → List ℕ
held_in s = flat_map (λ a. if is_start s a then a ∷ [] else [])
    (range_with_len (heap_of s.blocks) (BLOCK_WORDS * s.blocks))

-- the words of the objects at these addresses
abbrev pub count_words_at : HeapState → List ℕ → ℕ
count_words_at s [] = 0
count_words_at s (a ∷ rest) = size_at s a + count_words_at s rest

-- how many blocks have this kind
abbrev pub kind_count : HeapState → Kind → ℕ
kind_count s kind = block_count s (λ k. has_kind s k kind)
