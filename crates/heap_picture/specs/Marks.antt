-- Which words of the heap places have for themselves.
use Rattle.object_model.specs.declared.shape.TheConstants.{MAX_MEDIUM_WORDS}
use Rattle.std.specs.Prelude.{◌≡◌, ℕ, ◌+◌, ◌*◌, Bool, false, ◌&&◌, List, nat_le, nat_lt, slice_index_or, if◌then◌else◌}
use Rattle.std.specs.List.{list_any}
use Rattle.heap_layout.specs.declared.layout.TheConstants.{BLOCK_WORDS}
use Rattle.object_model.specs.Objects.{blocks_for}
use Rattle.session_counts.specs.Sizes.{shared_blocks}
use Rattle.heap_picture.specs.declared.forms.Place.{Place}

-- how many words an object of this size has for itself: a large one has all those of its blocks
abbrev pub room_words : ℕ → ℕ
room_words size = if nat_le size MAX_MEDIUM_WORDS then size else BLOCK_WORDS * blocks_for size

-- where the words begin and end that a place has for itself, counted from word 0 of block 0 on
abbrev pub first_word : Place → ℕ
first_word p = BLOCK_WORDS * p.block + p.word

abbrev pub end_word : Place → ℕ
end_word p = first_word p + room_words p.size

-- the place has word i for itself
abbrev pub has_word : ℕ → Place → Bool
has_word i p = nat_le (first_word p) i && nat_lt i (end_word p)

-- one of the places has word i for itself
abbrev pub is_taken : List Place → ℕ → Bool
is_taken places i = list_any (has_word i) places

-- block k has the object of the place, and may have others
abbrev pub has_block : ℕ → Place → Bool
has_block k p = nat_le p.block k && nat_lt k (p.block + shared_blocks p.size)

-- block k has a small or medium object of the places
abbrev pub is_used : List Place → ℕ → Bool
is_used places k = list_any (has_block k) places

-- exactly the blocks of small and medium objects are marked
abbrev pub MarksBlocks : List Place → List Bool → Type 0
MarksBlocks places marks = (k : ℕ) → slice_index_or marks k false ≡ is_used places k

-- exactly the words are marked that the places have for themselves
abbrev pub MarksWords : List Place → List Bool → Type 0
MarksWords places marks = (i : ℕ) → slice_index_or marks i false ≡ is_taken places i
