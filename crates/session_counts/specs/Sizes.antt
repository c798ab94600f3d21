-- Sizes of so many objects that fill so many blocks, and the test whether there are any.
use Rattle.std.specs.Prelude.{◌≡◌, ℕ, ◌+◌, ◌-◌, ◌*◌, ◌≤◌, Bool, ◌&&◌, List, length, nat_le, if◌then◌else◌}
use Rattle.std.specs.List.{AllByRecursion, list_any, range_with_len, sum_by}
use Rattle.heap_layout.specs.declared.layout.TheConstants.{BLOCK_WORDS}
use Rattle.object_model.specs.Objects.{blocks_for}
use Rattle.object_model.specs.declared.shape.TheConstants.{HEADER_WORDS, MAX_MEDIUM_WORDS}
use Rattle.session_counts.specs.declared.sizes.TheConstants.{MAX_OBJECT_BLOCKS, MAX_OBJECT_WORDS, SPARE_WORDS}

-- an object may have so many words
pub record IsSize (size : ℕ) : Type 0 where
  pub least : HEADER_WORDS ≤ size
  pub most : size ≤ MAX_OBJECT_WORDS

-- the blocks that an object of this size has for itself
abbrev pub own_blocks : ℕ → ℕ
own_blocks size = if nat_le size MAX_MEDIUM_WORDS then 0 else blocks_for size

-- how many blocks a small or medium object of this size has, which it shares with others
abbrev pub shared_blocks : ℕ → ℕ
shared_blocks size = if nat_le size MAX_MEDIUM_WORDS then 1 else 0

-- Sizes of so many objects with so many words in all. The large ones have exactly `large` blocks,
-- and there are others for `small` blocks, one in each at least.
pub record AreSizes (objects words large small : ℕ) (sizes : List ℕ) : Type 0 where
  pub each : AllByRecursion IsSize sizes
  pub count : length sizes ≡ objects
  pub sum : sum_by (λ size. size) sizes ≡ words
  pub own : sum_by own_blocks sizes ≡ large
  pub shared : small ≤ sum_by shared_blocks sizes

-- The least and the most words of `count` large objects with `large` blocks in all. Each has a word
-- in its last block, and more than a medium object; the blocks of the longest have words to spare.
abbrev pub least_words : ℕ → ℕ → ℕ
least_words count large =
    BLOCK_WORDS * (large - count) + count + MAX_MEDIUM_WORDS * (2 * count - large)

abbrev pub most_words : ℕ → ℕ → ℕ
most_words count large =
    BLOCK_WORDS * large - SPARE_WORDS * (large - (MAX_OBJECT_BLOCKS - 1) * count)

-- `count` of the objects may be large
abbrev pub may_be_large : ℕ → ℕ → ℕ → ℕ → ℕ → Bool
may_be_large objects words large small count = nat_le count large
    && nat_le large (MAX_OBJECT_BLOCKS * count)
    && nat_le (count + small) objects
    && nat_le (least_words count large + HEADER_WORDS * (objects - count)) words
    && nat_le words (most_words count large + MAX_MEDIUM_WORDS * (objects - count))

-- there are sizes of so many objects, with so many words, for these blocks
unfoldable pub may_fill : ℕ → ℕ → ℕ → ℕ → Bool
may_fill objects words large small =
    list_any (may_be_large objects words large small) (range_with_len 0 (large + 1))
