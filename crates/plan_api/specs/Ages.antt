-- Young objects, by the words of a row.
use Rattle.std.specs.Prelude.{ℕ, List, ◌+◌, ◌<◌, Bool, ◌&&◌, not, IsTrue}
use Rattle.std.specs.List.{range_with_len, list_any}
use Rattle.heap_layout.specs.Zones.{block_start}
use Rattle.heap_layout.specs.declared.layout.Layout.{Layout}
use Rattle.heap_layout.specs.declared.layout.TheConstants.{BLOCK_WORDS}
use Rattle.object_model.specs.Objects.{HeapState, shown, is_start, is_unlogged}
use Rattle.object_model.specs.Ages.{is_old}
use Rattle.object_model.specs.Lawful.{IsReadableBlock}
use Rattle.side_meta.specs.declared.word.TheConstants.{BITS_PER_WORD}
use Rattle.write_barrier.specs.Listed.{address_of}

-- each block of the row can be read
abbrev pub AreReadable : List ℕ → Layout → Type 0
AreReadable words layout = (k : ℕ) → k < layout.blocks → IsReadableBlock (shown words layout) k

-- A young object begins at a: its unlog bit is clear, and it is not old. An unlog bit is set only
-- at an old object, so no young one is left out.
abbrev pub is_young : HeapState → ℕ → Bool
is_young s a = is_start s a && not (is_unlogged s a) && not (is_old s a)

-- a young object begins at one of the 64 addresses of word i of start bits
pub record BeginsYoungIn (s : HeapState) (i : ℕ) : Type 0 where
  pub bit : ℕ
  pub within : bit < BITS_PER_WORD
  pub young : IsTrue (is_young s (address_of s i bit))

-- a young object begins in block k
abbrev pub begins_young : HeapState → ℕ → Bool
begins_young s k =
    list_any (λ w. is_young s (block_start s.blocks k + w)) (range_with_len 0 BLOCK_WORDS)
