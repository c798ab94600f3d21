-- What the loops of `logged` have found, the bits that they go over, and flags of blocks.
use Rattle.std.specs.Prelude.{◌≡◌, ℕ, Bool, true, ◌&&◌, not, IsTrue, Some, List, filter, length, slice_get}
use Rattle.std.specs.List.{range_with_len}
use Rattle.heap_layout.specs.Zones.{block_at}
use Rattle.object_model.specs.Objects.{HeapState, is_start, is_unlogged}
use Rattle.object_model.specs.Ages.{is_logged}
pub use Rattle.object_model.specs.BitWords.{address_of}

-- the logged objects below an address, in order
abbrev pub logged_below : HeapState → ℕ → List ℕ
logged_below s a = filter (is_logged s) (range_with_len 0 a)

-- an object begins there whose unlog bit is clear
abbrev pub lacks_unlog_bit : HeapState → ℕ → ℕ → Bool
lacks_unlog_bit s i j = is_start s (address_of s i j) && not (is_unlogged s (address_of s i j))

-- there is a flag for each block, and each logged object begins in a block whose flag is set
pub record CoverLogged (s : HeapState) (flags : List Bool) : Type 0 where
  pub len : length flags ≡ s.blocks
  pub each : (a : ℕ) → IsTrue (is_logged s a) → slice_get flags (block_at s.blocks a) ≡ Some true
