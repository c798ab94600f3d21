-- Parts of the sweep of a large run.
use Rattle.std.specs.Prelude.{◌≡◌, ℕ, ◌+◌, ◌*◌, ◌<◌, ◌≤◌, ◌⊎◌}
use Rattle.heap_layout.specs.declared.layout.TheConstants.{BLOCK_BIT_WORDS}
use Rattle.heap_layout.specs.Zones.{first, StartBits, PinBits, UnlogBits}
use Rattle.object_model.specs.Objects.{HeapState, word_at}
use Rattle.block_sweeps.specs.Sweeping.{IsFreed, IsBlockOrLineWord, ChangesOnly}

-- word i has the start, the pin or the unlog bit of word 0 of block k
abbrev pub IsHeadWord : ℕ → ℕ → ℕ → Type 0
IsHeadWord b k i = (i ≡ first b StartBits + BLOCK_BIT_WORDS * k)
    ⊎ (i ≡ first b PinBits + BLOCK_BIT_WORDS * k) ⊎ (i ≡ first b UnlogBits + BLOCK_BIT_WORDS * k)

-- those words of block k became 0, and nothing else changed
pub record ClearsHead (s s' : HeapState) (k : ℕ) : Type 0 where
  pub clear : (i : ℕ) → IsHeadWord s.blocks k i → word_at s' i ≡ 0
  pub rest : ChangesOnly (IsHeadWord s.blocks k) s s'

-- word i is the block word, or has line bits, of a block from block `from` on, before block `to`
pub record IsWordAmong (b from to i : ℕ) : Type 0 where
  pub block : ℕ
  pub after : from ≤ block
  pub below : block < to
  pub word : IsBlockOrLineWord b block i

-- the blocks from block `from` on, before block `to`, were made Free, and nothing else changed
pub record FreesAll (s s' : HeapState) (from to : ℕ) : Type 0 where
  pub freed : (j : ℕ) → from ≤ j → j < to → IsFreed s' j
  pub rest : ChangesOnly (IsWordAmong s.blocks from to) s s'
