-- Sweeps: what stays of a block once the objects in it that do not live are no longer held.
use Rattle.heap_layout.specs.declared.layout.TheConstants.{BLOCK_LINES, BLOCK_WORDS, BLOCK_BIT_WORDS}
use Rattle.heap_layout.specs.declared.layout.TheConstants.{BLOCK_LINE_BIT_WORDS}
use Rattle.std.specs.Prelude.{◌≡◌, ℕ, ◌+◌, ◌*◌, ◌<◌, ◌≤◌, ◌^◌, ◌⊎◌, ◌↔◌, ◌&&◌, IsTrue, false, length, count_by}
use Rattle.std.specs.List.{range_with_len}
use Rattle.heap_layout.specs.Zones.{block_at, block_start, first, IsAddress, BlockWords, LineWords, StartBits, PinBits}
use Rattle.heap_layout.specs.Zones.{UnlogBits}
use Rattle.heap_layout.specs.declared.block.Kind.TheVariants as kinds
use Rattle.heap_layout.specs.Blocks.{kind_code}
use Rattle.object_model.specs.Objects.{HeapState, HasKind, word_at, block_word, class_at, line_marked, is_start}
use Rattle.object_model.specs.Objects.{is_pinned, is_unlogged, IsHeld, IsInExtent}
use Rattle.object_model.specs.Lawful.{IsTouched}
use Rattle.object_model.specs.Ages.{Lives}
use Rattle.object_model.specs.Releasing.{InSpan}

-- a is an address of block k
pub record InBlock (s : HeapState) (k a : ℕ) : Type 0 where
  pub address : IsAddress s.blocks a
  pub block : block_at s.blocks a ≡ k

-- two objects that begin in block k share no word
abbrev pub AreApart : HeapState → ℕ → Type 0
AreApart s k = (a x i : ℕ) → IsHeld s a → IsHeld s x → block_at s.blocks a ≡ k
    → block_at s.blocks x ≡ k
    → IsInExtent s a i → IsInExtent s x i → a ≡ x

-- block j is block k, or a later block of the large run that begins in block k
abbrev pub IsOfSpan : HeapState → ℕ → ℕ → Type 0
IsOfSpan s k j = (j ≡ k) ⊎ (HasKind s k kinds.LargeHead × (k < j) × (j < k + class_at s k))

-- i is one of the `count` indexes from `from` on
pub record IsAmong (from count i : ℕ) : Type 0 where
  pub after : from ≤ i
  pub below : i < from + count

-- word i has the line bits of block k; the unlog bits of its addresses; their start, pin or unlog
-- bits
abbrev pub IsLineWord : ℕ → ℕ → ℕ → Type 0
IsLineWord b k i = IsAmong (first b LineWords + BLOCK_LINE_BIT_WORDS * k) BLOCK_LINE_BIT_WORDS i

abbrev pub IsUnlogWord : ℕ → ℕ → ℕ → Type 0
IsUnlogWord b k i = IsAmong (first b UnlogBits + BLOCK_BIT_WORDS * k) BLOCK_BIT_WORDS i

abbrev pub IsObjectBitWord : ℕ → ℕ → ℕ → Type 0
IsObjectBitWord b k i = IsAmong (first b StartBits + BLOCK_BIT_WORDS * k) BLOCK_BIT_WORDS i
    ⊎ IsAmong (first b PinBits + BLOCK_BIT_WORDS * k) BLOCK_BIT_WORDS i ⊎ IsUnlogWord b k i

-- word i is the block word of block k, or has its line bits
abbrev pub IsBlockOrLineWord : ℕ → ℕ → ℕ → Type 0
IsBlockOrLineWord b k i = (i ≡ first b BlockWords + k) ⊎ IsLineWord b k i

-- word i is metadata of block k
abbrev pub IsMetadata : ℕ → ℕ → ℕ → Type 0
IsMetadata b k i = IsBlockOrLineWord b k i ⊎ IsObjectBitWord b k i

-- Of a row only words that `Changing` allows were changed, and each word has 64 bits if it had
-- before.
pub record ChangesOnly (Changing : ℕ → Type 0) (s s' : HeapState) : Type 0 where
  pub blocks : s'.blocks ≡ s.blocks
  pub extent : length s'.words ≡ length s.words
  pub others : (i : ℕ) → (Changing i → ⊥) → word_at s' i ≡ word_at s i
  pub fit : ((i : ℕ) → word_at s i < 2 ^ 64) → (i : ℕ) → word_at s' i < 2 ^ 64

-- block k has the word of a Free block, and none of its line bits is set
pub record IsFreed (s : HeapState) (k : ℕ) : Type 0 where
  pub word : block_word s k ≡ kind_code kinds.Free
  pub lines : (line : ℕ) → line < BLOCK_LINES → line_marked s k line ≡ false

-- of the objects at these addresses none lives
abbrev pub HasNoLiving : ℕ → HeapState → (ℕ → Type 0) → Type 0
HasNoLiving base s In = (a : ℕ) → In a → Lives base s a → ⊥

-- Of the objects at these addresses exactly those that live are held after, and only they keep
-- their pin and unlog bits.
pub record KeepsLiving (base : ℕ) (In : ℕ → Type 0) (s s' : HeapState) : Type 0 where
  pub held : (a : ℕ) → In a → IsHeld s' a ↔ Lives base s a
  pub pins : (a : ℕ) → In a → is_pinned s' a ≡ (is_pinned s a && is_start s' a)
  pub unlogs : (a : ℕ) → In a → is_unlogged s' a ≡ (is_unlogged s a && is_start s' a)

-- the number of objects that begin in block k
abbrev pub object_count : HeapState → ℕ → ℕ
object_count s k =
    count_by (λ w. is_start s (block_start s.blocks k + w)) (range_with_len 0 BLOCK_WORDS)

-- Block k was swept. If nothing lives in it, it is Free; else its block word is `after`, and its
-- line bits are as before.
pub record Sweeps (base after : ℕ) (s s' : HeapState) (k : ℕ) : Type 0 where
  pub objects : KeepsLiving base (InBlock s k) s s'
  pub empty : HasNoLiving base s (InBlock s k) → IsFreed s' k
  pub word : (a : ℕ) → InBlock s k a → Lives base s a → block_word s' k ≡ after
  pub lines : (a line : ℕ) → InBlock s k a → Lives base s a → line < BLOCK_LINES
      → line_marked s' k line ≡ line_marked s k line
  pub rest : ChangesOnly (IsMetadata s.blocks k) s s'

-- The large run that begins in block k was swept. If its object does not live, each of its blocks
-- is Free; else nothing changes.
pub record SweepsRun (base : ℕ) (s s' : HeapState) (k : ℕ) : Type 0 where
  pub objects : KeepsLiving base (InSpan s k) s s'
  pub empty : HasNoLiving base s (InSpan s k) → (j : ℕ) → IsOfSpan s k j → IsFreed s' j
  pub rest : ChangesOnly (λ i. (j : ℕ) × IsOfSpan s k j × IsMetadata s.blocks j i) s s'
  pub living : (a : ℕ) → InSpan s k a → Lives base s a → s'.words ≡ s.words

-- an object that begins in block k touches this line of the block
pub record IsTouchedHere (s : HeapState) (k line : ℕ) : Type 0 where
  pub touched : IsTouched s k line
  pub here : block_at s.blocks touched.object ≡ k

-- The line bits of block k became exactly those of the lines that objects in it touch, and nothing
-- else changed.
pub record MarksTouched (s s' : HeapState) (k : ℕ) : Type 0 where
  pub lines : (line : ℕ) → line < BLOCK_LINES → IsTrue (line_marked s' k line)
      ↔ ∥ IsTouchedHere s k line ∥₁
  pub rest : ChangesOnly (IsLineWord s.blocks k) s s'

-- The unlog bits of the addresses of block k became its start bits, and nothing else changed.
pub record Unlogs (s s' : HeapState) (k : ℕ) : Type 0 where
  pub unlogs : (a : ℕ) → InBlock s k a → is_unlogged s' a ≡ is_start s a
  pub rest : ChangesOnly (IsUnlogWord s.blocks k) s s'

-- Block k was made Free, and nothing else changed.
pub record Frees (s s' : HeapState) (k : ℕ) : Type 0 where
  pub freed : IsFreed s' k
  pub rest : ChangesOnly (IsBlockOrLineWord s.blocks k) s s'
