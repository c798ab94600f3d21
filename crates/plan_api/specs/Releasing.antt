-- What the release of a block does at the end of a collection. When it may be done is
-- `IsReleasable` of object_model.
use Rattle.heap_layout.specs.declared.layout.TheConstants.{BLOCK_LINES}
use Rattle.std.specs.Prelude.{◌≡◌, ◌≢◌, ℕ, ◌%◌, ◌<◌, ◌↔◌, Bool, true, false, ◌&&◌, ◌||◌, IsTrue, nat_eq, if◌then◌else◌}
use Rattle.heap_layout.specs.declared.block.Kind.TheVariants as kinds
use Rattle.heap_layout.specs.Blocks.{kind_code}
use Rattle.object_model.specs.declared.collect.Collect.{Collect}
use Rattle.object_model.specs.Objects.{HeapState, has_kind, HasKind, block_word, owner_at, line_marked, is_start}
use Rattle.object_model.specs.Objects.{is_pinned, is_unlogged, IsHeld}
use Rattle.object_model.specs.Ages.{Lives}
use Rattle.object_model.specs.Releasing.{InSpan}
use Rattle.block_sweeps.specs.Sweeping.{IsOfSpan, IsMetadata, ChangesOnly, IsFreed, HasNoLiving, IsTouchedHere}
use Rattle.sessions.specs.Plans.{Rules}
use Rattle.sessions.specs.Collecting.{is_evacuated}

-- a block of this kind is Kept if objects stay in it as it is evacuated
abbrev pub is_kept_kind : HeapState → ℕ → Bool
is_kept_kind s k = has_kind s k kinds.Bump || has_kind s k kinds.Young || has_kind s k kinds.Mature
    || has_kind s k kinds.Kept

-- Block k was evacuated, and is Kept if something lives in it. A block that a worker took for
-- copies may have the kind of an evacuated one, but has an owner until it is released.
abbrev pub is_kept_after : Rules → Collect → HeapState → ℕ → Bool
is_kept_after r c s k = is_kept_kind s k && (is_evacuated r c s k && nat_eq (owner_at s k) 0)

-- the word of block k after its release if something lives in it: Kept, or kind and class as
-- before, without an owner
abbrev pub word_after : Rules → Collect → HeapState → ℕ → ℕ
word_after r c s k = if is_kept_after r c s k then kind_code kinds.Kept else block_word s k % 65536

-- Block k of s, or the large run that begins in it, is released in s'.
pub record IsReleased (r : Rules) (c : Collect) (base : ℕ) (s s' : HeapState) (k : ℕ) : Type 0 where
  -- exactly the objects that live are held; each has its unlog bit, and its pin bit if it had one
  pub held : (a : ℕ) → InSpan s k a → IsHeld s' a ↔ Lives base s a
  pub pins : (a : ℕ) → InSpan s k a → is_pinned s' a ≡ (is_pinned s a && is_start s' a)
  pub unlogs : (a : ℕ) → InSpan s k a → is_unlogged s' a ≡ is_start s' a
  -- a block in which nothing lives is Free, a large run as a whole
  pub empty : HasNoLiving base s (InSpan s k) → (j : ℕ) → IsOfSpan s k j → IsFreed s' j
  -- the word of a block in which something lives; the other blocks of a large run keep theirs
  pub word : (a : ℕ) → InSpan s k a → Lives base s a → block_word s' k ≡ word_after r c s k
  pub tails : (a j : ℕ) → InSpan s k a → Lives base s a → IsOfSpan s k j → j ≢ k
      → block_word s' j ≡ block_word s j
  -- the line bits of an Immix block are exactly those of the lines that objects in it touch; other
  -- blocks keep theirs
  pub touched : (a line : ℕ) → InSpan s k a → Lives base s a → HasKind s k kinds.Immix
      → line < BLOCK_LINES
      → IsTrue (line_marked s' k line) ↔ ∥ IsTouchedHere s' k line ∥₁
  pub lines : (a j line : ℕ) → InSpan s k a → Lives base s a → (HasKind s k kinds.Immix → ⊥)
      → IsOfSpan s k j → line < BLOCK_LINES
      → line_marked s' j line ≡ line_marked s j line

-- Block k, which is no tail of a large run, was released, and nothing else changed.
pub record ReleasesSpan (r : Rules) (c : Collect) (base : ℕ) (s s' : HeapState) (k : ℕ)
    : Type 0 where
  pub released : IsReleased r c base s s' k
  pub rest : ChangesOnly (λ i. (j : ℕ) × IsOfSpan s k j × IsMetadata s.blocks j i) s s'

-- The release of block k. A large run is released by its first block, so that a tail changes
-- nothing.
abbrev pub ReleasesIf : Bool → Rules → Collect → ℕ → HeapState → HeapState → ℕ → Type 0
ReleasesIf true r c base s s' k = (s'.blocks ≡ s.blocks) × (s'.words ≡ s.words)
ReleasesIf false r c base s s' k = ReleasesSpan r c base s s' k

abbrev pub Releases : Rules → Collect → ℕ → HeapState → HeapState → ℕ → Type 0
Releases r c base s s' k = ReleasesIf (has_kind s k kinds.LargeTail) r c base s s' k
