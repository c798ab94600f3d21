-- A collection as its tracing begins, and what is read from the heap as it was then.
use Rattle.std.specs.Prelude.{◌≡◌, ℕ, ◌+◌, ◌<◌, ◌≤◌, ◌^◌, Bool, true, false, ◌&&◌, ◌||◌, not, IsTrue}
use Rattle.forward_word.specs.declared.words.TheConstants.{NUMBER_BITS}
use Rattle.heap_layout.specs.declared.block.Kind.{Kind}
use Rattle.heap_layout.specs.declared.block.Kind.TheVariants as kinds
use Rattle.object_model.specs.Objects.{HeapState, has_kind, is_start, is_unlogged, is_reference, ref_at, refs_at}
use Rattle.object_model.specs.Objects.{size_at}
use Rattle.object_model.specs.Ages as ages
use Rattle.object_model.specs.Lawful.{IsLawfulButLines}
use Rattle.object_model.specs.Preserving.{may_leave}

-- A collection as its tracing begins: the heap, whether it is a nursery collection, the objects
-- that were logged, the blocks to evacuate, the kind of the blocks that objects are copied into
-- (Free if none are copied), and how many workers trace.
pub record Setup : Type 0 where
  pub before : HeapState
  pub nursery : Bool
  pub logged : ℕ → Bool
  pub from : ℕ → Bool
  pub copy : Kind
  pub workers : ℕ

abbrev pub blocks : Setup → ℕ
blocks p = p.before.blocks

-- the number of this collection, one more than that of the last one
abbrev pub collection : Setup → ℕ
collection p = p.before.number + 1

-- an object was held at x
abbrev pub held : Setup → ℕ → Bool
held p x = is_start p.before x

abbrev pub size : Setup → ℕ → ℕ
size p x = size_at p.before x

abbrev pub refs : Setup → ℕ → ℕ
refs p x = refs_at p.before x

-- In a nursery collection old objects stay where they are and are not claimed.
abbrev pub stays_old : Setup → ℕ → Bool
stays_old p x = p.nursery && (held p x && ages.is_old p.before x)

-- the old object was stored into since the last collection, so it may refer to young objects
abbrev pub was_logged : Setup → ℕ → Bool
was_logged p x = stays_old p x && p.logged x

-- a nursery collection leaves the words of the old object as they are
abbrev pub keeps_its_words : Setup → ℕ → Bool
keeps_its_words p x = stays_old p x && not (p.logged x)

-- the object may be moved: it lies in a block to evacuate, and is neither pinned nor large
abbrev pub may_be_moved : Setup → ℕ → Bool
may_be_moved p x = may_leave p.from p.before x

-- the kinds of a block that objects are copied into, and Free where none are copied
abbrev pub is_copy_kind : Kind → Bool
is_copy_kind kinds.Free = true
is_copy_kind kinds.Bump = true
is_copy_kind kinds.Young = true
is_copy_kind kinds.Mature = true
is_copy_kind kinds.Immix = true
is_copy_kind kinds.Cells = false
is_copy_kind kinds.LargeHead = false
is_copy_kind kinds.LargeTail = false
is_copy_kind kinds.Kept = false

-- A tracing may begin. The heap is lawful but for its line bits, which a full collection of a plan
-- with lines clears first.
pub record TraceMayBegin (p : Setup) : Type 0 where
  pub lawful : IsLawfulButLines p.before
  -- the number fits a collector word
  pub number : collection p < 2 ^ NUMBER_BITS
  pub some : 1 ≤ p.workers
  pub few : p.workers ≤ 16
  -- a nursery collection comes after a full one
  pub base : IsTrue p.nursery → 0 < p.before.base
  -- each object to which an old one refers that was not logged is old
  pub remembers : (x i : ℕ) → IsTrue (keeps_its_words p x) → i < refs p x
      → IsTrue (is_reference (ref_at p.before x i)) → IsTrue (stays_old p (ref_at p.before x i))
  -- the unlog bits are set of those objects that have their target: old ones that stay
  pub unlogs : (a : ℕ) → is_unlogged p.before a ≡ stays_old p a
  pub kind : IsTrue (is_copy_kind p.copy)
  -- no object leaves a large block, and none leaves any block where none are copied
  pub small : (b : ℕ) → IsTrue (p.from b)
      → IsTrue (has_kind p.before b kinds.LargeHead || has_kind p.before b kinds.LargeTail) → ⊥
  pub fixed : p.copy ≡ kinds.Free → (b : ℕ) → p.from b ≡ false
