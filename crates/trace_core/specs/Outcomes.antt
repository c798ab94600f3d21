-- What a finished tracing leaves: which objects live, and where.
use Rattle.std.specs.Prelude.{◌≡◌, ℕ, ◌<◌, ◌≤◌, ◌⊎◌, ◌↔◌, false, IsTrue, if◌then◌else◌, List, length, slice_index}
use Rattle.heap_layout.specs.declared.layout.TheConstants.{BUDGET_WORD, STOP_WORD}
use Rattle.heap_layout.specs.Zones.{row_words}
use Rattle.heap_layout.specs.declared.block.Kind.TheVariants as kinds
use Rattle.object_model.specs.Objects.{HeapState, HasKind, IsHeld, IsInExtent, word_at, block_word, number_at, name_at}
use Rattle.object_model.specs.Objects.{refs_at, nums_at, is_pinned, is_unlogged}
use Rattle.object_model.specs.Lawful.{FreeBlockIsClear}
use Rattle.object_model.specs.Ages.{Lives}
use Rattle.trace_core.specs.Setups.{Setup, blocks, collection, stays_old, may_be_moved}
use Rattle.trace_core.specs.Machine.{Stage, target, address_or_nil, taken_word}
use Rattle.trace_core.specs.Traces.{HasCopyRoom}

-- the base after the collection: its number if it is a full one
abbrev pub base_after_trace : Setup → ℕ
base_after_trace p = if p.nursery then p.before.base else collection p

-- the target of the object at x, 0 if it has none
abbrev pub image : (ℕ → Stage) → ℕ → ℕ
image stage x = address_or_nil (target (stage x))

-- The row after a finished tracing, where F gives targets and `taken` the workers that took blocks.
-- It is no lawful heap: a moved object and its copy have one name, and dead objects are still held.
pub record FinishedRow (p : Setup) (after : HeapState) (F taken : ℕ → ℕ) : Type 0 where
  pub extent : length after.words ≡ row_words (blocks p)
  pub layout : after.blocks ≡ blocks p
  pub stop : word_at after STOP_WORD ≡ word_at p.before STOP_WORD
  pub budget : word_at after BUDGET_WORD ≡ word_at p.before BUDGET_WORD
  -- what is held was held, or is a target; what lives is a target
  pub held : (x : ℕ) → IsHeld after x ↔ (IsHeld p.before x ⊎ ((a : ℕ) × (0 < F a) × (F a ≡ x)))
  pub lives : (x : ℕ) → Lives (base_after_trace p) after x ↔ ((a : ℕ) × (0 < F a) × (F a ≡ x))
  pub number : (x : ℕ) → Lives (base_after_trace p) after x → number_at after x ≤ collection p
  -- an object that was held still has its name and shape
  pub names : (x : ℕ) → IsHeld p.before x → name_at after x ≡ name_at p.before x
  pub shapes : (x : ℕ) → IsHeld p.before x → (refs_at after x ≡ refs_at p.before x)
      × (nums_at after x ≡ nums_at p.before x)
  -- no word belongs to two objects, dead and moved ones included
  pub apart : (x y i : ℕ) → IsHeld after x → IsHeld after y → IsInExtent after x i
      → IsInExtent after y i → x ≡ y
  pub places : (a : ℕ) → 0 < F a → (F a ≡ a) ⊎ HasCopyRoom p taken a (F a)
  -- blocks that workers took were Free, and have their words; the others have those that they had
  pub of_worker : (b : ℕ) → b < blocks p → 0 < taken b → block_word after b ≡ taken_word p (taken b)
  pub as_before : (b : ℕ) → b < blocks p → taken b ≡ 0 → block_word after b ≡ block_word p.before b
  pub was_free : (b : ℕ) → 0 < taken b → HasKind p.before b kinds.Free
  pub worker : (b : ℕ) → taken b ≤ p.workers
  pub clear : (b : ℕ) → FreeBlockIsClear after b
  pub pins : (x : ℕ) → is_pinned after x ≡ is_pinned p.before x
  -- the unlog bits are set of what lives
  pub unlogs : (x : ℕ) → IsTrue (is_unlogged after x) ↔ Lives (base_after_trace p) after x
  -- an object that may move is in place only if no block is Free
  pub moved : (a b : ℕ) → F a ≡ a → 0 < a → stays_old p a ≡ false → IsTrue (may_be_moved p a)
      → HasKind after b kinds.Free → ⊥

-- each of these roots is nil or asked for its object
abbrev pub HaveAsked : List ℕ → (ℕ → ℕ) → Type 0
HaveAsked roots asked = (i : ℕ) → 0 < slice_index roots i → 0 < asked (slice_index roots i)

-- only these roots asked
abbrev pub NoOthersAsked : List ℕ → (ℕ → ℕ) → Type 0
NoOthersAsked roots asked = (x : ℕ) → 0 < asked x → (i : ℕ) × (slice_index roots i ≡ x)
