-- What it means to preserve objects, some of which move. A map takes each preserved object's
-- address to its target.
use Rattle.std.specs.Prelude.{◌≡◌, ℕ, ◌<◌, Bool, false, ◌&&◌, not, IsTrue, nat_le, if◌then◌else◌, List, map}
use Rattle.heap_layout.specs.declared.layout.TheConstants.{GLOBALS}
use Rattle.heap_layout.specs.Zones.{block_at}
use Rattle.object_model.specs.Objects.{HeapState, is_pinned, IsHeld, name_at, refs_at, nums_at, size_at, ref_at, num_at}
use Rattle.object_model.specs.Objects.{global_at, is_reference}
use Rattle.object_model.specs.Graphs.{IsReachable}
use Rattle.object_model.specs.declared.shape.TheConstants.{MAX_MEDIUM_WORDS}

-- The object at a may be moved out of the blocks in `from`: it is in one of them, and neither
-- pinned nor large.
abbrev pub may_leave : (ℕ → Bool) → HeapState → ℕ → Bool
may_leave from s a = from (block_at s.blocks a) && not (is_pinned s a)
    && nat_le (size_at s a) MAX_MEDIUM_WORDS

-- name, shape, numbers and pin are the same at both addresses
pub record SameObject (old : HeapState) (a : ℕ) (new : HeapState) (x : ℕ) : Type 0 where
  pub name : name_at new x ≡ name_at old a
  pub refs : refs_at new x ≡ refs_at old a
  pub nums : nums_at new x ≡ nums_at old a
  pub numbers : (j : ℕ) → j < nums_at old a → num_at new x j ≡ num_at old a j
  pub pin : is_pinned new x ≡ is_pinned old a

-- The word of a reference field afterwards: an address becomes its target, and any other word
-- stays.
abbrev pub field_after : (ℕ → ℕ) → ℕ → ℕ
field_after target v = if is_reference v then target v else v

-- Objects are preserved at their targets. Target 0 means that no preserved object is at an address,
-- so nil stays nil. `moves` says which objects may move, and `Lives` which addresses have an object
-- afterwards.
pub record PreservesObjects (moves : ℕ → Bool) (old : HeapState) (roots : List ℕ) (Lives : ℕ
    → Type 0) (new : HeapState)
    (roots' : List ℕ) (target : ℕ → ℕ) : Type 0 where
  pub nil : target 0 ≡ 0
  pub held : (a : ℕ) → 0 < target a → IsHeld old a
  pub one_to_one : (a x : ℕ) → 0 < target a → target a ≡ target x → a ≡ x
  pub there : (a : ℕ) → 0 < target a → Lives (target a)
  pub onto : (x : ℕ) → Lives x → (a : ℕ) × (0 < target a) × (target a ≡ x)
  pub same : (a : ℕ) → 0 < target a → SameObject old a new (target a)
  pub fields : (a i : ℕ) → 0 < target a → i < refs_at old a
      → ref_at new (target a) i ≡ field_after target (ref_at old a i)
  -- a reference field of a preserved object is nil or refers to a preserved object
  pub closed : (a i : ℕ) → 0 < target a → i < refs_at old a
      → IsTrue (is_reference (ref_at old a i)) → 0 < target (ref_at old a i)
  pub globals : (g : ℕ) → g < GLOBALS → global_at new g ≡ target (global_at old g)
  pub registers : roots' ≡ map target roots
  pub stays : (a : ℕ) → 0 < target a → moves a ≡ false → target a ≡ a
  pub reached : (a : ℕ) → IsReachable old roots a → 0 < target a
