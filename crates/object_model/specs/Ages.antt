-- Old, logged and surviving objects. The heap's words and base decide, under every plan.
use Rattle.std.specs.Prelude.{◌≡◌, ℕ, ◌+◌, ◌<◌, Bool, ◌&&◌, not, IsTrue, nat_eq, nat_le, List, length, slice_index}
use Rattle.forward_word.specs.CollectorWords.{is_old_word}
use Rattle.object_model.specs.declared.shape.TheConstants.{COLLECTOR_OFFSET}
use Rattle.object_model.specs.Objects.{HeapState, word_at, is_start, is_unlogged, IsHeld, refs_at, number_at, target_at}
use Rattle.object_model.specs.Objects.{ref_at, is_reference}
use Rattle.object_model.specs.Times.{times, one_if}

-- The object is old: the last full collection or a later one claimed it. While the base is 0 none
-- is.
abbrev pub is_old : HeapState → ℕ → Bool
is_old s a = is_old_word s.base (word_at s (a + COLLECTOR_OFFSET))

-- a held old object whose unlog bit is clear, as after a reference was stored into it (MMTk's
-- object barrier)
abbrev pub is_logged : HeapState → ℕ → Bool
is_logged s a = is_start s a && is_old s a && not (is_unlogged s a)

-- The heap remembers its young objects: an old object that refers to one is logged, and of the
-- held objects only old ones have their unlog bit.
pub record RemembersYoung (s : HeapState) : Type 0 where
  -- each reference field of an old object that is not logged is nil or refers to an old held object
  pub fields : (a i : ℕ) → IsHeld s a → IsTrue (is_old s a) → IsTrue (is_unlogged s a)
      → i < refs_at s a
      → IsTrue (is_reference (ref_at s a i)) → IsHeld s (ref_at s a i)
      × IsTrue (is_old s (ref_at s a i))
  -- a held object whose unlog bit is set is old
  pub marked : (a : ℕ) → IsHeld s a → IsTrue (is_unlogged s a) → IsTrue (is_old s a)

-- the list has each logged object once, by address
pub record ListsLogged (s : HeapState) (logged : List ℕ) : Type 0 where
  pub rising : (i j : ℕ) → i < j → j < length logged → slice_index logged i < slice_index logged j
  pub all : (x : ℕ) → times x logged ≡ one_if (is_logged s x)

-- The object has survived collection `base` or a later one, and its target is its own address.
abbrev pub is_survivor : HeapState → ℕ → ℕ → Bool
is_survivor s base a = nat_le base (number_at s a) && nat_eq (target_at s a) a

-- An object is held at a and survived collection `base` or a later one. Others that are held are
-- dead, or moved away.
pub record Lives (base : ℕ) (s : HeapState) (a : ℕ) : Type 0 where
  pub held : IsHeld s a
  pub survives : IsTrue (is_survivor s base a)
