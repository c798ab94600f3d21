-- The invariant of objects in two parts: of each object's own words, and of where objects lie.
use Rattle.std.proofs.Common.{◌≡◌, ℕ, ◌<◌, ◌||◌, IsTrue}
use Rattle.heap_layout.specs.Zones.{block_start}
use Rattle.heap_layout.specs.declared.block.Kind.TheVariants as kinds
use Rattle.object_model.specs.Objects.{HeapState, HasKind, global_at, is_pinned, is_unlogged, IsHeld, IsInExtent, name_at, refs_at, size_at, ref_at}
use Rattle.object_model.specs.Lawful.{HasLawfulObjects, HasHeader, Lies, IsRefField, IsRoot, is_in_run}

pub record AreObjectsRight (s : HeapState) : Type 0 where
  pub headers : (a : ℕ) → IsHeld s a → HasHeader s a
  pub marks : (a : ℕ) → IsTrue (is_pinned s a || is_unlogged s a) → IsHeld s a
  pub apart : (a x i : ℕ) → IsHeld s a → IsHeld s x → IsInExtent s a i → IsInExtent s x i → a ≡ x
  pub references : (a i : ℕ) → IsHeld s a → i < refs_at s a → IsRefField s (ref_at s a i)
  pub globals : (g : ℕ) → g < 16 → IsRoot s (global_at s g)
  pub names : (a x : ℕ) → IsHeld s a → IsHeld s x → name_at s a ≡ name_at s x → a ≡ x

pub record ArePlacesRight (s : HeapState) : Type 0 where
  pub lies : (a : ℕ) → IsHeld s a → Lies s a (size_at s a)
  pub heads : (k : ℕ) → HasKind s k kinds.LargeHead → IsHeld s (block_start s.blocks k) × (2048 < size_at s (block_start s.blocks k))
  pub tails : (k : ℕ) → HasKind s k kinds.LargeTail → IsTrue (is_in_run s k)

pub objects-of : (s : HeapState) → HasLawfulObjects s → AreObjectsRight s
objects-of s all = record { headers = all.headers; marks = all.marks; apart = all.apart; references = all.references; globals = all.globals; names = all.names }

pub places-of : (s : HeapState) → HasLawfulObjects s → ArePlacesRight s
places-of s all = record { lies = all.lies; heads = all.heads; tails = all.tails }

pub together : (s : HeapState) → AreObjectsRight s → ArePlacesRight s → HasLawfulObjects s
together s objects places = record {
  headers = objects.headers;
  marks = objects.marks;
  lies = places.lies;
  apart = objects.apart;
  heads = places.heads;
  tails = places.tails;
  references = objects.references;
  globals = objects.globals;
  names = objects.names;
}
