-- The list of the objects that are reachable from roots and globals.
use Rattle.std.specs.Prelude.{◌≡◌, ℕ, ◌↔◌, List, map, nat_eq}
use Rattle.std.specs.List.{All, AllPairs, Contains, IsDistinct}
use Rattle.ideal_heap.specs.Names.{IsBefore}
use Rattle.heap_graph.specs.declared.place.Place.{Place}
use Rattle.object_model.specs.Objects.{HeapState, IsHeld, name_at, size_at}
use Rattle.object_model.specs.Graphs.{IsReachable}

abbrev pub addresses_of : List Place → List ℕ
addresses_of places = map (λ p. p.at) places

-- the place has the name and the size of the object at its address
pub record IsPlaceOfObject (s : HeapState) (p : Place) : Type 0 where
  pub name : p.name ≡ name_at s p.at
  pub size : p.size ≡ size_at s p.at

-- the addresses are those of all reachable objects and of no others, each once, in any order
pub record AreReached (s : HeapState) (roots addresses : List ℕ) : Type 0 where
  pub reached : (a : ℕ) → IsReachable s roots a ↔ Contains addresses a
  pub held : All (IsHeld s) addresses
  pub apart : IsDistinct nat_eq addresses

-- The places are those of all reachable objects and of no others, each once, in rising order of
-- names.
pub record IsGraphOf (s : HeapState) (roots : List ℕ) (places : List Place) : Type 0 where
  pub reached : (a : ℕ) → IsReachable s roots a ↔ Contains (addresses_of places) a
  pub each : All (IsPlaceOfObject s) places
  pub rise : AllPairs (λ p q. IsBefore p.name q.name) places
