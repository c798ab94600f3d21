-- The places of the addresses that were read.
use Rattle.std.proofs.Common.{◌≡◌, take}
use Rattle.std.specs.List.{All}
use Rattle.object_model.specs.Heaps.{heap_state}
use Rattle.heap_graph.specs.Places.{IsPlaceOfObject, addresses_of}
use Rattle.heap_graph.proofs.object_graph.places_at.Given as goal

abbrev pub invariant-loop-at : goal.invariant-loop-at
invariant-loop-at l = record {
  at : addresses_of l.places.items ≡ take l.at-index l.addresses;
  each : All (IsPlaceOfObject (heap_state l.heap)) l.places.items;
}
