use Rattle.std.proofs.Common.{rules, sym, subst, List}
use Rattle.std.specs.List.Sorted.{IsPermutation, IsSortedByKey}
use Rattle.std.proofs.lemmas.List.Sorted.{IsPermutation-map, answers_always}
use Rattle.ideal_heap.proofs.NameLemmas.{compare}
use Rattle.heap_graph.specs.declared.place.Place.{Place}
use Rattle.object_model.specs.Heaps.{heap_state}
use Rattle.heap_graph.specs.Places.{AreReached, addresses_of}
use Rattle.heap_graph.proofs.GraphLemmas.{is-graph}
use Rattle.heap_graph.proofs.object_graph.in_order.Goals as goal

pub returns-clause-moved : goal.returns-clause-moved
returns-clause-moved c =
    let places : List Place = c.sort_unstable_by_key.new.self.items in
    subst (λ l. IsPermutation l (addresses_of places)) c.in_ok-places.ensures.at
    (IsPermutation-map (λ p. p.at) c.in_ok-places.places.items places c.sort_unstable_by_key.ensures.permutation)

pub returns-clause-graph : goal.returns-clause-graph
returns-clause-graph c roots reached =
    let places : List Place = c.sort_unstable_by_key.new.self.items in
    let sorted : IsSortedByKey (λ p. p.name) compare places =
    c.sort_unstable_by_key.ensures.sorted (λ p. p.name) (answers_always _ _ _ (λ f a r g h. search rules)) in
    is-graph (heap_state c.args.heap.now) c.args.heap.now.lawful.but_lines.order roots c.in_ok-places.places.items places
    (subst (AreReached (heap_state c.args.heap.now) roots) (sym c.in_ok-places.ensures.at) reached) c.in_ok-places.ensures.each c.sort_unstable_by_key.ensures.permutation sorted
