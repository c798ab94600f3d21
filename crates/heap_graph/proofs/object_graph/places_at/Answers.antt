use Rattle.std.proofs.Common.{◌≡◌, sym, ◌∙◌, ap, ℕ, List, [], ◌∷◌, ◌++◌, ◌+◌, arith, take, subst}
use Rattle.std.proofs.lemmas.List.{map-append, take_all, take_more}
use Rattle.std.proofs.lemmas.List.Elements.{All-nil, All-push}
use Rattle.std.specs.List.{All}
use Rattle.object_model.specs.Heaps.{heap_state}
use Rattle.heap_graph.specs.declared.place.Place.{Place}
use Rattle.heap_graph.specs.Places.{IsPlaceOfObject, addresses_of}
use Rattle.heap_graph.proofs.object_graph.places_at.Goals as goal

pub loop-at-preserved : goal.loop-at-preserved
loop-at-preserved c =
    let p : Place = c.place_at.result in
    let i : ℕ = c.loop-at.at-index in
    let before : List Place = c.loop-at.places.items in
    record {
      at = ap addresses_of c.in_ok-push.ensures.items ∙ map-append (λ x. x.at) before (p ∷ [])
          ∙ ap (λ l. l ++ p.at ∷ []) c.loop-at.invariant.at ∙ ap (λ a. take i c.args.addresses.now ++ a ∷ []) c.place_at.ensures.at
          ∙ sym (take_more c.args.addresses.now i 0 c.loop-at-test.true);
      each = subst (All (IsPlaceOfObject (heap_state c.args.heap.now))) (sym c.in_ok-push.ensures.items)
          (All-push (IsPlaceOfObject (heap_state c.args.heap.now)) before p c.loop-at.invariant.each c.place_at.ensures.is);
    }

pub returns-clause-at : goal.returns-clause-at
returns-clause-at c = c.loop-at.invariant.at ∙ take_all c.loop-at.at-index c.args.addresses.now (omega (arith, c.loop-at-test.false))
