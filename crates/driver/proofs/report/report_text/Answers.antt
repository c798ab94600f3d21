use Rattle.std.proofs.Common.{◌≡◌, sym, ◌∙◌, ap, subst, ℕ, ◌<◌, ◌^◌, List, [], ◌++◌, length, append-nil}
use Rattle.std.specs.Prelude.{if◌then◌else◌}
use Rattle.std.specs.List.{All, flat_map}
use Rattle.std.specs.List.Sorted.{IsPermutation}
use Rattle.heap_layout.specs.Zones.{IsAddress}
use Rattle.object_model.specs.Heaps.{heap_state}
use Rattle.object_model.specs.Objects.{HeapState, IsHeld}
use Rattle.object_model.specs.Lawful.{AreRoots}
use Rattle.object_model.specs.Graphs.{roots_of}
use Rattle.heap_graph.specs.declared.place.Place.{Place}
use Rattle.heap_graph.specs.Places.{AreReached, IsGraphOf, IsPlaceOfObject, addresses_of}
use Rattle.heap_graph.proofs.SortedPlaces.{graph-of-reached}
use Rattle.driver.specs.Texts.{IsReport, report_part, map_part, live_line, held_line, kinds_line, map_line}
use Rattle.driver.specs.Reports.{session_lines}
use Rattle.driver.proofs.Lines.{four-onto}
use Rattle.driver.proofs.LivePlaces.{roots-there, places-addresses, are-live}
use Rattle.driver.proofs.LiveOrder.{reached-few, same-line}
use Rattle.driver.proofs.report.report_text.Goals.{then-has_map+in_ok-places+in_ok-print_map, else-has_map}
use Rattle.driver.proofs.report.report_text.Goals as goal

pub reachable-requires : goal.reachable-requires
reachable-requires g c = roots-there c.heap-heap.result.now c.args.manager.now.heap.heap c.deref.result.now c.in_ok-registers.registers.items
    c.heap-heap.ensures.same c.deref.ensures.value c.in_ok-registers.ensures.roots

pub print_objects-requires-clause-few : goal.print_objects-requires-clause-few
print_objects-requires-clause-few g c =
    let s : HeapState = heap_state c.heap-heap.result.now in
    subst (λ (l : List ℕ). length l < 2 ^ 32) (sym c.deref-2.ensures.value) (reached-few s c.heap-heap.result.now.lawful c.deref.result.now c.in_ok-live.live.items c.in_ok-live.ensures)

pub print_objects-requires-clause-held : goal.print_objects-requires-clause-held
print_objects-requires-clause-held g c =
    subst (λ (l : List ℕ). All (IsHeld (heap_state c.heap-heap.result.now)) l) (sym c.deref-2.ensures.value) c.in_ok-live.ensures.held

pub in_order-requires : goal.in_order-requires
in_order-requires g c =
    subst (λ (l : List ℕ). All (IsHeld (heap_state c.heap-heap.result.now)) l) (sym c.deref-then-has_map.ensures.value) c.in_ok-live.ensures.held

pub print_map-requires-clause-held : goal.print_map-requires-clause-held
print_map-requires-clause-held g c =
    let h = c.heap-heap.result.now in
    let s : HeapState = heap_state h in
    let roots : List ℕ = c.deref.result.now in
    let all : AreRoots s roots = roots-there h c.args.manager.now.heap.heap roots c.in_ok-registers.registers.items
    c.heap-heap.ensures.same c.deref.ensures.value c.in_ok-registers.ensures.roots in
    let graph : IsGraphOf s roots c.in_ok-places.places.items = c.in_ok-places.ensures.graph roots (subst (AreReached s roots) (sym c.deref-then-has_map.ensures.value) c.in_ok-live.ensures) in
    subst (λ (ps : List Place). All (λ p. IsAddress s.blocks p.at) ps) (sym c.deref-then-has_map-2.ensures.value)
    (places-addresses s h.lawful roots all c.in_ok-places.places.items graph)

pub print_map-requires-clause-each : goal.print_map-requires-clause-each
print_map-requires-clause-each g c =
    let s : HeapState = heap_state c.heap-heap.result.now in
    let roots : List ℕ = c.deref.result.now in
    let graph : IsGraphOf s roots c.in_ok-places.places.items = c.in_ok-places.ensures.graph roots (subst (AreReached s roots) (sym c.deref-then-has_map.ensures.value) c.in_ok-live.ensures) in
    subst (λ (ps : List Place). All (IsPlaceOfObject s) ps) (sym c.deref-then-has_map-2.ensures.value) graph.each

pub returns : goal.returns
returns g c t last closes =
    let h = c.heap-heap.result.now in
    let s : HeapState = heap_state h in
    let roots : List ℕ = c.deref.result.now in
    let found : List ℕ = c.in_ok-live.live.items in
    let reached : AreReached s roots found = c.in_ok-live.ensures in
    let n : ℕ = length t.traces in
    let plan = g.P.Plan.plan in
    let all : AreRoots s roots = roots-there h c.args.manager.now.heap.heap roots c.in_ok-registers.registers.items
    c.heap-heap.ensures.same c.deref.ensures.value c.in_ok-registers.ensures.roots in
    let same : s ≡ last.heap = c.heap-heap.ensures.session t last closes in
    let of : roots ≡ roots_of last.mutators = c.deref.ensures.value ∙ c.in_ok-registers.ensures.session t last closes in
    let t0 : List ℕ = c.new-text.result.items in
    let t1 : List ℕ = c.print_session.new.to.items in
    let t2 : List ℕ = c.print_objects.new.to.items in
    let t3 : List ℕ = c.print_kinds.new.to.items in
    let x0 : t0 ≡ [] = c.new-text.ensures.items in
    let x1 : t1 ≡ t0 ++ session_lines plan n last = c.in_ok-print_session.ensures t last closes in
    let x2 : t2 ≡ t1 ++ live_line s found ++ held_line s = c.in_ok-print_objects.ensures
    ∙ ap (λ (l : List ℕ). t1 ++ live_line s l ++ held_line s) c.deref-2.ensures.value in
    let x3 : t3 ≡ t2 ++ kinds_line last.heap = c.in_ok-print_kinds.ensures ∙ ap (λ (k : HeapState). t2 ++ kinds_line k) same in
    let whole : (live : List ℕ) → IsPermutation found live → t3 ≡ report_part plan n last live = λ live moved.
    four-onto t0 (session_lines plan n last) (live_line last.heap live) (held_line last.heap) (kinds_line last.heap) t1 t2 t3 x1
    (x2 ∙ ap (λ (l : List ℕ). t1 ++ l ++ held_line s) (same-line s found live moved) ∙ ap (λ (k : HeapState). t1 ++ live_line k live ++ held_line k) same) x3
    ∙ ap (λ (l : List ℕ). l ++ report_part plan n last live) x0 in
    elim c.if-has_map.branch as (λ _. IsReport plan n c.args.has_map last c.if-has_map.text.items) [
      | then-has_map+in_ok-places+in_ok-print_map w ↦ (
          let places : List Place = w.in_ok-places.places.items in
          let live : List ℕ = addresses_of places in
          let graph : IsGraphOf s roots places = w.in_ok-places.ensures.graph roots (subst (AreReached s roots) (sym w.deref-then-has_map.ensures.value) reached) in
          let moved : IsPermutation found live = subst (λ (l : List ℕ). IsPermutation l live) w.deref-then-has_map.ensures.value w.in_ok-places.ensures.moved in
          record {
            live = live;
            are = are-live s h.lawful roots all places graph last same of;
            printed = ap (λ v. v.items) w.text-is ∙ w.in_ok-print_map.ensures
                ∙ ap (λ (ps : List Place). t3 ++ flat_map (map_line s) (addresses_of ps)) w.deref-then-has_map-2.ensures.value
                ∙ ap (λ (k : HeapState). t3 ++ flat_map (map_line k) live) same
                ∙ ap (λ (l : List ℕ). l ++ map_part last live) (whole live moved)
                ∙ ap (λ b. report_part plan n last live ++ (if b then map_part last live else [])) (sym w.if-has_map.true);
          })
      | else-has_map w ↦ (
          let list = graph-of-reached s h.lawful.but_lines.order roots found reached in
          let live : List ℕ = addresses_of list.0 in
          record {
            live = live;
            are = are-live s h.lawful roots all list.0 list.2 last same of;
            printed = ap (λ v. v.items) w.text-is ∙ whole live list.1 ∙ sym (append-nil (report_part plan n last live))
                ∙ ap (λ b. report_part plan n last live ++ (if b then map_part last live else [])) (sym w.if-has_map.false);
          })
    ]
