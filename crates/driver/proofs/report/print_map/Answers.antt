use Rattle.std.proofs.Common.{◌≡◌, sym, ◌∙◌, ap, subst, ℕ, ◌+◌, arith, List, [], ◌∷◌, ◌++◌, take, slice_index_or, append_assoc, append-nil}
use Rattle.std.specs.List.{flat_map}
use Rattle.std.proofs.lemmas.List.{take_all, take_more}
use Rattle.std.proofs.lemmas.Grind.{flat_map-append}
use Rattle.heap_layout.specs.Zones.{IsAddress}
use Rattle.heap_graph.specs.declared.place.Place.{Place}
use Rattle.object_model.specs.Heaps.{heap_state}
use Rattle.driver.specs.Texts.{map_line, place_line}
use Rattle.driver.specs.Reports.{place_in}
use Rattle.driver.proofs.LivePlaces.{no_place, place-is, lines-of-places}
use Rattle.driver.proofs.report.print_map.Goals as goal

pub print_place-requires : goal.print_place-requires
print_place-requires c =
    subst (λ (b : ℕ). IsAddress b (slice_index_or c.args.live.now c.loop-place.place-index no_place).at) (sym c.layout.ensures)
    (c.requires.held c.loop-place.place-index no_place c.loop-place-test.true)

pub loop-place-preserved : goal.loop-place-preserved
loop-place-preserved c =
    let s = heap_state c.args.heap.now in
    let live : List Place = c.args.live.now in
    let i : ℕ = c.loop-place.place-index in
    let t : List ℕ = c.args.to.now.items in
    let now : List ℕ = c.loop-place.to.items in
    let p : Place = slice_index_or live i no_place in
    let f : Place → List ℕ = λ q. map_line s q.at in
    let more : flat_map f (take (i + 1) live) ≡ flat_map f (take i live) ++ f p =
    ap (flat_map f) (take_more live i no_place c.loop-place-test.true) ∙ flat_map-append f (take i live) (p ∷ []) ∙ ap (λ l. flat_map f (take i live) ++ l) (append-nil (f p)) in
    c.in_ok-print_place.ensures ∙ ap (λ b. now ++ place_line (place_in b p)) c.layout.ensures
    ∙ ap (λ l. now ++ l) (place-is s p (c.requires.each i no_place c.loop-place-test.true))
    ∙ ap (λ l. l ++ f p) c.loop-place.invariant ∙ append_assoc t (flat_map f (take i live)) (f p) ∙ ap (λ l. t ++ l) (sym more)

pub returns : goal.returns
returns c =
    let s = heap_state c.args.heap.now in
    let live : List Place = c.args.live.now in
    let t : List ℕ = c.args.to.now.items in
    let f : Place → List ℕ = λ q. map_line s q.at in
    c.loop-place.invariant ∙ ap (λ l. t ++ flat_map f l) (take_all c.loop-place.place-index live (omega (arith, c.loop-place-test.false)))
    ∙ ap (λ l. t ++ l) (lines-of-places s live)
