use Rattle.std.proofs.Common.{◌≡◌, sym, ◌∙◌, ap, subst, ℕ, ◌<◌, ◌^◌, List, ◌++◌, length}
use Rattle.std.specs.List.{All}
use Rattle.object_model.specs.Heaps.{heap_state}
use Rattle.object_model.specs.Objects.{HeapState, IsHeld}
use Rattle.object_model.specs.Lawful.{AreRoots}
use Rattle.object_model.specs.Graphs.{roots_of}
use Rattle.heap_graph.specs.Places.{AreReached, addresses_of}
use Rattle.heap_graph.proofs.SortedPlaces.{graph-of-reached}
use Rattle.driver.specs.Texts.{AreLive, live_line}
use Rattle.driver.proofs.Lines.{if-ok}
use Rattle.driver.proofs.LivePlaces.{roots-there, are-live}
use Rattle.driver.proofs.LiveOrder.{reached-few, same-line}
use Rattle.driver.proofs.summary.print_live_of.Goals as goal

pub reachable-requires : goal.reachable-requires
reachable-requires g c = roots-there c.heap-heap.result.now c.args.manager.now.heap.heap c.deref.result.now c.in_ok-registers.registers.items
    c.heap-heap.ensures.same c.deref.ensures.value c.in_ok-registers.ensures.roots

pub print_live-requires-clause-few : goal.print_live-requires-clause-few
print_live-requires-clause-few g c =
    let h = c.heap-heap.result.now in
    subst (λ (l : List ℕ). length l < 2 ^ 32) (sym c.deref-2.ensures.value) (reached-few (heap_state h) h.lawful c.deref.result.now c.in_ok-live.live.items c.in_ok-live.ensures)

pub print_live-requires-clause-held : goal.print_live-requires-clause-held
print_live-requires-clause-held g c =
    subst (λ (l : List ℕ). All (IsHeld (heap_state c.heap-heap.result.now)) l) (sym c.deref-2.ensures.value) c.in_ok-live.ensures.held

pub returns : goal.returns
returns g c t last closes =
    let h = c.heap-heap.result.now in
    let s : HeapState = heap_state h in
    let roots : List ℕ = c.deref.result.now in
    let found : List ℕ = c.in_ok-live.live.items in
    let reached : AreReached s roots found = c.in_ok-live.ensures in
    let list = graph-of-reached s h.lawful.but_lines.order roots found reached in
    let live : List ℕ = addresses_of list.0 in
    let o : List ℕ = c.args.to.now.items in
    let t1 : List ℕ = c.print_live.new.to.items in
    let all : AreRoots s roots = roots-there h c.args.manager.now.heap.heap roots c.in_ok-registers.registers.items
    c.heap-heap.ensures.same c.deref.ensures.value c.in_ok-registers.ensures.roots in
    let same : s ≡ last.heap = c.heap-heap.ensures.session t last closes in
    let of : roots ≡ roots_of last.mutators = c.deref.ensures.value ∙ c.in_ok-registers.ensures.session t last closes in
    if-ok c.print_live.result (t1 ≡ o ++ live_line s c.deref-2.result.now) ((x : List ℕ) × AreLive last x × (t1 ≡ o ++ live_line last.heap x)) (λ line. (
      live,
      are-live s h.lawful roots all list.0 list.2 last same of,
      line ∙ ap (λ (l : List ℕ). o ++ live_line s l) c.deref-2.ensures.value
          ∙ ap (λ l. o ++ l) (same-line s found live list.1) ∙ ap (λ (k : HeapState). o ++ live_line k live) same,
    ))
    c.print_live.ensures
