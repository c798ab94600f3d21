use Rattle.std.proofs.Common.{refl, sym, ◌∙◌, ◌≡◌, true, false, arith}
use Rattle.heap_graph.specs.AddressSets.{has_address}
use Rattle.object_model.specs.Objects.{HeapState, IsHeld}
use Rattle.object_model.specs.Heaps.{heap_state}
use Rattle.heap_graph.specs.Walks.{met}
use Rattle.heap_graph.proofs.WalkLemmas.{adds-known, adds-address, walk-known, walk-pushed}
use Rattle.heap_graph.proofs.walk.Walk.visit.Goals as goal

pub returns-then-not-insert-clause-walk : goal.returns-then-not-insert-clause-walk
returns-then-not-insert-clause-walk c =
    let had : has_address c.args.self.now.visited c.args.address ≡ true = grind arith in
    walk-known (heap_state c.args.heap.now) c.args.self.now _ c.args.address c.requires.walk refl c.insert.ensures.blocks had c.insert.ensures.there c.insert.ensures.others

pub returns-then-not-insert-clause-adds : goal.returns-then-not-insert-clause-adds
returns-then-not-insert-clause-adds c =
    let had : has_address c.args.self.now.visited c.args.address ≡ true = grind arith in
    let held : IsHeld (heap_state c.args.heap.now) c.args.address = c.requires.root c.if-address-eq0.false in
    adds-known (met c.args.self.now) c.args.address (sym (c.requires.walk.visited c.args.address held.address) ∙ had)

pub returns-clause-walk : goal.returns-clause-walk
returns-clause-walk c =
    let s : HeapState = heap_state c.args.heap.now in
    let had : has_address c.args.self.now.visited c.args.address ≡ false = grind arith in
    let held : IsHeld s c.args.address = c.requires.root c.if-address-eq0.false in
    walk-pushed s c.args.self.now _ c.args.address c.requires.walk held c.in_ok-push.ensures.items c.insert.ensures.blocks had c.insert.ensures.there c.insert.ensures.others

pub returns-clause-adds : goal.returns-clause-adds
returns-clause-adds c =
    adds-address c.args.self.now (record { addresses = c.push.new.self; visited = c.insert.new.self }) c.args.address c.if-address-eq0.false c.in_ok-push.ensures.items
