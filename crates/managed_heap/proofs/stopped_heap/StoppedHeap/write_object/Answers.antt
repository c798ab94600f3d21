use Rattle.std.proofs.Common.{◌≡◌, refl, sym, subst, arith, ◌≤◌}
use Rattle.object_model.specs.Objects.{HeapState, state_of}
use Rattle.object_model.specs.Heaps.{heap_state}
use Rattle.managed_heap.specs.Spots.{RelistsSpot, WritesAt}
use Rattle.managed_heap.proofs.NeedsWritten as putting
use Rattle.managed_heap.proofs.PutCalls as calls
use Rattle.block_regions.proofs.Relisted.{lines-of-plan}
use Rattle.managed_heap.proofs.stopped_heap.StoppedHeap.write_object.Goals as goal

pub size_words-requires-clause-refs : goal.size_words-requires-clause-refs
size_words-requires-clause-refs g c =
    let most : c.args.need.now.refs ≤ 1024 = c.requires.may.valid.1 in
    let same : c.shape_of-shape.result.refs ≡ c.args.need.now.refs = c.shape_of-shape.ensures.refs in
    omega arith

pub size_words-requires-clause-nums : goal.size_words-requires-clause-nums
size_words-requires-clause-nums g c =
    let most : c.args.need.now.nums ≤ 60000 = c.requires.may.valid.2 in
    let same : c.shape_of-shape.result.nums ≡ c.args.need.now.nums = c.shape_of-shape.ensures.nums in
    omega arith

pub take_spot-row-requires-clause-most : goal.take_spot-row-requires-clause-most
take_spot-row-requires-clause-most g c =
    putting.most-words c.args.self c.args.number c.args.need.now c.requires.may c.size_words.result c.shape_of-shape.result.refs c.shape_of-shape.result.nums
    c.size_words.ensures c.shape_of-shape.ensures.refs c.shape_of-shape.ensures.nums

pub take_spot-row-requires-clause-place : goal.take_spot-row-requires-clause-place
take_spot-row-requires-clause-place g c =
    putting.place-of g.P.Plan.rules.fill (heap_state c.args.self.heap) (state_of c.into_row.result) c.args.spot c.size_words.result c.shape_of-shape.result.refs c.shape_of-shape.result.nums
    c.args.need.now.refs c.args.need.now.nums c.into_row.ensures.state c.size_words.ensures c.shape_of-shape.ensures.refs c.shape_of-shape.ensures.nums c.requires.spot.place

pub address-address-requires-clause-block : goal.address-address-requires-clause-block
address-address-requires-clause-block g c =
    calls.inside g.P.Plan.rules c.args.self c.args.number c.args.need.now c.args.spot c.requires.plan.fill c.requires.stopped c.requires.may c.requires.spot
    (state_of c.into_row.result) (state_of c.take_spot-row.result) c.size_words.result c.shape_of-shape.result.refs c.shape_of-shape.result.nums c.into_row.ensures.state c.size_words.ensures
    c.shape_of-shape.ensures.refs c.shape_of-shape.ensures.nums c.take_spot-row.ensures

pub address-address-requires-clause-word : goal.address-address-requires-clause-word
address-address-requires-clause-word g c =
    calls.below g.P.Plan.rules c.args.self c.args.number c.args.need.now c.args.spot c.requires.plan.fill c.requires.stopped c.requires.may c.requires.spot
    (state_of c.into_row.result) (state_of c.take_spot-row.result) c.size_words.result c.shape_of-shape.result.refs c.shape_of-shape.result.nums c.into_row.ensures.state c.size_words.ensures
    c.shape_of-shape.ensures.refs c.shape_of-shape.ensures.nums c.take_spot-row.ensures

pub write_object-requires-clause-nums : goal.write_object-requires-clause-nums
write_object-requires-clause-nums g c =
    let most : c.args.need.now.nums ≤ 60000 = c.requires.may.valid.2 in
    let same : c.shape_of-shape.result.nums ≡ c.args.need.now.nums = c.shape_of-shape.ensures.nums in
    omega arith

pub write_object-requires-clause-room : goal.write_object-requires-clause-room
write_object-requires-clause-room g c =
    calls.room g.P.Plan.rules c.args.self c.args.number c.args.need.now c.args.spot c.requires.plan.fill c.requires.stopped c.requires.may c.requires.spot
    (state_of c.into_row.result) (state_of c.take_spot-row.result) c.size_words.result c.shape_of-shape.result.refs c.shape_of-shape.result.nums c.into_row.ensures.state c.size_words.ensures
    c.shape_of-shape.ensures.refs c.shape_of-shape.ensures.nums c.take_spot-row.ensures
    c.address-address.result c.address-address.ensures

pub count_birth-name-requires-clause-most : goal.count_birth-name-requires-clause-most
count_birth-name-requires-clause-most g c = c.requires.may.most

pub count_birth-name-requires-clause-register : goal.count_birth-name-requires-clause-register
count_birth-name-requires-clause-register g c =
    let most : c.args.need.now.register ≤ 15 = c.requires.may.valid.0 in
    omega arith

pub count_birth-name-requires-clause-births : goal.count_birth-name-requires-clause-births
count_birth-name-requires-clause-births g c = c.requires.may.births

pub write_object-requires-clause-extent : goal.write_object-requires-clause-extent
write_object-requires-clause-extent g c =
    calls.extent g.P.Plan.rules c.args.self c.args.number c.args.need.now c.args.spot c.requires.plan.fill c.requires.stopped c.requires.may c.requires.spot
    (state_of c.into_row.result) (state_of c.take_spot-row.result) c.size_words.result c.shape_of-shape.result.refs c.shape_of-shape.result.nums c.into_row.ensures.state c.size_words.ensures
    c.shape_of-shape.ensures.refs c.shape_of-shape.ensures.nums c.take_spot-row.ensures

pub write_object-requires-clause-address : goal.write_object-requires-clause-address
write_object-requires-clause-address g c =
    calls.address g.P.Plan.rules c.args.self c.args.number c.args.need.now c.args.spot c.requires.plan.fill c.requires.stopped c.requires.may c.requires.spot
    (state_of c.into_row.result) (state_of c.take_spot-row.result) c.size_words.result c.shape_of-shape.result.refs c.shape_of-shape.result.nums c.into_row.ensures.state c.size_words.ensures
    c.shape_of-shape.ensures.refs c.shape_of-shape.ensures.nums c.take_spot-row.ensures
    c.address-address.result c.address-address.ensures

pub write_object-requires-clause-refs : goal.write_object-requires-clause-refs
write_object-requires-clause-refs g c =
    let most : c.args.need.now.refs ≤ 1024 = c.requires.may.valid.1 in
    let same : c.shape_of-shape.result.refs ≡ c.args.need.now.refs = c.shape_of-shape.ensures.refs in
    omega arith

pub write_object-requires-clause-name : goal.write_object-requires-clause-name
write_object-requires-clause-name g c =
    calls.named g.P.Plan.rules c.args.self c.args.number c.args.need.now c.args.spot c.requires.plan.fill c.requires.stopped c.requires.may c.requires.spot
    (state_of c.into_row.result) (state_of c.take_spot-row.result) c.size_words.result c.shape_of-shape.result.refs c.shape_of-shape.result.nums c.into_row.ensures.state c.size_words.ensures
    c.shape_of-shape.ensures.refs c.shape_of-shape.ensures.nums c.take_spot-row.ensures
    c.count_birth-name.new.mutators.items c.address-address.result c.count_birth-name.result c.address-address.ensures c.count_birth-name.ensures

pub relist_spot-row-requires-clause-block : goal.relist_spot-row-requires-clause-block
relist_spot-row-requires-clause-block g c = λ none.
    (calls.readable g.P.Plan.rules c.args.self c.args.number c.args.need.now c.args.spot c.requires.plan.fill c.requires.stopped c.requires.may c.requires.spot
    (state_of c.into_row.result) (state_of c.take_spot-row.result) c.size_words.result c.shape_of-shape.result.refs c.shape_of-shape.result.nums c.into_row.ensures.state c.size_words.ensures
    c.shape_of-shape.ensures.refs c.shape_of-shape.ensures.nums c.take_spot-row.ensures
    c.count_birth-name.new.mutators.items c.address-address.result c.count_birth-name.result c.address-address.ensures c.count_birth-name.ensures (state_of c.write_object.new.self) c.write_object.ensures.written none).0

pub relist_spot-row-requires-clause-apart : goal.relist_spot-row-requires-clause-apart
relist_spot-row-requires-clause-apart g c = λ none.
    (calls.readable g.P.Plan.rules c.args.self c.args.number c.args.need.now c.args.spot c.requires.plan.fill c.requires.stopped c.requires.may c.requires.spot
    (state_of c.into_row.result) (state_of c.take_spot-row.result) c.size_words.result c.shape_of-shape.result.refs c.shape_of-shape.result.nums c.into_row.ensures.state c.size_words.ensures
    c.shape_of-shape.ensures.refs c.shape_of-shape.ensures.nums c.take_spot-row.ensures
    c.count_birth-name.new.mutators.items c.address-address.result c.count_birth-name.result c.address-address.ensures c.count_birth-name.ensures (state_of c.write_object.new.self) c.write_object.ensures.written none).1

pub from_row-heap-requires : goal.from_row-heap-requires
from_row-heap-requires g c =
    calls.lawful g.P.Plan.rules c.args.self c.args.number c.args.need.now c.args.spot c.requires.plan.fill c.requires.stopped c.requires.may c.requires.spot
    (state_of c.into_row.result) (state_of c.take_spot-row.result) c.size_words.result c.shape_of-shape.result.refs c.shape_of-shape.result.nums c.into_row.ensures.state c.size_words.ensures
    c.shape_of-shape.ensures.refs c.shape_of-shape.ensures.nums c.take_spot-row.ensures
    c.count_birth-name.new.mutators.items c.address-address.result c.count_birth-name.result c.address-address.ensures c.count_birth-name.ensures (state_of c.write_object.new.self) c.write_object.ensures.written
    (state_of c.relist_spot-row.result) (lines-of-plan g.P.Plan.plan g.P.Plan.rules g.met.P.Plan.rules_are_of_plan) c.relist_spot-row.ensures

pub returns : goal.returns
returns g c = record {
  heap = subst (λ (x : HeapState). WritesAt g.P.Plan.rules (heap_state c.args.self.heap) c.args.spot c.count_birth-name.result c.args.need.now.refs c.args.need.now.nums x) (sym c.from_row-heap.ensures)
      (calls.writes-at g.P.Plan.rules c.args.self c.args.number c.args.need.now c.args.spot c.requires.plan.fill c.requires.stopped c.requires.may c.requires.spot
      (state_of c.into_row.result) (state_of c.take_spot-row.result) c.size_words.result c.shape_of-shape.result.refs c.shape_of-shape.result.nums c.into_row.ensures.state c.size_words.ensures
      c.shape_of-shape.ensures.refs c.shape_of-shape.ensures.nums c.take_spot-row.ensures
      c.count_birth-name.new.mutators.items c.address-address.result c.count_birth-name.result c.address-address.ensures c.count_birth-name.ensures (state_of c.write_object.new.self) c.write_object.ensures.written
      (state_of c.relist_spot-row.result) (lines-of-plan g.P.Plan.plan g.P.Plan.rules g.met.P.Plan.rules_are_of_plan) c.relist_spot-row.ensures);
  births = calls.bears-at g.P.Plan.rules c.args.self c.args.number c.args.need.now c.args.spot c.requires.plan.fill c.requires.stopped c.requires.may c.requires.spot
      (state_of c.into_row.result) (state_of c.take_spot-row.result) c.size_words.result c.shape_of-shape.result.refs c.shape_of-shape.result.nums c.into_row.ensures.state c.size_words.ensures
      c.shape_of-shape.ensures.refs c.shape_of-shape.ensures.nums c.take_spot-row.ensures
      c.count_birth-name.new.mutators.items c.address-address.result c.count_birth-name.result c.address-address.ensures c.count_birth-name.ensures;
  notes = calls.notes g.P.Plan.rules c.args.self c.args.number c.args.need.now c.args.spot c.requires.plan.fill c.requires.stopped c.requires.may c.requires.spot
      (state_of c.into_row.result) (state_of c.take_spot-row.result) c.size_words.result c.shape_of-shape.result.refs c.shape_of-shape.result.nums c.into_row.ensures.state c.size_words.ensures
      c.shape_of-shape.ensures.refs c.shape_of-shape.ensures.nums c.take_spot-row.ensures
      c.count_birth-name.new.mutators.items c.address-address.result c.count_birth-name.result c.address-address.ensures c.count_birth-name.ensures (state_of c.write_object.new.self) c.write_object.ensures.written
      (heap_state c.from_row-heap.result) (lines-of-plan g.P.Plan.plan g.P.Plan.rules g.met.P.Plan.rules_are_of_plan)
      (subst (λ (x : HeapState). RelistsSpot g.P.Plan.rules (state_of c.write_object.new.self) c.args.spot x) (sym c.from_row-heap.ensures) c.relist_spot-row.ensures)
      c.args.self.notes c.note_placed.new.notes c.requires.stopped.order.notes c.note_placed.ensures.small c.note_placed.ensures.large;
  flags = calls.flags g.P.Plan.rules c.args.self c.args.number c.args.need.now c.args.spot c.requires.plan.fill c.requires.stopped c.requires.may c.requires.spot
      (state_of c.into_row.result) (state_of c.take_spot-row.result) c.size_words.result c.shape_of-shape.result.refs c.shape_of-shape.result.nums c.into_row.ensures.state c.size_words.ensures
      c.shape_of-shape.ensures.refs c.shape_of-shape.ensures.nums c.take_spot-row.ensures
      c.count_birth-name.new.mutators.items c.address-address.result c.count_birth-name.result c.address-address.ensures c.count_birth-name.ensures (state_of c.write_object.new.self) c.write_object.ensures.written
      (heap_state c.from_row-heap.result) (lines-of-plan g.P.Plan.plan g.P.Plan.rules g.met.P.Plan.rules_are_of_plan)
      (subst (λ (x : HeapState). RelistsSpot g.P.Plan.rules (state_of c.write_object.new.self) c.args.spot x) (sym c.from_row-heap.ensures) c.relist_spot-row.ensures)
      c.args.self.notes c.note_placed.new.notes c.requires.stopped.order.flags c.note_placed.ensures.small_flags c.note_placed.ensures.large_flags;
  nursery = refl;
  full = refl;
  workers = refl;
}
