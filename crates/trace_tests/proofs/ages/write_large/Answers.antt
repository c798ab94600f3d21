use Rattle.std.proofs.Common.{sym, ◌∙◌, subst}
use Rattle.object_model.specs.Objects.{HeapState, state_of}
use Rattle.object_model.specs.Heaps.{heap_state}
use Rattle.object_model.specs.Births.{IsLargeRoom, WritesLargeObject}
use Rattle.trace_tests.proofs.LargeObjects.{is-lawful, is-written}
use Rattle.trace_tests.proofs.ages.write_large.Goals as goal

pub write_object-requires-clause-extent : goal.write_object-requires-clause-extent
write_object-requires-clause-extent c =
    let makes = c.place_large.ensures c.into_row-row.result.number c.into_row-row.result.base in
    makes.extent ∙ c.into_row-row.ensures.lawful.but_lines.order.row.extent

pub from_row-requires : goal.from_row-requires
from_row-requires c =
    is-lawful (state_of c.into_row-row.result) _ _ c.args.block c.args.count c.address-address.result c.args.shape.now.refs c.args.shape.now.nums c.args.name.now
    c.into_row-row.ensures.lawful
    (subst (λ (s : HeapState). IsLargeRoom s c.args.block c.args.name.now c.args.shape.now.refs c.args.shape.now.nums) (sym c.into_row-row.ensures.state) c.requires.room)
    c.requires.count c.address-address.ensures (c.place_large.ensures c.into_row-row.result.number c.into_row-row.result.base) c.write_object.ensures.written

pub returns : goal.returns
returns c =
    subst (λ (s : HeapState). WritesLargeObject s (heap_state c.from_row.result) c.args.block c.args.name.now c.args.shape.now.refs c.args.shape.now.nums) c.into_row-row.ensures.state
    (subst (λ (s : HeapState). WritesLargeObject (state_of c.into_row-row.result) s c.args.block c.args.name.now c.args.shape.now.refs c.args.shape.now.nums) (sym c.from_row.ensures)
    (is-written (state_of c.into_row-row.result) _ _ c.args.block c.args.count c.address-address.result c.args.shape.now.refs c.args.shape.now.nums c.args.name.now
    c.requires.count c.address-address.ensures (c.place_large.ensures c.into_row-row.result.number c.into_row-row.result.base) c.write_object.ensures.written))
