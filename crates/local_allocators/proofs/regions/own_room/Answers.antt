use Rattle.std.proofs.Common.{sym, subst, rules}
use denote.Enum.Bare.{same_true}
use Rattle.heap_layout.specs.contracts.block.Kind.{the_type}
use Rattle.heap_layout.specs.declared.block.Kind.{Kind}
use Rattle.heap_layout.specs.declared.block.Kind.TheVariants as kinds
use Rattle.object_model.specs.Objects.{state_of}
use Rattle.local_allocators.specs.Seats.{block_of}
use Rattle.std.specs.Prelude.{Some}
use Rattle.local_allocators.specs.OwnRooms.{IsOwnRoom}
use Rattle.local_allocators.proofs.regions.own_room.Goals as goal

pub returns-then-eq : goal.returns-then-eq
returns-then-eq c =
    subst (λ (f : Kind). IsOwnRoom f (state_of c.args.row.now) (block_of (Some c.args.seat.now) 0) c.args.block c.args.region.now c.args.size c.room_in_lines.result)
    (sym (same_true the_type (search rules) c.args.fill kinds.Immix (sym c.if-eq.ensures))) c.room_in_lines.ensures
