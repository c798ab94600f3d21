use Rattle.std.proofs.Common.{◌≡◌, ◌+◌, sym, refl, ◌∙◌, ap, subst, ℕ}
use Rattle.std.specs.Prelude.{slice_get, Some}
use Rattle.heap_layout.specs.Zones.{block_start}
use Rattle.object_model.specs.Objects.{size_of}
use Rattle.sessions.specs.Fitting.{class_for}
use Rattle.ideal_heap.specs.declared.command.Command.TheVariants as command
use Rattle.ideal_heap.specs.declared.reply.Reply.TheVariants as reply
use Rattle.block_regions.specs.declared.block_notes.BlockNote.TheVariants.{Owned}
use Rattle.mutator_core.specs.declared.state.Local.{Local}
use Rattle.mutator_rule.specs.declared.views.EpochStart.{EpochStart}
use Rattle.mutator_rule.specs.declared.seat_notes.SeatNotes.{SeatNotes}
use Rattle.mutator_rule.specs.Views.{epoch_with}
use Rattle.racing_mutator.specs.RacingSeats.{view, local, epoch_of_racing}
use Rattle.racing_rooms.specs.Rooms.{Holdings, holdings, UsesItsBlocks, UsesOthers, with_object}
use Rattle.plan_api.specs.Cursors.{RegionHasRoom}
use Rattle.local_allocators.specs.MutatorRegions.{MutatorRegions, KeepsHole, cursors_of}
use Rattle.local_allocators.specs.NotedSeats.{regions_in}
use Rattle.racing_rooms.specs.NoRoom.{regions_at}
use Rattle.racing_mutator.proofs.Pinned.{blocks-same}
use Rattle.racing_mutator.proofs.Allocated.{class-suits, then-enters}
use Rattle.racing_rooms.proofs.OwnRegions.{may-begin}
use Rattle.racing_mutator.proofs.RoomTaken.{placed-after}
use Rattle.racing_mutator.proofs.Written.{holds-written, searches-written, rooms-written, region-written, at-written}
use Rattle.racing_mutator.proofs.RegionsMoved.{front-after}
use Rattle.racing_mutator.proofs.racing.Racing.allocate_in.Goals as goal

pub write-requires-clause-begins : goal.write-requires-clause-begins
write-requires-clause-begins g c =
    let size : ℕ = size_of c.args.shape.now.refs c.args.shape.now.nums in
    may-begin (epoch_of_racing g.P.Plan.rules c.args.self.now) (view c.args.self.now) c.requires.ready.own.2 c.args.block (class_for g.P.Plan.rules.fill size) c.args.region.now c.requires.own
    c.args.shape.now.refs c.args.shape.now.nums c.address-address.result c.requires.small c.requires.refs c.requires.nums (class-suits g.P.Plan.rules.fill size c.requires.small) c.requires.room
    (c.address-address.ensures ∙ (λ k. block_start (c.layout.ensures k).blocks c.args.block + c.args.region.now.next) ∙ (λ k. block_start (blocks-same g.P.Plan.rules c.args.self.now c.requires.ready k) c.args.block + c.args.region.now.next))
    c.requires.ready.none c.requires.births

pub publish_in-requires-clause-stored : goal.publish_in-requires-clause-stored
publish_in-requires-clause-stored g c = ap (λ (l : Local). l.pending) c.write.ensures.wrote ∙ c.requires.ready.stored

pub publish_in-requires-clause-rooms : goal.publish_in-requires-clause-rooms
publish_in-requires-clause-rooms g c = rooms-written g.P.Plan.rules c.args.self.now c.write.new.self c.address-address.result c.args.shape.now.refs c.args.shape.now.nums c.write.ensures.makes c.write.ensures.wrote c.write.ensures.notes
    c.write.ensures.own c.requires.rooms

pub publish_in-requires-clause-note : goal.publish_in-requires-clause-note
publish_in-requires-clause-note g c = subst (λ (n : SeatNotes). slice_get n.blocks.items c.args.block ≡ Some (Owned c.args.owner c.args.region.now)) (sym c.write.ensures.notes) c.requires.note

pub publish_in-requires-clause-region : goal.publish_in-requires-clause-region
publish_in-requires-clause-region g c = region-written g.P.Plan.rules c.args.self.now c.write.new.self c.address-address.result c.args.shape.now.refs c.args.shape.now.nums c.write.ensures.makes c.write.ensures.wrote c.write.ensures.notes
    c.args.block (class_for g.P.Plan.rules.fill (size_of c.args.shape.now.refs c.args.shape.now.nums)) c.args.region.now c.requires.own

pub publish_in-requires-clause-written : goal.publish_in-requires-clause-written
publish_in-requires-clause-written g c = at-written g.P.Plan.rules c.args.self.now c.write.new.self c.address-address.result c.args.shape.now.refs c.args.shape.now.nums c.write.ensures.makes c.write.ensures.wrote c.write.ensures.notes
    c.args.block c.args.region.now (c.address-address.ensures ∙ (λ k. block_start (c.layout.ensures k).blocks c.args.block + c.args.region.now.next) ∙ (λ k. block_start (blocks-same g.P.Plan.rules c.args.self.now c.requires.ready k) c.args.block + c.args.region.now.next))

pub returns-clause-makes : goal.returns-clause-makes
returns-clause-makes g c = then-enters g.P.Plan.rules c.args.self.now c.write.new.self _ (command.New c.args.d c.args.shape.now.refs c.args.shape.now.nums) _ _ (reply.New c.publish_in.result) (reply.New c.publish_in.result) c.write.ensures.makes.goes.number refl
    c.write.ensures.makes c.publish_in.ensures.makes

pub returns-clause-holds : goal.returns-clause-holds
returns-clause-holds g c =
    let size : ℕ = size_of c.args.shape.now.refs c.args.shape.now.nums in
    c.publish_in.ensures.holds ∙ (λ k. with_object
    (holds-written g.P.Plan.rules c.args.self.now c.write.new.self c.address-address.result c.args.shape.now.refs c.args.shape.now.nums c.write.ensures.makes c.write.ensures.wrote c.write.ensures.notes k)
    (record { address = block_start (c.write.ensures.makes.goes.start k).blocks c.args.block + c.args.region.now.next; size = size }))

pub returns-clause-uses : goal.returns-clause-uses
returns-clause-uses g c uses =
    subst (λ (e : EpochStart). UsesItsBlocks (epoch_with g.P.Plan.rules e) (holdings (local c.publish_in.new.self))) c.write.ensures.makes.goes.start
    (c.publish_in.ensures.uses (subst (λ (e : EpochStart). UsesOthers (epoch_with g.P.Plan.rules e) (holdings (local c.write.new.self)) c.args.block) (sym c.write.ensures.makes.goes.start)
    (subst (λ (h : Holdings). UsesOthers (epoch_of_racing g.P.Plan.rules c.args.self.now) h c.args.block)
    (sym (holds-written g.P.Plan.rules c.args.self.now c.write.new.self c.address-address.result c.args.shape.now.refs c.args.shape.now.nums c.write.ensures.makes c.write.ensures.wrote c.write.ensures.notes)) uses)))

pub returns-clause-placed : goal.returns-clause-placed
returns-clause-placed g c = placed-after g.P.Plan.rules c.args.self.now c.write.new.self c.publish_in.new.self c.args.d (size_of c.args.shape.now.refs c.args.shape.now.nums)
    (searches-written g.P.Plan.rules c.args.self.now c.write.new.self c.address-address.result c.args.shape.now.refs c.args.shape.now.nums c.write.ensures.makes c.write.ensures.wrote c.write.ensures.notes) c.publish_in.ensures.placed

pub returns-clause-hole : goal.returns-clause-hole
returns-clause-hole g c =
    let size : ℕ = size_of c.args.shape.now.refs c.args.shape.now.nums in
    let regions : regions_at c.write.new.self.seat.now ≡ regions_at c.args.self.now.seat.now = ap (λ (n : SeatNotes). regions_in n.blocks.items n.local) c.write.ensures.notes in
    subst (λ (r : MutatorRegions). (RegionHasRoom (cursors_of r).hole size → ⊥) → KeepsHole r (regions_at c.publish_in.new.self.seat.now)) regions c.publish_in.ensures.hole

pub returns-clause-front : goal.returns-clause-front
returns-clause-front g c = front-after g.P.Plan.rules c.args.self.now.seat.now c.write.new.self.seat.now c.publish_in.new.self.seat.now c.args.block c.args.d (size_of c.args.shape.now.refs c.args.shape.now.nums) c.write.ensures.makes.goes.start
    (ap (λ (n : SeatNotes). regions_in n.blocks.items n.local) c.write.ensures.notes) c.publish_in.ensures.front
