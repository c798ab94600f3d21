use Rattle.std.proofs.Common.{◌≡◌, ◌+◌, ◌<◌, ◌≤◌, refl, sym, ◌∙◌, ap, subst, ℕ, List, [], ◌∷◌, arith, rules, length}
use Rattle.std.specs.Prelude.{Some, slice_set, slice_index, Option}
use Rattle.heap_layout.specs.Zones.{block_at, block_start}
use Rattle.ideal_heap.specs.Runs.{Entry, entry}
use Rattle.ideal_heap.specs.declared.command.Command.TheVariants as command
use Rattle.ideal_heap.specs.declared.reply.Reply.TheVariants as reply
use Rattle.object_model.specs.Objects.{size_of}
use Rattle.sessions.specs.Fitting.{class_for}
use Rattle.block_regions.specs.declared.block_notes.BlockNote.TheVariants.{Owned}
use Rattle.mutator_core.specs.declared.state.Extent.{Extent}
use Rattle.mutator_core.specs.Machine.{Epoch, address_in}
use Rattle.mutator_rule.specs.declared.views.EpochStart.{EpochStart}
use Rattle.mutator_rule.specs.declared.views.MutatorView.{MutatorView}
use Rattle.mutator_rule.specs.declared.seat_notes.SeatNotes.{SeatNotes}
use Rattle.mutator_rule.specs.Seats.{known, local_of}
use Rattle.mutator_rule.specs.Views.{epoch_with}
use Rattle.mutator_rule.specs.Logs.{MakesEntries, KnowsLog}
use Rattle.racing_mutator.specs.RacingSeats.{view, local, holdings, epoch_of_racing}
use Rattle.racing_rooms.specs.OwnHoles.{IsNextCell}
use Rattle.racing_rooms.specs.Rooms.{Holdings, IsCellRegion, with_object}
use Rattle.racing_mutator.proofs.Pinned.{blocks-of}
use Rattle.racing_mutator.proofs.Allocated.{class-suits}
use Rattle.racing_rooms.proofs.OwnRegions.{may-place, begins-here, address-is, block-is}
use Rattle.racing_mutator.proofs.RoomsMade.{rooms-made}
use Rattle.racing_mutator.proofs.Noted.{uses-filled, makes-then, noted-makes}
use Rattle.local_allocators.specs.Seats.{block_of}
use Rattle.racing_mutator.proofs.HoleKept.{hole-kept, room-apart}
use Rattle.racing_mutator.proofs.RestSeen.{rest-left, placed-as}
use Rattle.racing_mutator.proofs.RoomTaken.{placed-at, born-at}
use Rattle.block_regions.proofs.Lists.{get-below}
use Rattle.racing_mutator.proofs.RegionsMoved.{left-moved}
use Rattle.mutator_core.specs.declared.state.Local.{Local}
use Rattle.racing_mutator.specs.Regions.{IsRestOf}
use Rattle.racing_rooms.specs.NoRoom.{regions_at}
use Rattle.local_allocators.specs.NotedRegions.{region_noted}
use Rattle.local_allocators.specs.NotedSeats.{regions_in}
use Rattle.block_regions.specs.declared.block_notes.BlockNote.{BlockNote}
use Rattle.heap_layout.specs.declared.region.Region.{Region}
use Rattle.racing_mutator.proofs.racing.Racing.publish_in.Goals as goal

pub publish-name-requires-clause-place : goal.publish-name-requires-clause-place
publish-name-requires-clause-place g c =
    let p : Epoch = epoch_of_racing g.P.Plan.rules c.args.self.now in
    let size : ℕ = size_of c.args.shape.now.refs c.args.shape.now.nums in
    let room : c.args.region.now.next + size ≤ c.args.region.now.end = c.requires.room in
    let inside = c.requires.region.inside in
    address-is p.before.blocks c.args.block c.args.region.now.next size c.address-address.result c.requires.region.there (omega arith) (omega arith)
    (c.address-address.ensures ∙ (λ k. block_start (c.layout.ensures k).blocks c.args.block + c.args.region.now.next) ∙ (λ k. block_start (blocks-of g.P.Plan.rules c.args.self.now c.requires.own k) c.args.block + c.args.region.now.next))

pub publish-name-requires-clause-written : goal.publish-name-requires-clause-written
publish-name-requires-clause-written g c =
    let at : c.address-address.result ≡ block_start (epoch_of_racing g.P.Plan.rules c.args.self.now).before.blocks c.args.block + c.args.region.now.next =
    c.address-address.ensures ∙ (λ k. block_start (c.layout.ensures k).blocks c.args.block + c.args.region.now.next) ∙ (λ k. block_start (blocks-of g.P.Plan.rules c.args.self.now c.requires.own k) c.args.block + c.args.region.now.next) in
    c.requires.written ∙ (λ k. record { address = sym at k; refs = c.args.shape.now.refs; nums = c.args.shape.now.nums; written = size_of c.args.shape.now.refs c.args.shape.now.nums })

pub rest_after-rest-requires-clause-block : goal.rest_after-rest-requires-clause-block
rest_after-rest-requires-clause-block g c = subst (λ (s : EpochStart). c.args.block < (epoch_with g.P.Plan.rules s).before.blocks) (sym c.publish-name.ensures.makes.goes.start) c.requires.region.there

pub rest_after-rest-requires-clause-cell : goal.rest_after-rest-requires-clause-cell
rest_after-rest-requires-clause-cell g c cells =
    let size : ℕ = size_of c.args.shape.now.refs c.args.shape.now.nums in
    let room : c.args.region.now.next + size ≤ c.args.region.now.end = c.requires.room in
    subst (λ (n : ℕ). IsCellRegion (class_for g.P.Plan.rules.fill n) c.args.region.now) (sym c.size_words.ensures) (c.requires.region.cell cells (omega arith))

pub returns-clause-rooms : goal.returns-clause-rooms
returns-clause-rooms g c =
    let rules = g.P.Plan.rules in
    let p : Epoch = epoch_of_racing g.P.Plan.rules c.args.self.now in
    let size : ℕ = size_of c.args.shape.now.refs c.args.shape.now.nums in
    let class : ℕ = class_for g.P.Plan.rules.fill size in
    let m = c.publish-name.new.self in
    let n = c.rest_after-rest.new.self in
    let start : (view m).start ≡ (view c.args.self.now).start = c.publish-name.ensures.makes.goes.start in
    let start_n : (view n).start ≡ (view c.args.self.now).start = c.rest_after-rest.ensures.looks.makes.goes.start ∙ start in
    let known = c.note_block.ensures.known.known_stays in
    let entered : List Entry = entry (local c.args.self.now).number (command.New c.args.d c.args.shape.now.refs c.args.shape.now.nums) (reply.New c.publish-name.result) ∷ [] in
    let at : c.address-address.result ≡ block_start p.before.blocks c.args.block + c.args.region.now.next =
    c.address-address.ensures ∙ (λ k. block_start (c.layout.ensures k).blocks c.args.block + c.args.region.now.next) ∙ (λ k. block_start (blocks-of rules c.args.self.now c.requires.own k) c.args.block + c.args.region.now.next) in
    let x : Extent = record { address = block_start p.before.blocks c.args.block + c.args.region.now.next; size = size } in
    let holds : holdings (local n) ≡ with_object (holdings (local c.args.self.now)) x =
    c.rest_after-rest.ensures.looks.kept ∙ ap holdings c.publish-name.ensures.born ∙ (λ k. with_object (holdings (local c.args.self.now)) (record { address = at k; size = size })) in
    let told : KnowsLog p (view n) = subst (λ (s : EpochStart). KnowsLog (epoch_with rules s) (view n)) start_n c.rest_after-rest.ensures.ready.own.2 in
    let goes : MakesEntries rules (view c.args.self.now) entered (view n) = (makes-then rules c.args.self.now m n entered c.publish-name.ensures.makes c.rest_after-rest.ensures.looks.makes).goes in
    rooms-made rules c.args.self.now c.note_block.new.self c.args.block class c.args.owner size c.args.region.now c.rest_after-rest.result entered c.requires.rooms c.requires.note c.requires.region
    (omega arith) c.requires.room
    (rest-left p (view n) told (holdings (local c.args.self.now)) c.args.block class size c.args.region.now c.rest_after-rest.result c.requires.region (omega arith) c.requires.room holds
    (λ f. c.rest_after-rest.ensures.plain f ∙ (λ k. record { next = c.args.region.now.next + c.size_words.ensures k; end = c.args.region.now.end }))
    (λ f. subst (λ (s : EpochStart). IsNextCell (epoch_with rules s) (local n) c.args.block class c.args.region.now.end c.rest_after-rest.result) start
    (subst (λ (q : ℕ). IsNextCell (epoch_of_racing rules m) (local n) c.args.block (class_for g.P.Plan.rules.fill q) c.args.region.now.end c.rest_after-rest.result) c.size_words.ensures (c.rest_after-rest.ensures.cells f))))
    (subst (λ (v : MutatorView). MakesEntries rules (view c.args.self.now) entered v) (sym known) goes)
    (subst (λ (v : MutatorView). KnowsLog (epoch_with rules v.start) v) (sym known) c.rest_after-rest.ensures.ready.own.2)
    (ap (λ (v : MutatorView). holdings v.local) known ∙ holds)
    (c.note_block.ensures.blocks ∙ (λ k. slice_set (c.rest_after-rest.ensures.notes k).blocks.items c.args.block (Owned c.args.owner c.rest_after-rest.result)) ∙ (λ k. slice_set (c.publish-name.ensures.notes k).blocks.items c.args.block (Owned c.args.owner c.rest_after-rest.result)))
    (ap (λ (n : SeatNotes). n.local) c.note_block.ensures.rest ∙ ap (λ (n : SeatNotes). n.local) c.rest_after-rest.ensures.notes ∙ ap (λ (n : SeatNotes). n.local) c.publish-name.ensures.notes)
    (ap (λ (n : SeatNotes). n.allowance) c.note_block.ensures.rest ∙ ap (λ (n : SeatNotes). n.allowance) c.rest_after-rest.ensures.notes ∙ ap (λ (n : SeatNotes). n.allowance) c.publish-name.ensures.notes)

pub returns-clause-here : goal.returns-clause-here
returns-clause-here g c =
    let p = epoch_of_racing g.P.Plan.rules c.args.self.now in
    let size : ℕ = size_of c.args.shape.now.refs c.args.shape.now.nums in
    let m = c.publish-name.new.self in
    let n = c.rest_after-rest.new.self in
    let stays = c.note_block.ensures.known.known_stays in
    let room = c.requires.room in
    let inside = c.requires.region.inside in
    let registers : (local_of c.note_block.new.self).registers ≡ (local m).registers = ap (λ (v : MutatorView). v.local.registers) stays ∙ n.seat.now.held ∙ c.rest_after-rest.ensures.looks.registers ∙ sym m.seat.now.held in
    let start : (known c.note_block.new.self).start ≡ (view c.args.self.now).start = ap (λ (v : MutatorView). v.start) stays ∙ c.rest_after-rest.ensures.looks.makes.goes.start ∙ c.publish-name.ensures.makes.goes.start in
    let at : address_in (local_of c.note_block.new.self) c.args.d ≡ c.address-address.result = ap (λ (rs : List ℕ). slice_index rs c.args.d) registers
    ∙ born-at g.P.Plan.rules c.args.self.now.seat.now m.seat.now c.address-address.result c.args.d c.args.shape.now.refs c.args.shape.now.nums c.requires.own.2 c.requires.register c.publish-name.ensures.born in
    (λ k. block_at (start k).blocks (at k))
    ∙ block-is p.before.blocks c.args.block c.args.region.now.next size c.address-address.result c.requires.region.there (omega arith) (omega arith) (c.address-address.ensures ∙ (λ k. block_start (c.layout.ensures k).blocks c.args.block + c.args.region.now.next) ∙ (λ k. block_start (blocks-of g.P.Plan.rules c.args.self.now c.requires.own k) c.args.block + c.args.region.now.next))

pub returns-clause-hole : goal.returns-clause-hole
returns-clause-hole g c full = hole-kept c.args.self.now.seat.now c.note_block.new.self c.args.block (Owned c.args.owner c.rest_after-rest.result)
    (c.note_block.ensures.blocks ∙ (λ k. slice_set (c.rest_after-rest.ensures.notes k).blocks.items c.args.block (Owned c.args.owner c.rest_after-rest.result)) ∙ (λ k. slice_set (c.publish-name.ensures.notes k).blocks.items c.args.block (Owned c.args.owner c.rest_after-rest.result)))
    (ap (λ (n : SeatNotes). block_of (Some n.local) 0) c.note_block.ensures.rest ∙ ap (λ (n : SeatNotes). block_of (Some n.local) 0) c.rest_after-rest.ensures.notes ∙ ap (λ (n : SeatNotes). block_of (Some n.local) 0) c.publish-name.ensures.notes)
    (room-apart c.args.self.now.seat.now c.args.block c.args.owner (size_of c.args.shape.now.refs c.args.shape.now.nums) c.args.region.now c.requires.note c.requires.room full)

pub returns-clause-uses : goal.returns-clause-uses
returns-clause-uses g c uses =
    let p = epoch_of_racing g.P.Plan.rules c.args.self.now in
    let size : ℕ = size_of c.args.shape.now.refs c.args.shape.now.nums in
    let known = c.note_block.ensures.known.known_stays in
    let at : c.address-address.result ≡ block_start p.before.blocks c.args.block + c.args.region.now.next =
    c.address-address.ensures ∙ (λ k. block_start (c.layout.ensures k).blocks c.args.block + c.args.region.now.next) ∙ (λ k. block_start (blocks-of g.P.Plan.rules c.args.self.now c.requires.own k) c.args.block + c.args.region.now.next) in
    let room = c.requires.room in
    let inside = c.requires.region.inside in
    uses-filled p (holdings (local c.args.self.now)) _ (record { address = block_start p.before.blocks c.args.block + c.args.region.now.next; size = size }) c.args.block
    (ap (λ (v : MutatorView). holdings v.local) known ∙ c.rest_after-rest.ensures.looks.kept ∙ ap holdings c.publish-name.ensures.born ∙ (λ k. with_object (holdings (local c.args.self.now)) (record { address = at k; size = size })))
    (block-is p.before.blocks c.args.block c.args.region.now.next size _ c.requires.region.there (omega arith) (omega arith) refl) uses

pub returns-clause-placed : goal.returns-clause-placed
returns-clause-placed g c =
    let size : ℕ = size_of c.args.shape.now.refs c.args.shape.now.nums in
    let m = c.publish-name.new.self in
    let n = c.rest_after-rest.new.self in
    let known = c.note_block.ensures.known.known_stays in
    placed-as g.P.Plan.rules c.args.self.now.seat.now m.seat.now c.note_block.new.self c.args.d size
    (ap (λ (v : MutatorView). v.local.made) known ∙ ap (λ (h : Holdings). h.made) c.rest_after-rest.ensures.looks.kept)
    (ap (λ (v : MutatorView). v.local.owned) known ∙ ap (λ (h : Holdings). h.owned) c.rest_after-rest.ensures.looks.kept)
    (ap (λ (v : MutatorView). v.local.registers) known ∙ n.seat.now.held ∙ c.rest_after-rest.ensures.looks.registers ∙ sym m.seat.now.held)
    (placed-at g.P.Plan.rules c.args.self.now.seat.now m.seat.now c.address-address.result c.args.d c.args.shape.now.refs c.args.shape.now.nums c.requires.own.2 c.requires.register
    (may-place (epoch_of_racing g.P.Plan.rules c.args.self.now) (view c.args.self.now) c.requires.own.2 c.args.block (class_for g.P.Plan.rules.fill size) c.args.region.now c.requires.region
    c.args.shape.now.refs c.args.shape.now.nums c.address-address.result c.requires.small (class-suits g.P.Plan.rules.fill size c.requires.small) c.requires.room
    (c.address-address.ensures ∙ (λ k. block_start (c.layout.ensures k).blocks c.args.block + c.args.region.now.next) ∙ (λ k. block_start (blocks-of g.P.Plan.rules c.args.self.now c.requires.own k) c.args.block + c.args.region.now.next))).place
    (begins-here (epoch_of_racing g.P.Plan.rules c.args.self.now) (view c.args.self.now) c.requires.own.2 c.args.block (class_for g.P.Plan.rules.fill size) c.args.region.now c.requires.region
    c.args.shape.now.refs c.args.shape.now.nums c.address-address.result c.requires.room
    (c.address-address.ensures ∙ (λ k. block_start (c.layout.ensures k).blocks c.args.block + c.args.region.now.next) ∙ (λ k. block_start (blocks-of g.P.Plan.rules c.args.self.now c.requires.own k) c.args.block + c.args.region.now.next)))
    c.publish-name.ensures.born)

pub returns-clause-makes : goal.returns-clause-makes
returns-clause-makes g c =
    let entered : List Entry = entry (local c.args.self.now).number (command.New c.args.d c.args.shape.now.refs c.args.shape.now.nums) (reply.New c.publish-name.result) ∷ [] in
    makes-then g.P.Plan.rules c.args.self.now c.rest_after-rest.new.self _ entered
    (makes-then g.P.Plan.rules c.args.self.now c.publish-name.new.self c.rest_after-rest.new.self entered c.publish-name.ensures.makes c.rest_after-rest.ensures.looks.makes)
    (noted-makes g.P.Plan.rules c.rest_after-rest.new.self _ refl refl c.note_block.ensures.known (ap (λ (n : SeatNotes). n.flags) c.note_block.ensures.rest))

pub returns-clause-front : goal.returns-clause-front
returns-clause-front g c =
    let rules = g.P.Plan.rules in
    let p : Epoch = epoch_of_racing g.P.Plan.rules c.args.self.now in
    let size : ℕ = size_of c.args.shape.now.refs c.args.shape.now.nums in
    let m = c.publish-name.new.self in
    let n = c.rest_after-rest.new.self in
    let b = c.note_block.new.self in
    let rest = c.rest_after-rest.result in
    let stays = c.note_block.ensures.known.known_stays in
    let left : (regions_at c.args.self.now.seat.now).left (Some c.args.block) ≡ c.args.region.now = ap (λ (o : Option BlockNote). region_noted o) c.requires.note in
    let registers : (local_of b).registers ≡ (local m).registers = ap (λ (v : MutatorView). v.local.registers) stays ∙ n.seat.now.held ∙ c.rest_after-rest.ensures.looks.registers ∙ sym m.seat.now.held in
    let at : address_in (local_of b) c.args.d ≡ c.address-address.result = ap (λ (rs : List ℕ). slice_index rs c.args.d) registers
    ∙ born-at g.P.Plan.rules c.args.self.now.seat.now m.seat.now c.address-address.result c.args.d c.args.shape.now.refs c.args.shape.now.nums c.requires.own.2 c.requires.register c.publish-name.ensures.born in
    let leaves : IsRestOf p (local_of b) c.args.block size c.args.region.now rest = record {
      plain = λ f. c.rest_after-rest.ensures.plain f ∙ (λ k. record { next = c.args.region.now.next + c.size_words.ensures k; end = c.args.region.now.end });
      cells = λ f. subst (λ (l : Local). IsNextCell p l c.args.block (class_for g.P.Plan.rules.fill size) c.args.region.now.end rest) (sym (ap (λ (v : MutatorView). v.local) stays))
          (subst (λ (s : EpochStart). IsNextCell (epoch_with rules s) (local n) c.args.block (class_for g.P.Plan.rules.fill size) c.args.region.now.end rest) c.publish-name.ensures.makes.goes.start
          (subst (λ (q : ℕ). IsNextCell (epoch_of_racing rules m) (local n) c.args.block (class_for g.P.Plan.rules.fill q) c.args.region.now.end rest) c.size_words.ensures (c.rest_after-rest.ensures.cells f)));
    } in
    let there : c.args.block < length c.args.self.now.seat.now.notes.blocks.items = get-below c.args.self.now.seat.now.notes.blocks.items c.args.block (Owned c.args.owner c.args.region.now) c.requires.note in
    record {
      rest = rest;
      room = subst (λ (r : Region). r.next + size ≤ r.end) (sym left) c.requires.room;
      front = at ∙ c.address-address.ensures ∙ (λ k. block_start (c.layout.ensures k).blocks c.args.block + c.args.region.now.next) ∙ (λ k. block_start (blocks-of rules c.args.self.now c.requires.own k) c.args.block + (sym left k).next);
      leaves = subst (λ (r : Region). IsRestOf p (local_of b) c.args.block size r rest) (sym left) leaves;
      regions =
          (λ k. regions_in (c.note_block.ensures.blocks k) (c.note_block.ensures.rest k).local)
          ∙ (λ k. regions_in (slice_set (c.rest_after-rest.ensures.notes k).blocks.items c.args.block (Owned c.args.owner rest)) (c.rest_after-rest.ensures.notes k).local)
          ∙ (λ k. regions_in (slice_set (c.publish-name.ensures.notes k).blocks.items c.args.block (Owned c.args.owner rest)) (c.publish-name.ensures.notes k).local)
          ∙ left-moved c.args.self.now.seat.now.notes.blocks.items c.args.self.now.seat.now.notes.local c.args.block c.args.owner rest there;
    }
