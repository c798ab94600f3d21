use Rattle.std.proofs.Common.{◌≡◌, ◌∙◌, ◌-◌, ◌<◌, ◌≤◌, sym, refl, ap, subst, ℕ, arith, false, length, [], rules}
use Rattle.std.specs.Prelude.{Some, slice_get, Option}
use Rattle.std.specs.Vec.{vec_len}
use lib.ListN.{get_or}
use Rattle.sessions.specs.Fitting.{class_for}
use Rattle.block_regions.specs.declared.block_notes.BlockNote.TheVariants.{Owned}
use Rattle.block_regions.proofs.FilledKinds.{class-few}
use Rattle.mutator_rule.specs.declared.seat_notes.SeatNotes.{SeatNotes}
use Rattle.racing_mutator.specs.RacingSeats.{local, holdings, epoch_of_racing}
use Rattle.racing_rooms.specs.Rooms.{Holdings, IsOwnRegion}
use Rattle.racing_rooms.proofs.RoomsKept.{rooms-kept}
use Rattle.racing_mutator.specs.Searches.{NotesOwn}
use Rattle.racing_mutator.proofs.OwnReturns.{note-read, left-full, takes-noted, kept-noted, ready-after, rooms-again, found-again}
use Rattle.racing_mutator.proofs.RegionsMoved.{finds-noted}
use Rattle.racing_mutator.specs.Regions.{own_block}
use Rattle.local_allocators.specs.NotedRegions.{region_noted}
use Rattle.block_regions.specs.declared.block_notes.BlockNote.{BlockNote}
use Rattle.racing_mutator.proofs.racing.Racing.return_to.Goals as goal

pub index-requires : goal.index-requires
index-requires g c =
    let there : c.args.block < (epoch_of_racing g.P.Plan.rules c.args.self.now).before.blocks = c.requires.block in
    let len : length c.args.self.now.seat.now.notes.blocks.items ≡ (epoch_of_racing g.P.Plan.rules c.args.self.now).before.blocks = c.requires.rooms.len in
    let ok = c.args.self.now.seat.now.notes.blocks.ok.0 in
    subst (λ (n : SeatNotes). c.args.block < vec_len n.blocks) (sym c.notes.ensures) (omega (arith, there, len, ok))

pub overflow_sub-left : goal.overflow_sub-left
overflow_sub-left g c =
    let items = c.args.self.now.seat.now.notes.blocks.items in
    let there : c.args.block < length items = subst (λ (n : ℕ). c.args.block < n) (sym c.requires.rooms.len) c.requires.block in
    let note : slice_get items c.args.block ≡ Some (Owned c.in-Owned.owner c.in-Owned.region) =
    note-read items c.args.block c.index.result.now c.in-Owned.owner c.in-Owned.region there (c.index.ensures ∙ (λ k. get_or (c.notes.ensures k).blocks.items c.args.block c.index.result.now)) c.in-Owned.is in
    (c.requires.rooms.owned c.args.block c.in-Owned.owner c.in-Owned.region note).1.order

pub returns-then-left-size-clause-lacks : goal.returns-then-left-size-clause-lacks
returns-then-left-size-clause-lacks g c none =
    let items = c.args.self.now.seat.now.notes.blocks.items in
    let there : c.args.block < length items = subst (λ (n : ℕ). c.args.block < n) (sym c.requires.rooms.len) c.requires.block in
    let note : slice_get items c.args.block ≡ Some (Owned c.in-Owned.owner c.in-Owned.region) =
    note-read items c.args.block c.index.result.now c.in-Owned.owner c.in-Owned.region there (c.index.ensures ∙ (λ k. get_or (c.notes.ensures k).blocks.items c.args.block c.index.result.now)) c.in-Owned.is in
    let order : c.in-Owned.region.next ≤ c.in-Owned.region.end = (c.requires.rooms.owned c.args.block c.in-Owned.owner c.in-Owned.region note).1.order in
    left-full (epoch_of_racing g.P.Plan.rules c.args.self.now) (holdings (local c.args.self.now)) items c.args.block c.args.size c.in-Owned.owner c.in-Owned.region note (omega (arith, order, c.if-left-size.true))

pub own_class-requires-clause-mine : goal.own_class-requires-clause-mine
own_class-requires-clause-mine g c =
    let items = c.args.self.now.seat.now.notes.blocks.items in
    let there : c.args.block < length items = subst (λ (n : ℕ). c.args.block < n) (sym c.requires.rooms.len) c.requires.block in
    let note : slice_get items c.args.block ≡ Some (Owned c.in-Owned.owner c.in-Owned.region) =
    note-read items c.args.block c.index.result.now c.in-Owned.owner c.in-Owned.region there (c.index.ensures ∙ (λ k. get_or (c.notes.ensures k).blocks.items c.args.block c.index.result.now)) c.in-Owned.is in
    let own = c.requires.rooms.owned c.args.block c.in-Owned.owner c.in-Owned.region note in
    (own.0, own.1.mine)

pub returns-then-own_class-class-clause-rooms : goal.returns-then-own_class-class-clause-rooms
returns-then-own_class-class-clause-rooms g c =
    rooms-kept g.P.Plan.rules c.args.self.now.seat.now c.own_class.new.self.seat.now [] c.own_class.ensures.looks.makes.goes c.own_class.ensures.ready.own.2 c.own_class.ensures.looks.kept c.own_class.ensures.looks.rooms c.requires.rooms

pub returns-then-own_class-class-clause-lacks : goal.returns-then-own_class-class-clause-lacks
returns-then-own_class-class-clause-lacks g c none owner region note mine =
    let class : c.own_class.result ≡ class_for g.P.Plan.rules.fill c.args.size = c.own_class.ensures.class (class_for g.P.Plan.rules.fill c.args.size) mine in
    let same : c.class_for-class.result ≡ class_for g.P.Plan.rules.fill c.args.size = c.class_for-class.ensures in
    absurd (omega (arith, class, same, c.if-own_class-class.true))

pub returns-clause-takes : goal.returns-clause-takes
returns-clause-takes g c = takes-noted g.P.Plan.rules c.args.self.now c.own_class.new.self c.note_own.new.self c.own_class.ensures.looks c.own_class.ensures.births c.own_class.ensures.ready c.note_own.ensures.known c.note_own.ensures.row c.note_own.ensures.seat c.note_own.ensures.notes.flags

pub returns-clause-kept : goal.returns-clause-kept
returns-clause-kept g c = kept-noted g.P.Plan.rules c.args.self.now c.own_class.new.self c.note_own.new.self c.own_class.ensures.looks c.own_class.ensures.births c.own_class.ensures.ready c.note_own.ensures.known c.note_own.ensures.row c.note_own.ensures.seat

pub returns-clause-ready : goal.returns-clause-ready
returns-clause-ready g c = ready-after g.P.Plan.rules c.args.self.now c.own_class.new.self c.note_own.new.self c.own_class.ensures.looks c.own_class.ensures.births c.own_class.ensures.ready c.note_own.ensures.known c.note_own.ensures.row c.note_own.ensures.seat

pub returns-clause-rooms : goal.returns-clause-rooms
returns-clause-rooms g c =
    let a = c.args.self.now in
    let items = c.args.self.now.seat.now.notes.blocks.items in
    let there : c.args.block < length items = subst (λ (n : ℕ). c.args.block < n) (sym c.requires.rooms.len) c.requires.block in
    let note : slice_get items c.args.block ≡ Some (Owned c.in-Owned.owner c.in-Owned.region) =
    note-read items c.args.block c.index.result.now c.in-Owned.owner c.in-Owned.region there (c.index.ensures ∙ (λ k. get_or (c.notes.ensures k).blocks.items c.args.block c.index.result.now)) c.in-Owned.is in
    let class : ℕ = class_for g.P.Plan.rules.fill c.args.size in
    let own = c.requires.rooms.owned c.args.block c.in-Owned.owner c.in-Owned.region note in
    let read : c.own_class.result ≡ own.0 = c.own_class.ensures.class own.0 own.1.mine in
    let for_size : c.class_for-class.result ≡ class = c.class_for-class.ensures in
    let is : own.0 ≡ class = omega (arith, read, for_size, c.if-own_class-class.false) in
    let number : ℕ = c.own_class.new.self.seat.now.number in
    let noted : NotesOwn c.args.self.now.seat.now.notes c.note_own.new.self.seat.now.notes false c.args.block class (Owned number c.in-Owned.region) c.notes-2.result.now.local.ticket =
    subst (λ (m : SeatNotes). NotesOwn m c.note_own.new.self.seat.now.notes false c.args.block class (Owned number c.in-Owned.region) c.notes-2.result.now.local.ticket) c.own_class.ensures.notes
    (subst (λ (q : ℕ). NotesOwn c.own_class.new.self.seat.now.notes c.note_own.new.self.seat.now.notes false c.args.block q (Owned number c.in-Owned.region) c.notes-2.result.now.local.ticket) for_size c.note_own.ensures.notes) in
    rooms-again g.P.Plan.rules a c.own_class.new.self c.note_own.new.self c.own_class.ensures.looks c.own_class.ensures.births c.own_class.ensures.ready c.note_own.ensures.known c.note_own.ensures.row c.note_own.ensures.seat
    c.args.block class c.in-Owned.owner number c.in-Owned.region c.in-Owned.region c.notes-2.result.now.local.ticket c.requires.rooms note (subst (λ (q : ℕ). IsOwnRegion (epoch_of_racing g.P.Plan.rules c.args.self.now) (holdings (local c.args.self.now)) c.args.block q c.in-Owned.region) is own.1)
    (λ q same. same) (let few = class-few g.P.Plan.rules.fill c.args.size in omega arith) noted (ap (λ (m : SeatNotes). m.local.ticket) (c.notes-2.ensures ∙ c.own_class.ensures.notes))

pub returns-clause-found : goal.returns-clause-found
returns-clause-found g c done =
    let a = c.args.self.now in
    let items = c.args.self.now.seat.now.notes.blocks.items in
    let there : c.args.block < length items = subst (λ (n : ℕ). c.args.block < n) (sym c.requires.rooms.len) c.requires.block in
    let note : slice_get items c.args.block ≡ Some (Owned c.in-Owned.owner c.in-Owned.region) =
    note-read items c.args.block c.index.result.now c.in-Owned.owner c.in-Owned.region there (c.index.ensures ∙ (λ k. get_or (c.notes.ensures k).blocks.items c.args.block c.index.result.now)) c.in-Owned.is in
    let class : ℕ = class_for g.P.Plan.rules.fill c.args.size in
    let own = c.requires.rooms.owned c.args.block c.in-Owned.owner c.in-Owned.region note in
    let read : c.own_class.result ≡ own.0 = c.own_class.ensures.class own.0 own.1.mine in
    let for_size : c.class_for-class.result ≡ class = c.class_for-class.ensures in
    let is : own.0 ≡ class = omega (arith, read, for_size, c.if-own_class-class.false) in
    let number : ℕ = c.own_class.new.self.seat.now.number in
    let noted : NotesOwn c.args.self.now.seat.now.notes c.note_own.new.self.seat.now.notes false c.args.block class (Owned number c.in-Owned.region) c.notes-2.result.now.local.ticket =
    subst (λ (m : SeatNotes). NotesOwn m c.note_own.new.self.seat.now.notes false c.args.block class (Owned number c.in-Owned.region) c.notes-2.result.now.local.ticket) c.own_class.ensures.notes
    (subst (λ (q : ℕ). NotesOwn c.own_class.new.self.seat.now.notes c.note_own.new.self.seat.now.notes false c.args.block q (Owned number c.in-Owned.region) c.notes-2.result.now.local.ticket) for_size c.note_own.ensures.notes) in
    let order : c.in-Owned.region.next ≤ c.in-Owned.region.end = own.1.order in
    found-again g.P.Plan.rules a c.own_class.new.self c.note_own.new.self c.own_class.ensures.looks c.own_class.ensures.births c.own_class.ensures.ready c.note_own.ensures.known c.note_own.ensures.row c.note_own.ensures.seat
    c.args.block class c.in-Owned.owner number c.in-Owned.region c.in-Owned.region c.notes-2.result.now.local.ticket c.requires.rooms note (subst (λ (q : ℕ). IsOwnRegion (epoch_of_racing g.P.Plan.rules c.args.self.now) (holdings (local c.args.self.now)) c.args.block q c.in-Owned.region) is own.1)
    (λ q same. same) (let few = class-few g.P.Plan.rules.fill c.args.size in omega arith) noted (ap (λ (m : SeatNotes). m.local.ticket) (c.notes-2.ensures ∙ c.own_class.ensures.notes))
    c.args.size (omega (arith, order, c.if-left-size.false))

pub returns-clause-region : goal.returns-clause-region
returns-clause-region g c done =
    let items = c.args.self.now.seat.now.notes.blocks.items in
    let there : c.args.block < length items = subst (λ (n : ℕ). c.args.block < n) (sym c.requires.rooms.len) c.requires.block in
    let note : slice_get items c.args.block ≡ Some (Owned c.in-Owned.owner c.in-Owned.region) =
    note-read items c.args.block c.index.result.now c.in-Owned.owner c.in-Owned.region there (c.index.ensures ∙ (λ k. get_or (c.notes.ensures k).blocks.items c.args.block c.index.result.now)) c.in-Owned.is in
    let number : ℕ = c.own_class.new.self.seat.now.number in
    let ticket = c.notes-2.result.now.local.ticket in
    let noted : NotesOwn c.args.self.now.seat.now.notes c.note_own.new.self.seat.now.notes false c.args.block (class_for g.P.Plan.rules.fill c.args.size) (Owned number c.in-Owned.region) ticket =
    subst (λ (m : SeatNotes). NotesOwn m c.note_own.new.self.seat.now.notes false c.args.block (class_for g.P.Plan.rules.fill c.args.size) (Owned number c.in-Owned.region) ticket) c.own_class.ensures.notes
    (subst (λ (q : ℕ). NotesOwn c.own_class.new.self.seat.now.notes c.note_own.new.self.seat.now.notes false c.args.block q (Owned number c.in-Owned.region) ticket) c.class_for-class.ensures c.note_own.ensures.notes) in
    let kept = kept-noted g.P.Plan.rules c.args.self.now c.own_class.new.self c.note_own.new.self c.own_class.ensures.looks c.own_class.ensures.births c.own_class.ensures.ready c.note_own.ensures.known c.note_own.ensures.row c.note_own.ensures.seat in
    finds-noted g.P.Plan.rules c.args.self.now.seat.now c.note_own.new.self.seat.now false c.args.block c.args.size number c.in-Owned.region ticket noted c.requires.rooms c.requires.block
    (own_block (ap (λ (h : Holdings). h.owned) kept) c.requires.plain refl (sym (ap (λ (o : Option BlockNote). region_noted o) note)))
