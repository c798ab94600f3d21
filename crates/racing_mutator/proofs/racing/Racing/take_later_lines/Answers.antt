use Rattle.std.proofs.Common.{◌≡◌, ◌≢◌, ◌∙◌, ◌+◌, ◌*◌, ◌<◌, ◌≤◌, sym, refl, ap, subst, ℕ, arith, false, length, [], slice_index, rules}
use Rattle.std.specs.Prelude.{Option, Some, IfNone, slice_get}
use Rattle.std.specs.Vec.{vec_len}
use lib.ListN.{get_or}
use Rattle.heap_layout.specs.declared.region.Region.{Region}
use Rattle.heap_layout.specs.Zones.{LineWords, first}
use Rattle.heap_layout.specs.declared.block.Kind.TheVariants as kinds
use Rattle.plan_api.specs.Holes.{HasRoomFrom, IsFirstPart}
use Rattle.sessions.specs.Fitting.{class_for}
use Rattle.block_regions.specs.declared.block_notes.BlockNote.TheVariants.{Owned}
use Rattle.block_regions.proofs.Lists.{get-below}
use Rattle.local_allocators.specs.Seats.{block_of}
use Rattle.local_allocators.proofs.SeatRegions.{lines-for}
use Rattle.mutator_core.specs.Machine.{Epoch}
use Rattle.mutator_core.specs.Logs.{heap_after}
use Rattle.mutator_rule.specs.declared.seat_notes.SeatNotes.{SeatNotes}
use Rattle.mutator_rule.specs.declared.views.EpochStart.{EpochStart}
use Rattle.mutator_rule.specs.Views.{epoch_with}
use Rattle.racing_mutator.specs.RacingSeats.{view, local, holdings, epoch_of_racing}
use Rattle.racing_rooms.specs.Rooms.{Holdings, AllocatesIn, IsOwnRegion}
use Rattle.racing_rooms.specs.NoRoom.{LacksOwn}
use Rattle.racing_mutator.specs.Searches.{NotesOwn}
use Rattle.racing_rooms.proofs.RoomsKept.{rooms-kept}
use Rattle.racing_rooms.proofs.RoomsNoted.{hole-allocates, same-region}
use Rattle.racing_mutator.proofs.OwnLacks.{lacks-in-block, none-at-end, none-later, first-later, later-own}
use Rattle.racing_mutator.proofs.OwnReturns.{note-read, note-is, takes-noted, kept-noted, ready-after, rooms-again, found-again}
use Rattle.racing_mutator.proofs.RegionsMoved.{finds-noted}
use Rattle.racing_mutator.specs.Regions.{later_hole}
use Rattle.local_allocators.specs.NotedRegions.{region_noted}
use Rattle.block_regions.specs.declared.block_notes.BlockNote.{BlockNote}
use Rattle.racing_mutator.proofs.racing.Racing.take_later_lines.Goals as goal

pub index-requires : goal.index-requires
index-requires g c =
    let here : block_of (Some c.args.self.now.seat.now.notes.local) 0 ≡ Some c.in_ok-block.block = (λ k. block_of (Some (sym c.notes.ensures k).local) 0) ∙ c.in_ok-block.ensures.some.1 in
    let items = c.args.self.now.seat.now.notes.blocks.items in
    let a : AllocatesIn (epoch_of_racing g.P.Plan.rules c.args.self.now) (holdings (local c.args.self.now)) items 0 c.in_ok-block.block = hole-allocates _ _ _ items c.args.self.now.seat.now.notes.local _ c.requires.rooms c.in_ok-block.block here in
    let there : c.in_ok-block.block < length items = get-below items c.in_ok-block.block (Owned a.owner a.region) a.note in
    let ok = c.args.self.now.seat.now.notes.blocks.ok.0 in
    subst (λ (n : SeatNotes). c.in_ok-block.block < vec_len n.blocks) (sym c.notes-2.ensures) (omega (arith, there, ok))

pub returns-in_default-clause-lacks : goal.returns-in_default-clause-lacks
returns-in_default-clause-lacks g c =
    let here : block_of (Some c.args.self.now.seat.now.notes.local) 0 ≡ Some c.in_ok-block.block = (λ k. block_of (Some (sym c.notes.ensures k).local) 0) ∙ c.in_ok-block.ensures.some.1 in
    let items = c.args.self.now.seat.now.notes.blocks.items in
    let a : AllocatesIn (epoch_of_racing g.P.Plan.rules c.args.self.now) (holdings (local c.args.self.now)) items 0 c.in_ok-block.block = hole-allocates _ _ _ items c.args.self.now.seat.now.notes.local _ c.requires.rooms c.in_ok-block.block here in
    let there : c.in_ok-block.block < length items = get-below items c.in_ok-block.block (Owned a.owner a.region) a.note in
    absurd (c.in_default.not-Owned a.owner a.region (note-is items c.in_ok-block.block c.index.result.now (Owned a.owner a.region) there
    (c.index.ensures ∙ (λ k. get_or (c.notes-2.ensures k).blocks.items c.in_ok-block.block c.index.result.now)) a.note))

pub returns-then-region-eq-BLOCK_WORDS-clause-lacks : goal.returns-then-region-eq-BLOCK_WORDS-clause-lacks
returns-then-region-eq-BLOCK_WORDS-clause-lacks g c =
    let here : block_of (Some c.args.self.now.seat.now.notes.local) 0 ≡ Some c.in_ok-block.block = (λ k. block_of (Some (sym c.notes.ensures k).local) 0) ∙ c.in_ok-block.ensures.some.1 in
    let items = c.args.self.now.seat.now.notes.blocks.items in
    let a : AllocatesIn (epoch_of_racing g.P.Plan.rules c.args.self.now) (holdings (local c.args.self.now)) items 0 c.in_ok-block.block = hole-allocates _ _ _ items c.args.self.now.seat.now.notes.local _ c.requires.rooms c.in_ok-block.block here in
    let there : c.in_ok-block.block < length items = get-below items c.in_ok-block.block (Owned a.owner a.region) a.note in
    let note : slice_get items c.in_ok-block.block ≡ Some (Owned c.in-Owned.owner c.in-Owned.region) =
    note-read items c.in_ok-block.block c.index.result.now c.in-Owned.owner c.in-Owned.region there (c.index.ensures ∙ (λ k. get_or (c.notes-2.ensures k).blocks.items c.in_ok-block.block c.index.result.now)) c.in-Owned.is in
    let own : IsOwnRegion (epoch_of_racing g.P.Plan.rules c.args.self.now) (holdings (local c.args.self.now)) c.in_ok-block.block 0 c.in-Owned.region =
    subst (λ (r : Region). IsOwnRegion (epoch_of_racing g.P.Plan.rules c.args.self.now) (holdings (local c.args.self.now)) c.in_ok-block.block 0 r) (same-region items c.in_ok-block.block a.owner c.in-Owned.owner a.region c.in-Owned.region a.note note) a.room in
    let least : 3 ≤ c.args.size = c.requires.least in
    let all : c.in-Owned.region.end ≡ 4096 = c.if-region-eq-BLOCK_WORDS.true in
    lacks-in-block g.P.Plan.rules c.args.self.now.seat.now c.args.size c.in_ok-block.block c.in-Owned.owner c.in-Owned.region c.requires.lines here note
    (λ next end room. none-at-end _ c.in_ok-block.block c.args.size next end (omega (arith, least)) (subst (λ (e : ℕ). HasRoomFrom kinds.Immix (heap_after (epoch_of_racing g.P.Plan.rules c.args.self.now) (view c.args.self.now).seen) c.in_ok-block.block e c.args.size next end) all room))

pub look_lines-lines-requires-clause-block : goal.look_lines-lines-requires-clause-block
look_lines-lines-requires-clause-block g c =
    let here : block_of (Some c.args.self.now.seat.now.notes.local) 0 ≡ Some c.in_ok-block.block = (λ k. block_of (Some (sym c.notes.ensures k).local) 0) ∙ c.in_ok-block.ensures.some.1 in
    let items = c.args.self.now.seat.now.notes.blocks.items in
    let a : AllocatesIn (epoch_of_racing g.P.Plan.rules c.args.self.now) (holdings (local c.args.self.now)) items 0 c.in_ok-block.block = hole-allocates _ _ _ items c.args.self.now.seat.now.notes.local _ c.requires.rooms c.in_ok-block.block here in
    let there : c.in_ok-block.block < length items = get-below items c.in_ok-block.block (Owned a.owner a.region) a.note in
    a.room.there

pub returns-in_err-hole-clause-rooms : goal.returns-in_err-hole-clause-rooms
returns-in_err-hole-clause-rooms g c = rooms-kept g.P.Plan.rules c.args.self.now.seat.now c.look_lines-lines.new.self.seat.now [] c.look_lines-lines.ensures.looks.makes.goes c.look_lines-lines.ensures.ready.own.2 c.look_lines-lines.ensures.looks.kept c.look_lines-lines.ensures.looks.rooms c.requires.rooms

pub returns-in_err-hole-clause-lacks : goal.returns-in_err-hole-clause-lacks
returns-in_err-hole-clause-lacks g c =
    let here : block_of (Some c.args.self.now.seat.now.notes.local) 0 ≡ Some c.in_ok-block.block = (λ k. block_of (Some (sym c.notes.ensures k).local) 0) ∙ c.in_ok-block.ensures.some.1 in
    let items = c.args.self.now.seat.now.notes.blocks.items in
    let a : AllocatesIn (epoch_of_racing g.P.Plan.rules c.args.self.now) (holdings (local c.args.self.now)) items 0 c.in_ok-block.block = hole-allocates _ _ _ items c.args.self.now.seat.now.notes.local _ c.requires.rooms c.in_ok-block.block here in
    let there : c.in_ok-block.block < length items = get-below items c.in_ok-block.block (Owned a.owner a.region) a.note in
    let note : slice_get items c.in_ok-block.block ≡ Some (Owned c.in-Owned.owner c.in-Owned.region) =
    note-read items c.in_ok-block.block c.index.result.now c.in-Owned.owner c.in-Owned.region there (c.index.ensures ∙ (λ k. get_or (c.notes-2.ensures k).blocks.items c.in_ok-block.block c.index.result.now)) c.in-Owned.is in
    let own : IsOwnRegion (epoch_of_racing g.P.Plan.rules c.args.self.now) (holdings (local c.args.self.now)) c.in_ok-block.block 0 c.in-Owned.region =
    subst (λ (r : Region). IsOwnRegion (epoch_of_racing g.P.Plan.rules c.args.self.now) (holdings (local c.args.self.now)) c.in_ok-block.block 0 r) (same-region items c.in_ok-block.block a.owner c.in-Owned.owner a.region c.in-Owned.region a.note note) a.room in
    let least : 3 ≤ c.args.size = c.requires.least in
    let n = c.look_lines-lines.new.self in
    let p : Epoch = epoch_of_racing g.P.Plan.rules n in
    let start = c.look_lines-lines.ensures.looks.makes.goes.start in
    let own_n : IsOwnRegion p (holdings (local n)) c.in_ok-block.block 0 c.in-Owned.region =
    subst (λ (s : EpochStart). IsOwnRegion (epoch_with g.P.Plan.rules s) (holdings (local n)) c.in_ok-block.block 0 c.in-Owned.region) (sym start)
    (subst (λ (h : Holdings). IsOwnRegion (epoch_of_racing g.P.Plan.rules c.args.self.now) h c.in_ok-block.block 0 c.in-Owned.region) (sym c.look_lines-lines.ensures.looks.kept) own) in
    let read : (j : ℕ) → j < 4 → slice_index c.look_lines-lines.result j ≡ slice_index p.before.words (first p.before.blocks LineWords + 4 * c.in_ok-block.block + j) =
    subst (λ (s : EpochStart). (j : ℕ) → j < 4 → slice_index c.look_lines-lines.result j ≡ slice_index (epoch_with g.P.Plan.rules s).before.words (first (epoch_with g.P.Plan.rules s).before.blocks LineWords + 4 * c.in_ok-block.block + j)) (sym start) c.look_lines-lines.ensures.words in
    subst (λ (o : Option ℕ). IfNone o (LacksOwn g.P.Plan.rules n.seat.now c.args.size)) (sym c.from_residual-in_err-hole.ensures) (lacks-in-block g.P.Plan.rules n.seat.now c.args.size c.in_ok-block.block c.in-Owned.owner c.in-Owned.region c.requires.lines
    ((λ k. block_of (Some (c.look_lines-lines.ensures.notes k).local) 0) ∙ here) ((λ k. slice_get (c.look_lines-lines.ensures.notes k).blocks.items c.in_ok-block.block) ∙ note)
    (none-later p (view n) c.look_lines-lines.ensures.ready.own.2 c.in_ok-block.block 0 c.args.size c.in-Owned.region c.look_lines-lines.result (omega (arith, least)) own_n c.requires.lines read c.in_err-hole.ensures))

pub returns-clause-takes : goal.returns-clause-takes
returns-clause-takes g c = takes-noted g.P.Plan.rules c.args.self.now c.look_lines-lines.new.self c.note_own.new.self c.look_lines-lines.ensures.looks c.look_lines-lines.ensures.births c.look_lines-lines.ensures.ready c.note_own.ensures.known c.note_own.ensures.row c.note_own.ensures.seat c.note_own.ensures.notes.flags

pub returns-clause-kept : goal.returns-clause-kept
returns-clause-kept g c = kept-noted g.P.Plan.rules c.args.self.now c.look_lines-lines.new.self c.note_own.new.self c.look_lines-lines.ensures.looks c.look_lines-lines.ensures.births c.look_lines-lines.ensures.ready c.note_own.ensures.known c.note_own.ensures.row c.note_own.ensures.seat

pub returns-clause-ready : goal.returns-clause-ready
returns-clause-ready g c = ready-after g.P.Plan.rules c.args.self.now c.look_lines-lines.new.self c.note_own.new.self c.look_lines-lines.ensures.looks c.look_lines-lines.ensures.births c.look_lines-lines.ensures.ready c.note_own.ensures.known c.note_own.ensures.row c.note_own.ensures.seat

pub returns-clause-rooms : goal.returns-clause-rooms
returns-clause-rooms g c =
    let here : block_of (Some c.args.self.now.seat.now.notes.local) 0 ≡ Some c.in_ok-block.block = (λ k. block_of (Some (sym c.notes.ensures k).local) 0) ∙ c.in_ok-block.ensures.some.1 in
    let items = c.args.self.now.seat.now.notes.blocks.items in
    let a : AllocatesIn (epoch_of_racing g.P.Plan.rules c.args.self.now) (holdings (local c.args.self.now)) items 0 c.in_ok-block.block = hole-allocates _ _ _ items c.args.self.now.seat.now.notes.local _ c.requires.rooms c.in_ok-block.block here in
    let there : c.in_ok-block.block < length items = get-below items c.in_ok-block.block (Owned a.owner a.region) a.note in
    let note : slice_get items c.in_ok-block.block ≡ Some (Owned c.in-Owned.owner c.in-Owned.region) =
    note-read items c.in_ok-block.block c.index.result.now c.in-Owned.owner c.in-Owned.region there (c.index.ensures ∙ (λ k. get_or (c.notes-2.ensures k).blocks.items c.in_ok-block.block c.index.result.now)) c.in-Owned.is in
    let own : IsOwnRegion (epoch_of_racing g.P.Plan.rules c.args.self.now) (holdings (local c.args.self.now)) c.in_ok-block.block 0 c.in-Owned.region =
    subst (λ (r : Region). IsOwnRegion (epoch_of_racing g.P.Plan.rules c.args.self.now) (holdings (local c.args.self.now)) c.in_ok-block.block 0 r) (same-region items c.in_ok-block.block a.owner c.in-Owned.owner a.region c.in-Owned.region a.note note) a.room in
    let least : 3 ≤ c.args.size = c.requires.least in
    let low : c.in-Owned.region.end ≢ 4096 = λ e. omega (arith, e, c.if-region-eq-BLOCK_WORDS.false) in
    let n = c.look_lines-lines.new.self in
    let left = later-own (epoch_of_racing g.P.Plan.rules c.args.self.now) (view c.args.self.now) c.requires.ready.own.2 c.in_ok-block.block 0 c.args.size c.in-Owned.region c.look_lines-lines.result (omega (arith, least)) own c.requires.lines c.look_lines-lines.ensures.words low c.in_ok-hole.hole c.in_ok-hole.ensures in
    let number : ℕ = c.look_lines-lines.new.self.seat.now.number in
    let class : ℕ = class_for g.P.Plan.rules.fill c.args.size in
    let zero : class ≡ 0 = lines-for g.P.Plan.rules.fill c.args.size c.requires.lines in
    let noted : NotesOwn c.args.self.now.seat.now.notes c.note_own.new.self.seat.now.notes false c.in_ok-block.block class (Owned number c.in_ok-hole.hole) c.notes-3.result.now.local.ticket =
    subst (λ (m : SeatNotes). NotesOwn m c.note_own.new.self.seat.now.notes false c.in_ok-block.block class (Owned number c.in_ok-hole.hole) c.notes-3.result.now.local.ticket) c.look_lines-lines.ensures.notes
    (subst (λ (q : ℕ). NotesOwn c.look_lines-lines.new.self.seat.now.notes c.note_own.new.self.seat.now.notes false c.in_ok-block.block q (Owned number c.in_ok-hole.hole) c.notes-3.result.now.local.ticket) c.class_for.ensures c.note_own.ensures.notes) in
    rooms-again g.P.Plan.rules c.args.self.now c.look_lines-lines.new.self c.note_own.new.self c.look_lines-lines.ensures.looks c.look_lines-lines.ensures.births c.look_lines-lines.ensures.ready c.note_own.ensures.known c.note_own.ensures.row c.note_own.ensures.seat
    c.in_ok-block.block class c.in-Owned.owner number c.in-Owned.region c.in_ok-hole.hole c.notes-3.result.now.local.ticket c.requires.rooms note
    (subst (λ (q : ℕ). IsOwnRegion (epoch_of_racing g.P.Plan.rules c.args.self.now) (holdings (local c.args.self.now)) c.in_ok-block.block q c.in-Owned.region) (sym zero) own)
    left (omega arith) noted (ap (λ (m : SeatNotes). m.local.ticket) (c.notes-3.ensures ∙ c.look_lines-lines.ensures.notes))

pub returns-clause-found : goal.returns-clause-found
returns-clause-found g c =
    let here : block_of (Some c.args.self.now.seat.now.notes.local) 0 ≡ Some c.in_ok-block.block = (λ k. block_of (Some (sym c.notes.ensures k).local) 0) ∙ c.in_ok-block.ensures.some.1 in
    let items = c.args.self.now.seat.now.notes.blocks.items in
    let a : AllocatesIn (epoch_of_racing g.P.Plan.rules c.args.self.now) (holdings (local c.args.self.now)) items 0 c.in_ok-block.block = hole-allocates _ _ _ items c.args.self.now.seat.now.notes.local _ c.requires.rooms c.in_ok-block.block here in
    let there : c.in_ok-block.block < length items = get-below items c.in_ok-block.block (Owned a.owner a.region) a.note in
    let note : slice_get items c.in_ok-block.block ≡ Some (Owned c.in-Owned.owner c.in-Owned.region) =
    note-read items c.in_ok-block.block c.index.result.now c.in-Owned.owner c.in-Owned.region there (c.index.ensures ∙ (λ k. get_or (c.notes-2.ensures k).blocks.items c.in_ok-block.block c.index.result.now)) c.in-Owned.is in
    let own : IsOwnRegion (epoch_of_racing g.P.Plan.rules c.args.self.now) (holdings (local c.args.self.now)) c.in_ok-block.block 0 c.in-Owned.region =
    subst (λ (r : Region). IsOwnRegion (epoch_of_racing g.P.Plan.rules c.args.self.now) (holdings (local c.args.self.now)) c.in_ok-block.block 0 r) (same-region items c.in_ok-block.block a.owner c.in-Owned.owner a.region c.in-Owned.region a.note note) a.room in
    let least : 3 ≤ c.args.size = c.requires.least in
    let low : c.in-Owned.region.end ≢ 4096 = λ e. omega (arith, e, c.if-region-eq-BLOCK_WORDS.false) in
    let n = c.look_lines-lines.new.self in
    let left = later-own (epoch_of_racing g.P.Plan.rules c.args.self.now) (view c.args.self.now) c.requires.ready.own.2 c.in_ok-block.block 0 c.args.size c.in-Owned.region c.look_lines-lines.result (omega (arith, least)) own c.requires.lines c.look_lines-lines.ensures.words low c.in_ok-hole.hole c.in_ok-hole.ensures in
    let number : ℕ = c.look_lines-lines.new.self.seat.now.number in
    let class : ℕ = class_for g.P.Plan.rules.fill c.args.size in
    let zero : class ≡ 0 = lines-for g.P.Plan.rules.fill c.args.size c.requires.lines in
    let noted : NotesOwn c.args.self.now.seat.now.notes c.note_own.new.self.seat.now.notes false c.in_ok-block.block class (Owned number c.in_ok-hole.hole) c.notes-3.result.now.local.ticket =
    subst (λ (m : SeatNotes). NotesOwn m c.note_own.new.self.seat.now.notes false c.in_ok-block.block class (Owned number c.in_ok-hole.hole) c.notes-3.result.now.local.ticket) c.look_lines-lines.ensures.notes
    (subst (λ (q : ℕ). NotesOwn c.look_lines-lines.new.self.seat.now.notes c.note_own.new.self.seat.now.notes false c.in_ok-block.block q (Owned number c.in_ok-hole.hole) c.notes-3.result.now.local.ticket) c.class_for.ensures c.note_own.ensures.notes) in
    let first_hole = first-later (epoch_of_racing g.P.Plan.rules c.args.self.now) (view c.args.self.now) c.requires.ready.own.2 c.in_ok-block.block 0 c.args.size c.in-Owned.region c.look_lines-lines.result (omega (arith, least)) own c.requires.lines c.look_lines-lines.ensures.words low c.in_ok-hole.hole c.in_ok-hole.ensures in
    found-again g.P.Plan.rules c.args.self.now c.look_lines-lines.new.self c.note_own.new.self c.look_lines-lines.ensures.looks c.look_lines-lines.ensures.births c.look_lines-lines.ensures.ready c.note_own.ensures.known c.note_own.ensures.row c.note_own.ensures.seat
    c.in_ok-block.block class c.in-Owned.owner number c.in-Owned.region c.in_ok-hole.hole c.notes-3.result.now.local.ticket c.requires.rooms note
    (subst (λ (q : ℕ). IsOwnRegion (epoch_of_racing g.P.Plan.rules c.args.self.now) (holdings (local c.args.self.now)) c.in_ok-block.block q c.in-Owned.region) (sym zero) own)
    left (omega arith) noted (ap (λ (m : SeatNotes). m.local.ticket) (c.notes-3.ensures ∙ c.look_lines-lines.ensures.notes))
    c.args.size first_hole.hole.room

pub returns-clause-region : goal.returns-clause-region
returns-clause-region g c =
    let here : block_of (Some c.args.self.now.seat.now.notes.local) 0 ≡ Some c.in_ok-block.block = (λ k. block_of (Some (sym c.notes.ensures k).local) 0) ∙ c.in_ok-block.ensures.some.1 in
    let items = c.args.self.now.seat.now.notes.blocks.items in
    let p : Epoch = epoch_of_racing g.P.Plan.rules c.args.self.now in
    let a : AllocatesIn p (holdings (local c.args.self.now)) items 0 c.in_ok-block.block = hole-allocates _ _ _ items c.args.self.now.seat.now.notes.local _ c.requires.rooms c.in_ok-block.block here in
    let there : c.in_ok-block.block < length items = get-below items c.in_ok-block.block (Owned a.owner a.region) a.note in
    let note : slice_get items c.in_ok-block.block ≡ Some (Owned c.in-Owned.owner c.in-Owned.region) =
    note-read items c.in_ok-block.block c.index.result.now c.in-Owned.owner c.in-Owned.region there (c.index.ensures ∙ (λ k. get_or (c.notes-2.ensures k).blocks.items c.in_ok-block.block c.index.result.now)) c.in-Owned.is in
    let own : IsOwnRegion p (holdings (local c.args.self.now)) c.in_ok-block.block 0 c.in-Owned.region =
    subst (λ (r : Region). IsOwnRegion p (holdings (local c.args.self.now)) c.in_ok-block.block 0 r) (same-region items c.in_ok-block.block a.owner c.in-Owned.owner a.region c.in-Owned.region a.note note) a.room in
    let least : 3 ≤ c.args.size = c.requires.least in
    let low : c.in-Owned.region.end ≢ 4096 = λ e. omega (arith, e, c.if-region-eq-BLOCK_WORDS.false) in
    let number : ℕ = c.look_lines-lines.new.self.seat.now.number in
    let ticket = c.notes-3.result.now.local.ticket in
    let class : ℕ = class_for g.P.Plan.rules.fill c.args.size in
    let noted : NotesOwn c.args.self.now.seat.now.notes c.note_own.new.self.seat.now.notes false c.in_ok-block.block class (Owned number c.in_ok-hole.hole) ticket =
    subst (λ (m : SeatNotes). NotesOwn m c.note_own.new.self.seat.now.notes false c.in_ok-block.block class (Owned number c.in_ok-hole.hole) ticket) c.look_lines-lines.ensures.notes
    (subst (λ (q : ℕ). NotesOwn c.look_lines-lines.new.self.seat.now.notes c.note_own.new.self.seat.now.notes false c.in_ok-block.block q (Owned number c.in_ok-hole.hole) ticket) c.class_for.ensures c.note_own.ensures.notes) in
    let first_hole = first-later p (view c.args.self.now) c.requires.ready.own.2 c.in_ok-block.block 0 c.args.size c.in-Owned.region c.look_lines-lines.result (omega (arith, least)) own c.requires.lines c.look_lines-lines.ensures.words low c.in_ok-hole.hole c.in_ok-hole.ensures in
    let kept = kept-noted g.P.Plan.rules c.args.self.now c.look_lines-lines.new.self c.note_own.new.self c.look_lines-lines.ensures.looks c.look_lines-lines.ensures.births c.look_lines-lines.ensures.ready c.note_own.ensures.known c.note_own.ensures.row c.note_own.ensures.seat in
    finds-noted g.P.Plan.rules c.args.self.now.seat.now c.note_own.new.self.seat.now false c.in_ok-block.block c.args.size number c.in_ok-hole.hole ticket noted c.requires.rooms a.room.there
    (later_hole (ap (λ (h : Holdings). h.owned) kept) (c.requires.full c.requires.lines) here refl
    (subst (λ (o : Option BlockNote). IsFirstPart kinds.Immix p.before c.in_ok-block.block (region_noted o).end c.args.size c.in_ok-hole.hole) (sym note) first_hole))
