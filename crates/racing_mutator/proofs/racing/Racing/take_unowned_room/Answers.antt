use Rattle.std.proofs.Common.{◌≡◌, ◌∙◌, refl, ap, subst, ℕ, inl, true, false, arith, rules}
use Rattle.sessions.specs.Fitting.{class_for}
use Rattle.block_regions.specs.declared.block_notes.BlockNote.TheVariants.{Owned}
use Rattle.plan_api.proofs.BlockViews.{orderly-apart}
use Rattle.mutator_rule.specs.declared.seat_notes.SeatNotes.{SeatNotes}
use Rattle.racing_mutator.specs.RacingSeats.{epoch_of_racing, local}
use Rattle.racing_mutator.specs.Searches.{NotesOwn}
use Rattle.racing_mutator.proofs.Searched.{searches-both, uses-after}
use Rattle.racing_mutator.proofs.HolesPassed.{only-both, only-missed, missed-rooms, still-noted, only-takes, takes-after, same-start, regions-unchanged}
use Rattle.racing_mutator.proofs.LinesSeen.{first-shown}
use Rattle.racing_mutator.proofs.HolesTaken.{rooms-b, found-b, uses-b, searches-b, takes-b}
use Rattle.racing_mutator.proofs.RegionsMoved.{finds-noted, finds-after}
use Rattle.racing_mutator.specs.Regions.{unowned_hole}
use Rattle.racing_rooms.specs.Rooms.{Holdings}
use Rattle.racing_mutator.proofs.racing.Racing.take_unowned_room.Goals as goal

pub take_unowned-requires-clause-word : goal.take_unowned-requires-clause-word
take_unowned-requires-clause-word g c = c.in-Some.ensures.sees.word

pub pass_over-requires-clause-rooms : goal.pass_over-requires-clause-rooms
pass_over-requires-clause-rooms g c =
    let is : c.take_unowned.result ≡ false = search rules in
    missed-rooms g.P.Plan.rules c.look_for_hole.new.self c.take_unowned.new.self c.take_unowned.ensures.makes c.take_unowned.ensures.ready (c.take_unowned.ensures.kept is) c.take_unowned.ensures.notes c.look_for_hole.ensures.rooms

pub pass_over-requires-clause-note : goal.pass_over-requires-clause-note
pass_over-requires-clause-note g c = still-noted g.P.Plan.rules c.look_for_hole.new.self c.take_unowned.new.self c.args.block c.take_unowned.ensures.notes (c.look_for_hole.ensures.only.notes.unowned c.args.block c.requires.note)

pub pass_over-requires-clause-lacks : goal.pass_over-requires-clause-lacks
pass_over-requires-clause-lacks g c =
    let is : c.take_unowned.result ≡ false = search rules in
    inl (c.take_unowned.ensures.owner is)

pub returns-then-not-take_unowned-clause-only : goal.returns-then-not-take_unowned-clause-only
returns-then-not-take_unowned-clause-only g c =
    let is : c.take_unowned.result ≡ false = search rules in
    λ done. only-both g.P.Plan.rules c.args.self.now c.look_for_hole.new.self c.pass_over.new.self c.look_for_hole.ensures.only (only-both g.P.Plan.rules c.look_for_hole.new.self c.take_unowned.new.self c.pass_over.new.self
    (only-missed g.P.Plan.rules c.look_for_hole.new.self c.take_unowned.new.self c.take_unowned.ensures.makes c.take_unowned.ensures.raised c.take_unowned.ensures.births (c.take_unowned.ensures.kept is) c.take_unowned.ensures.notes) c.pass_over.ensures.only)

pub returns-then-not-take_unowned-clause-lacks : goal.returns-then-not-take_unowned-clause-lacks
returns-then-not-take_unowned-clause-lacks g c =
    let is : c.take_unowned.result ≡ false = search rules in
    λ done. c.pass_over.ensures.lacking c.args.size (inl (c.take_unowned.ensures.owner is))

pub returns-clause-rooms : goal.returns-clause-rooms
returns-clause-rooms g c =
    let is : c.take_unowned.result ≡ true = search rules in
    let l = c.look_for_hole.new.self in
    let t = c.take_unowned.new.self in
    let b = c.note_own.new.self in
    let sees = c.in-Some.ensures.sees in
    let there = same-start g.P.Plan.rules c.args.self.now l c.args.block c.look_for_hole.ensures.only.searches.makes.goes.start c.requires.block in
    let first = first-shown (epoch_of_racing g.P.Plan.rules l) _ c.args.block c.args.size c.in-Some.region sees (λ v looks. c.take_unowned.ensures.viewed v is looks) (orderly-apart _ c.args.block c.look_for_hole.ensures.ready.own.2.epoch.ready.lawful.but_lines.order) in
    let noted = subst (λ (n : ℕ). NotesOwn t.seat.now.notes b.seat.now.notes false c.args.block n (Owned t.seat.now.number c.in-Some.region) c.notes.result.now.local.ticket) c.class_for.ensures c.note_own.ensures.notes in
    rooms-b g.P.Plan.rules l t b c.args.block c.args.size t.seat.now.number c.in-Some.region c.notes.result.now.local.ticket g.met.P.Plan.fill_has_holes c.look_for_hole.ensures.rooms there (let least = c.requires.least in omega arith)
    c.take_unowned.ensures.makes (c.take_unowned.ensures.taken is) sees.word first (λ x made. c.take_unowned.ensures.fresh x is made) (λ o among. c.take_unowned.ensures.nobody o is among) c.take_unowned.ensures.notes c.take_unowned.ensures.ready
    c.note_own.ensures.known c.note_own.ensures.row c.note_own.ensures.seat (ap (λ (n : SeatNotes). n.local.ticket) c.notes.ensures ∙ ap (λ (n : SeatNotes). n.local.ticket) c.take_unowned.ensures.notes) noted

pub returns-clause-found : goal.returns-clause-found
returns-clause-found g c done =
    let is : c.take_unowned.result ≡ true = search rules in
    let l = c.look_for_hole.new.self in
    let t = c.take_unowned.new.self in
    let b = c.note_own.new.self in
    let sees = c.in-Some.ensures.sees in
    let there = same-start g.P.Plan.rules c.args.self.now l c.args.block c.look_for_hole.ensures.only.searches.makes.goes.start c.requires.block in
    let first = first-shown (epoch_of_racing g.P.Plan.rules l) _ c.args.block c.args.size c.in-Some.region sees (λ v looks. c.take_unowned.ensures.viewed v is looks) (orderly-apart _ c.args.block c.look_for_hole.ensures.ready.own.2.epoch.ready.lawful.but_lines.order) in
    let noted = subst (λ (n : ℕ). NotesOwn t.seat.now.notes b.seat.now.notes false c.args.block n (Owned t.seat.now.number c.in-Some.region) c.notes.result.now.local.ticket) c.class_for.ensures c.note_own.ensures.notes in
    found-b g.P.Plan.rules l t b c.args.block c.args.size t.seat.now.number c.in-Some.region c.notes.result.now.local.ticket g.met.P.Plan.fill_has_holes c.look_for_hole.ensures.rooms there (let least = c.requires.least in omega arith)
    c.take_unowned.ensures.makes (c.take_unowned.ensures.taken is) sees.word first (λ x made. c.take_unowned.ensures.fresh x is made) (λ o among. c.take_unowned.ensures.nobody o is among) c.take_unowned.ensures.notes c.take_unowned.ensures.ready
    c.note_own.ensures.known c.note_own.ensures.row c.note_own.ensures.seat (ap (λ (n : SeatNotes). n.local.ticket) c.notes.ensures ∙ ap (λ (n : SeatNotes). n.local.ticket) c.take_unowned.ensures.notes) noted

pub returns-clause-searches : goal.returns-clause-searches
returns-clause-searches g c done =
    let is : c.take_unowned.result ≡ true = search rules in
    let l = c.look_for_hole.new.self in
    let t = c.take_unowned.new.self in
    let b = c.note_own.new.self in
    let sees = c.in-Some.ensures.sees in
    let there = same-start g.P.Plan.rules c.args.self.now l c.args.block c.look_for_hole.ensures.only.searches.makes.goes.start c.requires.block in
    let first = first-shown (epoch_of_racing g.P.Plan.rules l) _ c.args.block c.args.size c.in-Some.region sees (λ v looks. c.take_unowned.ensures.viewed v is looks) (orderly-apart _ c.args.block c.look_for_hole.ensures.ready.own.2.epoch.ready.lawful.but_lines.order) in
    let noted = subst (λ (n : ℕ). NotesOwn t.seat.now.notes b.seat.now.notes false c.args.block n (Owned t.seat.now.number c.in-Some.region) c.notes.result.now.local.ticket) c.class_for.ensures c.note_own.ensures.notes in
    searches-both g.P.Plan.rules c.args.self.now l b c.look_for_hole.ensures.only.searches
    (searches-b g.P.Plan.rules l t b c.args.block c.args.size t.seat.now.number c.in-Some.region c.notes.result.now.local.ticket g.met.P.Plan.fill_has_holes c.look_for_hole.ensures.rooms there (let least = c.requires.least in omega arith)
    c.take_unowned.ensures.makes (c.take_unowned.ensures.taken is) sees.word first (λ x made. c.take_unowned.ensures.fresh x is made) (λ o among. c.take_unowned.ensures.nobody o is among) c.take_unowned.ensures.notes c.take_unowned.ensures.ready
    c.note_own.ensures.known c.note_own.ensures.row c.note_own.ensures.seat (ap (λ (n : SeatNotes). n.local.ticket) c.notes.ensures ∙ ap (λ (n : SeatNotes). n.local.ticket) c.take_unowned.ensures.notes) noted c.take_unowned.ensures.raised c.take_unowned.ensures.births)

pub returns-clause-uses : goal.returns-clause-uses
returns-clause-uses g c done =
    let is : c.take_unowned.result ≡ true = search rules in
    let l = c.look_for_hole.new.self in
    let t = c.take_unowned.new.self in
    let b = c.note_own.new.self in
    let sees = c.in-Some.ensures.sees in
    let there = same-start g.P.Plan.rules c.args.self.now l c.args.block c.look_for_hole.ensures.only.searches.makes.goes.start c.requires.block in
    let first = first-shown (epoch_of_racing g.P.Plan.rules l) _ c.args.block c.args.size c.in-Some.region sees (λ v looks. c.take_unowned.ensures.viewed v is looks) (orderly-apart _ c.args.block c.look_for_hole.ensures.ready.own.2.epoch.ready.lawful.but_lines.order) in
    let noted = subst (λ (n : ℕ). NotesOwn t.seat.now.notes b.seat.now.notes false c.args.block n (Owned t.seat.now.number c.in-Some.region) c.notes.result.now.local.ticket) c.class_for.ensures c.note_own.ensures.notes in
    uses-after g.P.Plan.rules c.args.self.now l b c.args.block (only-takes g.P.Plan.rules c.args.self.now l c.look_for_hole.ensures.only)
    (uses-b g.P.Plan.rules l t b c.args.block c.args.size t.seat.now.number c.in-Some.region c.notes.result.now.local.ticket g.met.P.Plan.fill_has_holes c.look_for_hole.ensures.rooms there (let least = c.requires.least in omega arith)
    c.take_unowned.ensures.makes (c.take_unowned.ensures.taken is) sees.word first (λ x made. c.take_unowned.ensures.fresh x is made) (λ o among. c.take_unowned.ensures.nobody o is among) c.take_unowned.ensures.notes c.take_unowned.ensures.ready
    c.note_own.ensures.known c.note_own.ensures.row c.note_own.ensures.seat (ap (λ (n : SeatNotes). n.local.ticket) c.notes.ensures ∙ ap (λ (n : SeatNotes). n.local.ticket) c.take_unowned.ensures.notes) noted)

pub returns-clause-takes : goal.returns-clause-takes
returns-clause-takes g c done =
    let is : c.take_unowned.result ≡ true = search rules in
    let l = c.look_for_hole.new.self in
    let t = c.take_unowned.new.self in
    let b = c.note_own.new.self in
    let sees = c.in-Some.ensures.sees in
    let there = same-start g.P.Plan.rules c.args.self.now l c.args.block c.look_for_hole.ensures.only.searches.makes.goes.start c.requires.block in
    let first = first-shown (epoch_of_racing g.P.Plan.rules l) _ c.args.block c.args.size c.in-Some.region sees (λ v looks. c.take_unowned.ensures.viewed v is looks) (orderly-apart _ c.args.block c.look_for_hole.ensures.ready.own.2.epoch.ready.lawful.but_lines.order) in
    let noted = subst (λ (n : ℕ). NotesOwn t.seat.now.notes b.seat.now.notes false c.args.block n (Owned t.seat.now.number c.in-Some.region) c.notes.result.now.local.ticket) c.class_for.ensures c.note_own.ensures.notes in
    takes-after g.P.Plan.rules c.args.self.now l b c.args.block (class_for g.P.Plan.rules.fill c.args.size) c.look_for_hole.ensures.only
    (takes-b g.P.Plan.rules l t b c.args.block c.args.size t.seat.now.number c.in-Some.region c.notes.result.now.local.ticket g.met.P.Plan.fill_has_holes c.look_for_hole.ensures.rooms there (let least = c.requires.least in omega arith)
    c.take_unowned.ensures.makes (c.take_unowned.ensures.taken is) sees.word first (λ x made. c.take_unowned.ensures.fresh x is made) (λ o among. c.take_unowned.ensures.nobody o is among) c.take_unowned.ensures.notes c.take_unowned.ensures.ready
    c.note_own.ensures.known c.note_own.ensures.row c.note_own.ensures.seat (ap (λ (n : SeatNotes). n.local.ticket) c.notes.ensures ∙ ap (λ (n : SeatNotes). n.local.ticket) c.take_unowned.ensures.notes) noted)

pub returns-clause-region : goal.returns-clause-region
returns-clause-region g c done =
    let is : c.take_unowned.result ≡ true = search rules in
    let l = c.look_for_hole.new.self in
    let t = c.take_unowned.new.self in
    let b = c.note_own.new.self in
    let sees = c.in-Some.ensures.sees in
    let there = same-start g.P.Plan.rules c.args.self.now l c.args.block c.look_for_hole.ensures.only.searches.makes.goes.start c.requires.block in
    let first = first-shown (epoch_of_racing g.P.Plan.rules l) _ c.args.block c.args.size c.in-Some.region sees (λ v looks. c.take_unowned.ensures.viewed v is looks) (orderly-apart _ c.args.block c.look_for_hole.ensures.ready.own.2.epoch.ready.lawful.but_lines.order) in
    let noted = subst (λ (n : ℕ). NotesOwn t.seat.now.notes b.seat.now.notes false c.args.block n (Owned t.seat.now.number c.in-Some.region) c.notes.result.now.local.ticket) c.class_for.ensures c.note_own.ensures.notes in
    let takes = takes-b g.P.Plan.rules l t b c.args.block c.args.size t.seat.now.number c.in-Some.region c.notes.result.now.local.ticket g.met.P.Plan.fill_has_holes c.look_for_hole.ensures.rooms there (let least = c.requires.least in omega arith)
    c.take_unowned.ensures.makes (c.take_unowned.ensures.taken is) sees.word first (λ x made. c.take_unowned.ensures.fresh x is made) (λ o among. c.take_unowned.ensures.nobody o is among) c.take_unowned.ensures.notes c.take_unowned.ensures.ready
    c.note_own.ensures.known c.note_own.ensures.row c.note_own.ensures.seat (ap (λ (n : SeatNotes). n.local.ticket) c.notes.ensures ∙ ap (λ (n : SeatNotes). n.local.ticket) c.take_unowned.ensures.notes) noted in
    let only = c.look_for_hole.ensures.only in
    finds-after g.P.Plan.rules c.args.self.now.seat.now l.seat.now b.seat.now c.args.size c.args.block only.searches.makes.goes.start
    (regions-unchanged c.args.self.now.seat.now l.seat.now only.notes) (ap (λ (h : Holdings). h.owned) only.kept) (ap (λ (h : Holdings). h.granted) only.kept)
    (finds-noted g.P.Plan.rules l.seat.now b.seat.now false c.args.block c.args.size t.seat.now.number c.in-Some.region c.notes.result.now.local.ticket
    (subst (λ (m : SeatNotes). NotesOwn m b.seat.now.notes false c.args.block (class_for g.P.Plan.rules.fill c.args.size) (Owned t.seat.now.number c.in-Some.region) c.notes.result.now.local.ticket) c.take_unowned.ensures.notes noted)
    c.look_for_hole.ensures.rooms there (unowned_hole takes.owned takes.granted refl first))
