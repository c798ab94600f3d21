use Rattle.std.proofs.Common.{◌≡◌, ◌%◌, ◌≤◌, Bool, refl, sym, ◌∙◌, ap, subst, ℕ, [], true, false, arith, rules}
use Rattle.std.specs.Prelude.{None}
use Rattle.sessions.specs.Fitting.{class_for}
use Rattle.block_regions.specs.Regions.{first_region}
use Rattle.block_regions.specs.declared.block_notes.BlockNote.TheVariants.{Owned}
use Rattle.heap_layout.specs.declared.region.Region.{Region}
use Rattle.local_allocators.specs.MutatorRegions.{cursors_of, Overflows}
use Rattle.local_allocators.specs.NotedSeats.{HasNotedBlocks, regions_in}
use Rattle.mutator_core.specs.declared.state.Local.{Local}
use Rattle.mutator_core.specs.Guards.{HasTicket}
use Rattle.mutator_core.specs.Seen.{HasSeenUsed}
use Rattle.mutator_rule.specs.declared.views.EpochStart.{EpochStart}
use Rattle.mutator_rule.specs.declared.views.MutatorView.{MutatorView}
use Rattle.mutator_rule.specs.declared.seat_notes.SeatNotes.{SeatNotes}
use Rattle.mutator_rule.specs.Views.{epoch_with}
use Rattle.racing_mutator.specs.RacingSeats.{local, Holdings}
use Rattle.racing_mutator.specs.SeatLaws.{makes-both}
use Rattle.racing_mutator.specs.Searches.{NotesOwn}
use Rattle.racing_mutator.proofs.Entered.{rooms-same}
use Rattle.racing_mutator.proofs.Allocated.{more-seen, seen-word}
use Rattle.racing_rooms.proofs.RoomsKept.{rooms-kept}
use Rattle.racing_rooms.proofs.RoomsNoted.{as-read, has-noted, hole-order}
use Rattle.racing_mutator.proofs.FreeTaken.{rooms-b, found-b, uses-b, searches-b, takes-b, hole-b}
use Rattle.racing_mutator.proofs.RegionsMoved.{finds-noted}
use Rattle.racing_mutator.specs.Regions.{free_block}
use Rattle.racing_mutator.proofs.racing.Racing.take_free_room.Goals as goal

over-is : (b : Bool) → (b ≡ false → ⊥) → b ≡ true
over-is true other = refl
over-is false other = absurd (other refl)

pub returns-then-look_block-clause-rooms : goal.returns-then-look_block-clause-rooms
returns-then-look_block-clause-rooms g c = rooms-kept g.P.Plan.rules c.args.self.now.seat.now c.look_block.new.self.seat.now [] c.look_block.ensures.looks.makes.goes c.look_block.ensures.ready.own.2 c.look_block.ensures.looks.kept c.look_block.ensures.looks.rooms c.requires.rooms

pub returns-then-look_block-clause-used : goal.returns-then-look_block-clause-used
returns-then-look_block-clause-used g c is = seen-word (local c.args.self.now) (local c.look_block.new.self) c.args.block c.look_block.result c.look_block.ensures.loaded (λ (zero : c.look_block.result % 256 ≡ 0). omega (arith, c.if-look_block.true, zero))

pub returns-then-look_block-clause-still : goal.returns-then-look_block-clause-still
returns-then-look_block-clause-still g c k saw = more-seen (local c.args.self.now) (local c.look_block.new.self) (record { at = c.args.block; word = c.look_block.result }) (ap (λ (l : Local). l.blocks) c.look_block.ensures.loaded) k saw

pub take_free-requires-clause-ticket : goal.take_free-requires-clause-ticket
take_free-requires-clause-ticket g c = subst (λ (e : EpochStart). HasTicket (epoch_with g.P.Plan.rules e) (local c.look_block.new.self)) (sym c.look_block.ensures.looks.makes.goes.start)
    (c.requires.ticket.0, ap (λ (l : Local). l.ticket) c.look_block.ensures.loaded ∙ c.requires.ticket.1, c.requires.ticket.2)

pub returns-then-not-take_free-clause-rooms : goal.returns-then-not-take_free-clause-rooms
returns-then-not-take_free-clause-rooms g c =
    let is : c.take_free.result ≡ false = search rules in
    rooms-kept g.P.Plan.rules c.args.self.now.seat.now c.take_free.new.self.seat.now [] (makes-both g.P.Plan.rules c.args.self.now c.look_block.new.self c.take_free.new.self [] [] c.look_block.ensures.looks.makes c.take_free.ensures.makes).goes c.take_free.ensures.ready.own.2
    (c.take_free.ensures.kept is ∙ c.look_block.ensures.looks.kept) (rooms-same c.args.self.now.seat.now.notes c.take_free.new.self.seat.now.notes (c.take_free.ensures.notes ∙ c.look_block.ensures.notes)) c.requires.rooms

pub returns-then-not-take_free-clause-searches : goal.returns-then-not-take_free-clause-searches
returns-then-not-take_free-clause-searches g c =
    let is : c.take_free.result ≡ false = search rules in
    record {
      makes = makes-both g.P.Plan.rules c.args.self.now c.look_block.new.self c.take_free.new.self [] [] c.look_block.ensures.looks.makes c.take_free.ensures.makes;
      raised = c.take_free.ensures.raised ∙ c.look_block.ensures.looks.raised;
      births = c.take_free.ensures.births ∙ ap (λ (l : Local). l.births) c.look_block.ensures.loaded;
      made = ap (λ (h : Holdings). h.made) (c.take_free.ensures.kept is) ∙ ap (λ (l : Local). l.made) c.look_block.ensures.loaded;
    }

pub returns-then-not-take_free-clause-still : goal.returns-then-not-take_free-clause-still
returns-then-not-take_free-clause-still g c k saw = c.take_free.ensures.still k (more-seen (local c.args.self.now) (local c.look_block.new.self) (record { at = c.args.block; word = c.look_block.result }) (ap (λ (l : Local). l.blocks) c.look_block.ensures.loaded) k saw)

pub overflows-over-requires-clause-seat : goal.overflows-over-requires-clause-seat
overflows-over-requires-clause-seat g c =
    let noted = c.notes-notes.ensures ∙ c.take_free.ensures.notes ∙ c.look_block.ensures.notes in
    as-read HasNotedBlocks _ _ _ _ _ _ c.alloc_kind.ensures (c.deref.ensures.value ∙ ap (λ (n : SeatNotes). n.blocks.items) noted) (ap (λ (n : SeatNotes). n.local) noted) (has-noted _ _ _ _ _ _ c.requires.rooms)

pub overflows-over-requires-clause-hole : goal.overflows-over-requires-clause-hole
overflows-over-requires-clause-hole g c lines =
    let noted = c.notes-notes.ensures ∙ c.take_free.ensures.notes ∙ c.look_block.ensures.notes in
    as-read (λ f ns x. (cursors_of (regions_in ns x)).hole.next ≤ (cursors_of (regions_in ns x)).hole.end) c.alloc_kind.result _ _ _ _ _ c.alloc_kind.ensures (c.deref.ensures.value ∙ ap (λ (n : SeatNotes). n.blocks.items) noted) (ap (λ (n : SeatNotes). n.local) noted)
    (hole-order _ _ _ _ _ _ c.requires.rooms)

pub returns-clause-rooms : goal.returns-clause-rooms
returns-clause-rooms g c =
    let is : c.take_free.result ≡ true = search rules in
    let num : ℕ = c.take_free.new.self.seat.now.number in
    let region : c.first_region-region.result ≡ first_region g.P.Plan.rules.fill (class_for g.P.Plan.rules.fill c.args.size) = c.first_region-region.ensures ∙ (λ k. first_region (c.alloc_kind-2.ensures k) (class_for (c.alloc_kind-2.ensures k) c.args.size)) in
    let noted = subst (λ (n : ℕ). NotesOwn c.take_free.new.self.seat.now.notes c.note_own.new.self.seat.now.notes c.overflows-over.result c.args.block n (Owned num (first_region g.P.Plan.rules.fill (class_for g.P.Plan.rules.fill c.args.size))) None) c.class_for-class.ensures
    (subst (λ (r : Region). NotesOwn c.take_free.new.self.seat.now.notes c.note_own.new.self.seat.now.notes c.overflows-over.result c.args.block c.class_for-class.result (Owned num r) None) region c.note_own.ensures.notes) in
    rooms-b g.P.Plan.rules c.args.self.now c.look_block.new.self c.take_free.new.self c.note_own.new.self c.args.block c.args.size c.look_block.result c.take_free.new.self.seat.now.number c.overflows-over.result c.requires.rooms c.requires.block c.requires.most
    c.look_block.ensures.looks c.look_block.ensures.loaded c.look_block.ensures.notes c.take_free.ensures.makes (c.take_free.ensures.taken is) (c.take_free.ensures.free is) (λ x made. c.take_free.ensures.fresh x is made) (λ o among. c.take_free.ensures.nobody o is among)
    c.take_free.ensures.notes c.take_free.ensures.ready c.note_own.ensures.known c.note_own.ensures.row c.note_own.ensures.seat (λ over. sym c.alloc_kind.ensures ∙ (c.overflows-over.ensures.yes over).over.lines) noted

pub returns-clause-searches : goal.returns-clause-searches
returns-clause-searches g c =
    let is : c.take_free.result ≡ true = search rules in
    let num : ℕ = c.take_free.new.self.seat.now.number in
    let region : c.first_region-region.result ≡ first_region g.P.Plan.rules.fill (class_for g.P.Plan.rules.fill c.args.size) = c.first_region-region.ensures ∙ (λ k. first_region (c.alloc_kind-2.ensures k) (class_for (c.alloc_kind-2.ensures k) c.args.size)) in
    let noted = subst (λ (n : ℕ). NotesOwn c.take_free.new.self.seat.now.notes c.note_own.new.self.seat.now.notes c.overflows-over.result c.args.block n (Owned num (first_region g.P.Plan.rules.fill (class_for g.P.Plan.rules.fill c.args.size))) None) c.class_for-class.ensures
    (subst (λ (r : Region). NotesOwn c.take_free.new.self.seat.now.notes c.note_own.new.self.seat.now.notes c.overflows-over.result c.args.block c.class_for-class.result (Owned num r) None) region c.note_own.ensures.notes) in
    searches-b g.P.Plan.rules c.args.self.now c.look_block.new.self c.take_free.new.self c.note_own.new.self c.args.block c.args.size c.look_block.result c.take_free.new.self.seat.now.number c.overflows-over.result c.requires.rooms c.requires.block c.requires.most
    c.look_block.ensures.looks c.look_block.ensures.loaded c.look_block.ensures.notes c.take_free.ensures.makes (c.take_free.ensures.taken is) (c.take_free.ensures.free is) (λ x made. c.take_free.ensures.fresh x is made) (λ o among. c.take_free.ensures.nobody o is among)
    c.take_free.ensures.notes c.take_free.ensures.ready c.note_own.ensures.known c.note_own.ensures.row c.note_own.ensures.seat (λ over. sym c.alloc_kind.ensures ∙ (c.overflows-over.ensures.yes over).over.lines) noted c.take_free.ensures.raised c.take_free.ensures.births

pub returns-clause-found : goal.returns-clause-found
returns-clause-found g c done =
    let is : c.take_free.result ≡ true = search rules in
    let num : ℕ = c.take_free.new.self.seat.now.number in
    let region : c.first_region-region.result ≡ first_region g.P.Plan.rules.fill (class_for g.P.Plan.rules.fill c.args.size) = c.first_region-region.ensures ∙ (λ k. first_region (c.alloc_kind-2.ensures k) (class_for (c.alloc_kind-2.ensures k) c.args.size)) in
    let noted = subst (λ (n : ℕ). NotesOwn c.take_free.new.self.seat.now.notes c.note_own.new.self.seat.now.notes c.overflows-over.result c.args.block n (Owned num (first_region g.P.Plan.rules.fill (class_for g.P.Plan.rules.fill c.args.size))) None) c.class_for-class.ensures
    (subst (λ (r : Region). NotesOwn c.take_free.new.self.seat.now.notes c.note_own.new.self.seat.now.notes c.overflows-over.result c.args.block c.class_for-class.result (Owned num r) None) region c.note_own.ensures.notes) in
    found-b g.P.Plan.rules c.args.self.now c.look_block.new.self c.take_free.new.self c.note_own.new.self c.args.block c.args.size c.look_block.result c.take_free.new.self.seat.now.number c.overflows-over.result c.requires.rooms c.requires.block c.requires.most
    c.look_block.ensures.looks c.look_block.ensures.loaded c.look_block.ensures.notes c.take_free.ensures.makes (c.take_free.ensures.taken is) (c.take_free.ensures.free is) (λ x made. c.take_free.ensures.fresh x is made) (λ o among. c.take_free.ensures.nobody o is among)
    c.take_free.ensures.notes c.take_free.ensures.ready c.note_own.ensures.known c.note_own.ensures.row c.note_own.ensures.seat (λ over. sym c.alloc_kind.ensures ∙ (c.overflows-over.ensures.yes over).over.lines) noted

pub returns-clause-uses : goal.returns-clause-uses
returns-clause-uses g c done uses =
    let is : c.take_free.result ≡ true = search rules in
    let num : ℕ = c.take_free.new.self.seat.now.number in
    let region : c.first_region-region.result ≡ first_region g.P.Plan.rules.fill (class_for g.P.Plan.rules.fill c.args.size) = c.first_region-region.ensures ∙ (λ k. first_region (c.alloc_kind-2.ensures k) (class_for (c.alloc_kind-2.ensures k) c.args.size)) in
    let noted = subst (λ (n : ℕ). NotesOwn c.take_free.new.self.seat.now.notes c.note_own.new.self.seat.now.notes c.overflows-over.result c.args.block n (Owned num (first_region g.P.Plan.rules.fill (class_for g.P.Plan.rules.fill c.args.size))) None) c.class_for-class.ensures
    (subst (λ (r : Region). NotesOwn c.take_free.new.self.seat.now.notes c.note_own.new.self.seat.now.notes c.overflows-over.result c.args.block c.class_for-class.result (Owned num r) None) region c.note_own.ensures.notes) in
    uses-b g.P.Plan.rules c.args.self.now c.look_block.new.self c.take_free.new.self c.note_own.new.self c.args.block c.args.size c.look_block.result c.take_free.new.self.seat.now.number c.overflows-over.result c.requires.rooms c.requires.block c.requires.most
    c.look_block.ensures.looks c.look_block.ensures.loaded c.look_block.ensures.notes c.take_free.ensures.makes (c.take_free.ensures.taken is) (c.take_free.ensures.free is) (λ x made. c.take_free.ensures.fresh x is made) (λ o among. c.take_free.ensures.nobody o is among)
    c.take_free.ensures.notes c.take_free.ensures.ready c.note_own.ensures.known c.note_own.ensures.row c.note_own.ensures.seat (λ over. sym c.alloc_kind.ensures ∙ (c.overflows-over.ensures.yes over).over.lines) noted uses

pub returns-clause-takes : goal.returns-clause-takes
returns-clause-takes g c done =
    let is : c.take_free.result ≡ true = search rules in
    let num : ℕ = c.take_free.new.self.seat.now.number in
    let region : c.first_region-region.result ≡ first_region g.P.Plan.rules.fill (class_for g.P.Plan.rules.fill c.args.size) = c.first_region-region.ensures ∙ (λ k. first_region (c.alloc_kind-2.ensures k) (class_for (c.alloc_kind-2.ensures k) c.args.size)) in
    let noted = subst (λ (n : ℕ). NotesOwn c.take_free.new.self.seat.now.notes c.note_own.new.self.seat.now.notes c.overflows-over.result c.args.block n (Owned num (first_region g.P.Plan.rules.fill (class_for g.P.Plan.rules.fill c.args.size))) None) c.class_for-class.ensures
    (subst (λ (r : Region). NotesOwn c.take_free.new.self.seat.now.notes c.note_own.new.self.seat.now.notes c.overflows-over.result c.args.block c.class_for-class.result (Owned num r) None) region c.note_own.ensures.notes) in
    takes-b g.P.Plan.rules c.args.self.now c.look_block.new.self c.take_free.new.self c.note_own.new.self c.args.block c.args.size c.look_block.result c.take_free.new.self.seat.now.number c.overflows-over.result c.requires.rooms c.requires.block c.requires.most
    c.look_block.ensures.looks c.look_block.ensures.loaded c.look_block.ensures.notes c.take_free.ensures.makes (c.take_free.ensures.taken is) (c.take_free.ensures.free is) (λ x made. c.take_free.ensures.fresh x is made) (λ o among. c.take_free.ensures.nobody o is among)
    c.take_free.ensures.notes c.take_free.ensures.ready c.note_own.ensures.known c.note_own.ensures.row c.note_own.ensures.seat (λ over. sym c.alloc_kind.ensures ∙ (c.overflows-over.ensures.yes over).over.lines) noted

pub returns-clause-still : goal.returns-clause-still
returns-clause-still g c k saw = subst (λ (v : MutatorView). HasSeenUsed v.local k) (sym c.note_own.ensures.known.known_stays)
    (c.take_free.ensures.still k (more-seen (local c.args.self.now) (local c.look_block.new.self) (record { at = c.args.block; word = c.look_block.result }) (ap (λ (l : Local). l.blocks) c.look_block.ensures.loaded) k saw))

pub returns-clause-hole : goal.returns-clause-hole
returns-clause-hole g c done overflows =
    let is : c.take_free.result ≡ true = search rules in
    let noted-as = c.notes-notes.ensures ∙ c.take_free.ensures.notes ∙ c.look_block.ensures.notes in
    let num : ℕ = c.take_free.new.self.seat.now.number in
    let region : c.first_region-region.result ≡ first_region g.P.Plan.rules.fill (class_for g.P.Plan.rules.fill c.args.size) = c.first_region-region.ensures ∙ (λ k. first_region (c.alloc_kind-2.ensures k) (class_for (c.alloc_kind-2.ensures k) c.args.size)) in
    let noted = subst (λ (n : ℕ). NotesOwn c.take_free.new.self.seat.now.notes c.note_own.new.self.seat.now.notes c.overflows-over.result c.args.block n (Owned num (first_region g.P.Plan.rules.fill (class_for g.P.Plan.rules.fill c.args.size))) None) c.class_for-class.ensures
    (subst (λ (r : Region). NotesOwn c.take_free.new.self.seat.now.notes c.note_own.new.self.seat.now.notes c.overflows-over.result c.args.block c.class_for-class.result (Owned num r) None) region c.note_own.ensures.notes) in
    hole-b g.P.Plan.rules c.args.self.now c.look_block.new.self c.take_free.new.self c.note_own.new.self c.args.block c.args.size c.look_block.result c.take_free.new.self.seat.now.number c.overflows-over.result c.requires.rooms c.requires.block c.requires.most
    c.look_block.ensures.looks c.look_block.ensures.loaded c.look_block.ensures.notes c.take_free.ensures.makes (c.take_free.ensures.taken is) (c.take_free.ensures.free is) (λ x made. c.take_free.ensures.fresh x is made) (λ o among. c.take_free.ensures.nobody o is among)
    c.take_free.ensures.notes c.take_free.ensures.ready c.note_own.ensures.known c.note_own.ensures.row c.note_own.ensures.seat (λ over. sym c.alloc_kind.ensures ∙ (c.overflows-over.ensures.yes over).over.lines) noted (over-is c.overflows-over.result (λ no. c.overflows-over.ensures.no no (as-read (λ f ns x. Overflows f (regions_in ns x) c.args.size) _ _ _ _ _ _ c.alloc_kind.ensures (c.deref.ensures.value ∙ ap (λ (n : SeatNotes). n.blocks.items) noted-as) (ap (λ (n : SeatNotes). n.local) noted-as) overflows)))

pub returns-then-look_block-clause-regions : goal.returns-then-look_block-clause-regions
returns-then-look_block-clause-regions g c is = ap (λ (n : SeatNotes). regions_in n.blocks.items n.local) c.look_block.ensures.notes

pub returns-then-not-take_free-clause-regions : goal.returns-then-not-take_free-clause-regions
returns-then-not-take_free-clause-regions g c is = ap (λ (n : SeatNotes). regions_in n.blocks.items n.local) (c.take_free.ensures.notes ∙ c.look_block.ensures.notes)

pub returns-clause-region : goal.returns-clause-region
returns-clause-region g c done =
    let is : c.take_free.result ≡ true = search rules in
    let noted-as = c.notes-notes.ensures ∙ c.take_free.ensures.notes ∙ c.look_block.ensures.notes in
    let num : ℕ = c.take_free.new.self.seat.now.number in
    let whole : Region = first_region g.P.Plan.rules.fill (class_for g.P.Plan.rules.fill c.args.size) in
    let region : c.first_region-region.result ≡ whole = c.first_region-region.ensures ∙ (λ k. first_region (c.alloc_kind-2.ensures k) (class_for (c.alloc_kind-2.ensures k) c.args.size)) in
    let noted = subst (λ (n : ℕ). NotesOwn c.take_free.new.self.seat.now.notes c.note_own.new.self.seat.now.notes c.overflows-over.result c.args.block n (Owned num whole) None) c.class_for-class.ensures
    (subst (λ (r : Region). NotesOwn c.take_free.new.self.seat.now.notes c.note_own.new.self.seat.now.notes c.overflows-over.result c.args.block c.class_for-class.result (Owned num r) None) region c.note_own.ensures.notes) in
    let takes = takes-b g.P.Plan.rules c.args.self.now c.look_block.new.self c.take_free.new.self c.note_own.new.self c.args.block c.args.size c.look_block.result c.take_free.new.self.seat.now.number c.overflows-over.result c.requires.rooms c.requires.block c.requires.most
    c.look_block.ensures.looks c.look_block.ensures.loaded c.look_block.ensures.notes c.take_free.ensures.makes (c.take_free.ensures.taken is) (c.take_free.ensures.free is) (λ x made. c.take_free.ensures.fresh x is made) (λ o among. c.take_free.ensures.nobody o is among)
    c.take_free.ensures.notes c.take_free.ensures.ready c.note_own.ensures.known c.note_own.ensures.row c.note_own.ensures.seat (λ over. sym c.alloc_kind.ensures ∙ (c.overflows-over.ensures.yes over).over.lines) noted in
    finds-noted g.P.Plan.rules c.args.self.now.seat.now c.note_own.new.self.seat.now c.overflows-over.result c.args.block c.args.size num whole None
    (subst (λ (m : SeatNotes). NotesOwn m c.note_own.new.self.seat.now.notes c.overflows-over.result c.args.block (class_for g.P.Plan.rules.fill c.args.size) (Owned num whole) None) (c.take_free.ensures.notes ∙ c.look_block.ensures.notes) noted)
    c.requires.rooms c.requires.block
    (free_block takes.granted
    (λ yes. as-read (λ f ns x. Overflows f (regions_in ns x) c.args.size) _ _ _ _ _ _ (sym c.alloc_kind.ensures) (sym (c.deref.ensures.value ∙ ap (λ (n : SeatNotes). n.blocks.items) noted-as)) (sym (ap (λ (n : SeatNotes). n.local) noted-as)) (c.overflows-over.ensures.yes yes))
    (λ overflows. over-is c.overflows-over.result (λ no. c.overflows-over.ensures.no no (as-read (λ f ns x. Overflows f (regions_in ns x) c.args.size) _ _ _ _ _ _ c.alloc_kind.ensures (c.deref.ensures.value ∙ ap (λ (n : SeatNotes). n.blocks.items) noted-as) (ap (λ (n : SeatNotes). n.local) noted-as) overflows)))
    refl)
