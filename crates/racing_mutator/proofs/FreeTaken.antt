-- A Free block that a mutator took, and a ticket that it drew.
use Rattle.std.proofs.Common.{◌≡◌, ◌≢◌, refl, sym, ◌∙◌, ap, subst, ℕ, ◌<◌, ◌≤◌, arith, Bool, true, List, [], ◌∷◌, length, slice_get}
use Rattle.std.specs.Prelude.{Option, Some, None}
use Rattle.std.specs.List.{Contains}
use Rattle.heap_layout.specs.Zones.{block_at}
use Rattle.heap_layout.specs.declared.block.Kind.TheVariants as kinds
use Rattle.object_model.specs.Objects.{HeapState, HasKind}
use Rattle.sessions.specs.Fitting.{class_for}
use Rattle.sessions.specs.Plans.{Rules}
use Rattle.block_regions.specs.declared.block_notes.BlockNote.{BlockNote}
use Rattle.block_regions.specs.declared.block_notes.BlockNote.TheVariants.{Owned}
use Rattle.block_regions.specs.Regions.{first_region}
use Rattle.block_regions.proofs.FilledKinds.{whole-room, class-few}
use Rattle.local_allocators.specs.declared.local_seat.LocalSeat.{LocalSeat}
use Rattle.local_allocators.specs.MutatorRegions.{FillsLines}
use Rattle.local_allocators.proofs.SeatRegions.{lines-for}
use Rattle.mutator_core.specs.declared.state.Extent.{Extent}
use Rattle.mutator_core.specs.declared.state.Local.{Local}
use Rattle.mutator_core.specs.declared.state.OwnedBlock.{OwnedBlock}
use Rattle.mutator_core.specs.Machine.{Epoch, taken}
use Rattle.mutator_core.specs.Logs.{heap_after}
use Rattle.mutator_core.proofs.Lists.{contains-here}
use Rattle.mutator_rule.specs.declared.views.EpochStart.{EpochStart}
use Rattle.mutator_rule.specs.declared.views.MutatorView.{MutatorView}
use Rattle.mutator_rule.specs.declared.seat.MutatorSeat.{MutatorSeat}
use Rattle.mutator_rule.specs.declared.seat_notes.SeatNotes.{SeatNotes}
use Rattle.mutator_rule.specs.Views.{epoch_with}
use Rattle.mutator_rule.specs.Logs.{MakesEntries, KnowsLog}
use Rattle.mutator_rule.specs.Seats.{KeepsKnown}
use Rattle.racing_mutator.specs.declared.racing.Racing.{Racing}
use Rattle.racing_mutator.specs.RacingSeats.{view, local, holdings, epoch_of_racing, IsReady, Makes, OnlyLoads}
use Rattle.racing_mutator.specs.SeatLaws.{makes-both}
use Rattle.racing_rooms.specs.Rooms.{Holdings, HasRooms, HasRoomsIn, IsOwnRegion, AllocatesIn, UsesItsBlocks, UsesOthers}
use Rattle.racing_mutator.specs.Births.{with_ticket}
use Rattle.racing_mutator.specs.Looks.{with_block_word}
use Rattle.racing_mutator.specs.Searches.{HasFound, NotesOwn, Searches, TakesFree, seat_after}
use Rattle.local_allocators.specs.Seats.{block_of}
use Rattle.local_allocators.specs.MutatorRegions.{KeepsHole}
use Rattle.racing_rooms.specs.NoRoom.{regions_at}
use Rattle.racing_mutator.proofs.HoleKept.{hole-kept}
use Rattle.racing_rooms.proofs.RoomLaws.{block-read}
use Rattle.racing_rooms.proofs.OwnRegions.{own-whole, own-as}
use Rattle.racing_rooms.proofs.RoomsKept.{rooms-now}
use Rattle.racing_mutator.proofs.RoomsMade.{rooms-own, found-own}
use Rattle.racing_mutator.proofs.Noted.{noted-makes, noted-ready, others-taken}

module _ {P : Type 0} (rules : Rules) (a l t b : Racing P) (k size word number : ℕ) (over : Bool) (has : HasRooms rules a.seat.now) (there : k < (epoch_of_racing rules a).before.blocks) (small : size ≤ 2048)
    (looks : OnlyLoads rules a l) (loaded : local l ≡ with_block_word (local a) k word) (notes_l : l.seat.now.notes ≡ a.seat.now.notes)
    (made : Makes rules l [] t) (took : local t ≡ taken (epoch_of_racing rules l) (local l) k (class_for rules.fill size) true) (free : HasKind (epoch_of_racing rules l).before k kinds.Free)
    (fresh : (x : Extent) → Contains (local l).made x → block_at (epoch_of_racing rules l).before.blocks x.address ≢ k) (nobody : (o : OwnedBlock) → Contains (local l).owned o → o.block ≢ k) (notes_t : t.seat.now.notes ≡ l.seat.now.notes) (ready : IsReady rules t)
    (keeps : KeepsKnown t.seat.now b.seat.now) (row : b.row ≡ t.row) (seat : b.seat.ghost_name ≡ t.seat.ghost_name) (lines : over ≡ true → FillsLines rules.fill)
    (noted : NotesOwn t.seat.now.notes b.seat.now.notes over k (class_for rules.fill size) (Owned number (first_region rules.fill (class_for rules.fill size))) None) where
  abbrev p : Epoch
  p = epoch_of_racing rules a

  abbrev class : ℕ
  class = class_for rules.fill size

  abbrev g : Holdings
  g = holdings (local t)

  start : (view l).start ≡ (view a).start
  start = looks.makes.goes.start

  noted-a : NotesOwn a.seat.now.notes b.seat.now.notes over k class (Owned number (first_region rules.fill class)) None
  noted-a = subst (λ (n : SeatNotes). NotesOwn n b.seat.now.notes over k class (Owned number (first_region rules.fill class)) None) (notes_t ∙ notes_l) noted

  owned-is : (local l).owned ≡ (local a).owned
  owned-is = ap (λ (x : Local). x.owned) loaded

  made-is : (local t).made ≡ (local a).made
  made-is = ap (λ (x : Local). x.made) took ∙ ap (λ (x : Local). x.made) loaded

  owns : g.owned ≡ (record { block = k; class = class }) ∷ (local a).owned
  owns = ap (λ (x : Local). x.owned) took ∙ ap (λ (os : List OwnedBlock). (record { block = k; class = class }) ∷ os) owned-is

  holds-b : holdings (local b) ≡ g
  holds-b = ap (λ (v : MutatorView). holdings v.local) keeps.known_stays

  own : IsOwnRegion p g k class (first_region rules.fill class)
  own = own-whole p g k class there (subst (λ (s : EpochStart). HasKind (epoch_with rules s).before k kinds.Free) start free)
      (subst (λ (os : List OwnedBlock). Contains os (record { block = k; class = class })) (sym owns) (contains-here (record { block = k; class = class }) (local a).owned))
      (λ x by. subst (λ (s : EpochStart). block_at (epoch_with rules s).before.blocks x.address ≢ k) start
      (fresh x (subst (λ (xs : List Extent). Contains xs x) (ap (λ (y : Local). y.made) took) by)))

  pub makes-b : Makes rules a [] b
  makes-b = makes-both rules a l b [] [] looks.makes (makes-both rules l t b [] [] made (noted-makes rules t b seat row keeps noted.flags))

  pub ready-b : IsReady rules b
  ready-b = noted-ready rules t b seat row keeps ready

  pub rooms-b : HasRooms rules b.seat.now
  rooms-b = rooms-own rules a b g k class number over (first_region rules.fill class) None has there (let e = class-few rules.fill size in omega arith) owns made-is
      (sym (ap (λ (x : Local). x.ticket) took)) own (λ o among. nobody o (subst (λ (os : List OwnedBlock). Contains os o) (sym owned-is) among)) (λ is. (lines is, lines-for rules.fill size (lines is))) noted-a makes-b ready-b holds-b

  pub found-b : HasFound rules b class k size
  found-b = found-own rules a b g k class number over (first_region rules.fill class) None has there (let e = class-few rules.fill size in omega arith) owns made-is
      (sym (ap (λ (x : Local). x.ticket) took)) own (λ o among. nobody o (subst (λ (os : List OwnedBlock). Contains os o) (sym owned-is) among)) (λ is. (lines is, lines-for rules.fill size (lines is))) noted-a makes-b ready-b holds-b
      size (let e : size ≤ (first_region rules.fill class).end = whole-room rules.fill size small in omega arith)

  pub uses-b : UsesItsBlocks p (holdings (local a)) → UsesOthers p (holdings (local b)) k
  uses-b uses = subst (λ (h : Holdings). UsesOthers p h k) (sym holds-b) (others-taken p (holdings (local a)) g (record { block = k; class = class }) owns made-is uses)

  pub searches-b : (local t).raised ≡ (local l).raised → (local t).births ≡ (local l).births → Searches rules a b
  searches-b raised births = record {
    makes = makes-b;
    raised = ap (λ (v : MutatorView). v.local.raised) keeps.known_stays ∙ raised ∙ looks.raised;
    births = ap (λ (v : MutatorView). v.local.births) keeps.known_stays ∙ births ∙ ap (λ (x : Local). x.births) loaded;
    made = ap (λ (v : MutatorView). v.local.made) keeps.known_stays ∙ made-is;
  }

  pub takes-b : TakesFree rules a b k class
  takes-b = record {
    owned = ap (λ (h : Holdings). h.owned) holds-b ∙ owns;
    granted = ap (λ (h : Holdings). h.granted) holds-b ∙ ap (λ (x : Local). x.granted) took ∙ ap (λ (x : Local). k ∷ x.granted) loaded;
    ticket = ap (λ (h : Holdings). h.ticket) holds-b ∙ ap (λ (x : Local). x.ticket) took;
    free = subst (λ (s : EpochStart). HasKind (epoch_with rules s).before k kinds.Free) start free;
  }

  -- the block of the hole region is another, so the region stays
  pub hole-b : over ≡ true → KeepsHole (regions_at a.seat.now) (regions_at b.seat.now)
  hole-b is =
      let x : LocalSeat = a.seat.now.notes.local in
      let taken-over : b.seat.now.notes.local ≡ record { ticket = None; blocks = x.blocks; over = Some k } = noted-a.local ∙ ap (λ (o : Bool). seat_after o x class k None) is in
      hole-kept a.seat.now b.seat.now k (Owned number (first_region rules.fill class)) noted-a.blocks (ap (λ (l : LocalSeat). block_of (Some l) 0) taken-over)
      (λ same. nobody (record { block = k; class = 0 }) (subst (λ (os : List OwnedBlock). Contains os (record { block = k; class = 0 })) (sym owned-is) (has.each 0 k (block-read x.blocks 0 k same)).room.mine) refl)

-- notes of rooms do not depend on the ticket, but for the one that they have
rooms-ticket : (p : Epoch) (s : HeapState) (h g : Holdings) (notes : List BlockNote) (x y : LocalSeat) (allowed : ℕ) → g.owned ≡ h.owned → g.made ≡ h.made → y.ticket ≡ g.ticket → y.blocks ≡ x.blocks → y.over ≡ x.over → HasRoomsIn p s h notes x allowed → HasRoomsIn p s g notes y allowed
rooms-ticket p s h g notes x y allowed owned made ticket blocks over has = record {
  allows = has.allows;
  ticket = ticket;
  len = has.len;
  unowned = has.unowned;
  owned = λ k owner region note. let was = has.owned k owner region note in (was.0, own-as p h g k was.0 region owned made was.1);
  noted = λ o among. has.noted o (subst (λ (os : List OwnedBlock). Contains os o) owned among);
  classes = ap (λ (bs : List (Option ℕ)). length bs) blocks ∙ has.classes;
  each = λ class k is. allocates class k (has.each class k (ap (λ (bs : List (Option ℕ)). slice_get bs class) (sym blocks) ∙ is));
  over = λ k is. let was = has.over k (sym over ∙ is) in (was.0, allocates 0 k was.1);
}
  where
    allocates : (class k : ℕ) → AllocatesIn p h notes class k → AllocatesIn p g notes class k
    allocates class k a = record { owner = a.owner; region = a.region; note = a.note; room = own-as p h g k class a.region owned made a.room }

pub rooms-drawn : {P : Type 0} (rules : Rules) (a m : Racing P) (b : MutatorSeat) (t : ℕ) (now : LocalSeat) → HasRooms rules a.seat.now → Makes rules a [] m → IsReady rules m → local m ≡ with_ticket (local a) t → m.seat.now.notes ≡ a.seat.now.notes → KeepsKnown m.seat.now b
    → b.notes ≡ record m.seat.now.notes { local = now } → now ≡ record a.seat.now.notes.local { ticket = Some t } → HasRooms rules b
rooms-drawn rules a m b t now has made ready drawn notes keeps noted seat =
    let g : Holdings = holdings (with_ticket (local a) t) in
    rooms-now rules a.seat.now b g a.seat.now.notes.blocks.items (record a.seat.now.notes.local { ticket = Some t }) a.seat.now.notes.allowance []
    (subst (λ (v : MutatorView). MakesEntries rules (view a) [] v) (sym keeps.known_stays) made.goes)
    (subst (λ (v : MutatorView). KnowsLog (epoch_with rules v.start) v) (sym keeps.known_stays) ready.own.2)
    (ap (λ (v : MutatorView). holdings v.local) keeps.known_stays ∙ ap holdings drawn)
    (ap (λ (n : SeatNotes). n.blocks.items) noted ∙ ap (λ (n : SeatNotes). n.blocks.items) notes)
    (ap (λ (n : SeatNotes). n.local) noted ∙ seat)
    (ap (λ (n : SeatNotes). n.allowance) noted ∙ ap (λ (n : SeatNotes). n.allowance) notes)
    (rooms-ticket (epoch_of_racing rules a) (heap_after (epoch_of_racing rules a) (view a).seen) (holdings (local a)) g a.seat.now.notes.blocks.items a.seat.now.notes.local (record a.seat.now.notes.local { ticket = Some t }) a.seat.now.notes.allowance refl refl refl refl refl has)
