-- What a mutator notes when it allocates in an own block again, or in a later hole of one.
use Rattle.std.proofs.Common.{◌≡◌, refl, sym, ◌∙◌, ap, subst, ℕ, ◌+◌, ◌-◌, ◌<◌, ◌≤◌, false, List, [], slice_get, length}
use Rattle.std.specs.Prelude.{Option, Some, slice_set}
use Rattle.heap_layout.specs.declared.region.Region.{Region}
use Rattle.sessions.specs.Plans.{Rules}
use Rattle.block_regions.specs.declared.block_notes.BlockNote.{BlockNote}
use Rattle.block_regions.specs.declared.block_notes.BlockNote.TheVariants.{Owned}
use Rattle.block_regions.proofs.Elements.{set-here, read-some}
use lib.ListN.{get_or}
use Rattle.block_regions.proofs.Lists.{get-below, one-element}
use Rattle.local_allocators.specs.declared.local_seat.LocalSeat.{LocalSeat}
use Rattle.mutator_core.specs.Machine.{Epoch}
use Rattle.mutator_core.specs.Logs.{heap_after}
use Rattle.mutator_rule.specs.declared.seat_notes.SeatNotes.{SeatNotes}
use Rattle.mutator_rule.specs.declared.views.EpochStart.{EpochStart}
use Rattle.mutator_rule.specs.declared.views.MutatorView.{MutatorView}
use Rattle.mutator_rule.specs.Views.{epoch_with}
use Rattle.mutator_rule.specs.Logs.{MakesEntries, KnowsLog}
use Rattle.mutator_rule.specs.Seats.{KeepsKnown}
use Rattle.racing_mutator.specs.declared.racing.Racing.{Racing}
use Rattle.racing_mutator.specs.RacingSeats.{view, local, epoch_of_racing, IsReady, OnlyLoads}
use Rattle.racing_mutator.specs.SeatLaws.{makes-both}
use Rattle.racing_rooms.specs.Rooms.{Holdings, holdings, HasRooms, HasRoomsIn, IsOwnRegion}
use Rattle.racing_rooms.specs.OwnHoles.{LacksLeft}
use Rattle.racing_mutator.specs.Searches.{HasFound, NotesOwn, TakesNothing}
use Rattle.racing_mutator.proofs.Noted.{noted-makes, noted-ready}
use Rattle.racing_mutator.proofs.OwnLacks.{takes-kept}
use Rattle.racing_mutator.proofs.Searched.{searches-both, searches-nothing}
use Rattle.racing_rooms.proofs.RoomsKept.{rooms-now}
use Rattle.racing_mutator.proofs.RoomsMade.{found-now}
use Rattle.racing_rooms.proofs.RoomsNoted.{same-region, rooms-moved, rooms-returned}

-- the note that is read of a block
pub note-read : (items : List BlockNote) (k : ℕ) (n : BlockNote) (owner : ℕ) (region : Region) → k < length items → n ≡ get_or items k n → n ≡ Owned owner region → slice_get items k ≡ Some (Owned owner region)
note-read items k n owner region there read is = read-some items k n there read ∙ ap (λ (m : BlockNote). Some m) is

pub note-is : (items : List BlockNote) (k : ℕ) (n m : BlockNote) → k < length items → n ≡ get_or items k n → slice_get items k ≡ Some m → n ≡ m
note-is items k n m there read is = one-element (slice_get items k) n m (read-some items k n there read) is

-- what is left of a block that has too few words, or cells of another class
pub left-full : (p : Epoch) (h : Holdings) (notes : List BlockNote) (k size owner : ℕ) (region : Region) → slice_get notes k ≡ Some (Owned owner region) → region.end < region.next + size → LacksLeft p h notes k size
left-full p h notes k size owner region note full other r is mine = subst (λ (q : Region). q.end < q.next + size) (same-region notes k owner other region r note is) full

-- the mutator changed its notes after loads
module _ {P : Type 0} (rules : Rules) (a n b : Racing P) (looks : OnlyLoads rules a n) (births : (local n).births ≡ (local a).births) (ready : IsReady rules n) (keeps : KeepsKnown n.seat.now b.seat.now) (row : b.row ≡ n.row) (seat : b.seat.ghost_name ≡ n.seat.ghost_name) where
  abbrev p : Epoch
  p = epoch_of_racing rules a

  abbrev h : Holdings
  h = holdings (local a)

  pub kept-noted : holdings (local b) ≡ h
  kept-noted = ap (λ (v : MutatorView). holdings v.local) keeps.known_stays ∙ looks.kept

  start : (view b).start ≡ (view a).start
  start = ap (λ (v : MutatorView). v.start) keeps.known_stays ∙ looks.makes.goes.start

  pub takes-noted : b.seat.now.notes.flags ≡ n.seat.now.notes.flags → TakesNothing rules a b
  takes-noted flags = takes-kept rules a b (makes-both rules a n b [] [] looks.makes (noted-makes rules n b seat row keeps flags)) kept-noted
      (ap (λ (v : MutatorView). v.local.raised) keeps.known_stays ∙ looks.raised) (ap (λ (v : MutatorView). v.local.births) keeps.known_stays ∙ births)

  pub ready-after : IsReady rules b
  ready-after = noted-ready rules n b seat row keeps ready

  rooms-after : (notes : List BlockNote) (x : LocalSeat) (allowed : ℕ) → b.seat.now.notes.blocks.items ≡ notes → b.seat.now.notes.local ≡ x → b.seat.now.notes.allowance ≡ allowed → HasRoomsIn p (heap_after p (view a).seen) h notes x allowed → HasRooms rules b.seat.now
  rooms-after notes x allowed blocks local_is allows has =
      rooms-now rules a.seat.now b.seat.now h notes x allowed [] (subst (λ (v : MutatorView). MakesEntries rules (view a) [] v) (sym keeps.known_stays) looks.makes.goes)
      (subst (λ (v : MutatorView). KnowsLog (epoch_with rules v.start) v) (sym keeps.known_stays) ready.own.2) kept-noted blocks local_is allows has

  -- an own block whose region, or a later hole, has room: it is the block for the class
  module _ (k class owner number : ℕ) (region hole : Region) (ticket : Option ℕ) (has : HasRooms rules a.seat.now) (note : slice_get a.seat.now.notes.blocks.items k ≡ Some (Owned owner region)) (own : IsOwnRegion (epoch_of_racing rules a) (holdings (local a)) k class region)
      (left : (c : ℕ) → IsOwnRegion (epoch_of_racing rules a) (holdings (local a)) k c region → IsOwnRegion (epoch_of_racing rules a) (holdings (local a)) k c hole) (few : class < 19)
      (noted : NotesOwn a.seat.now.notes b.seat.now.notes false k class (Owned number hole) ticket) (same : ticket ≡ a.seat.now.notes.local.ticket) where
    abbrev items : List BlockNote
    items = slice_set a.seat.now.notes.blocks.items k (Owned number hole)

    here : slice_get items k ≡ Some (Owned number hole)
    here = set-here a.seat.now.notes.blocks.items k (Owned number hole) (get-below a.seat.now.notes.blocks.items k (Owned owner region) note)

    pub rooms-again : HasRooms rules b.seat.now
    rooms-again = rooms-after items (record { ticket = a.seat.now.notes.local.ticket; blocks = slice_set a.seat.now.notes.local.blocks class (Some k); over = a.seat.now.notes.local.over }) a.seat.now.notes.allowance
        noted.blocks (noted.local ∙ (λ j. record { ticket = same j; blocks = slice_set a.seat.now.notes.local.blocks class (Some k); over = a.seat.now.notes.local.over })) noted.allowance
        (rooms-returned p (heap_after p (view a).seen) h items a.seat.now.notes.local a.seat.now.notes.allowance class k
        (rooms-moved p (heap_after p (view a).seen) h h a.seat.now.notes.blocks.items a.seat.now.notes.local a.seat.now.notes.allowance has k owner number region hole refl refl note (λ j c r other is. is) left)
        few (record { owner = number; region = hole; note = here; room = left class own }))

    pub found-again : (size : ℕ) → hole.next + size ≤ hole.end → HasFound rules b class k size
    found-again size room = found-now rules a b h items class k size start kept-noted noted.blocks (record { owner = number; region = hole; note = here; own = left class own; room = room })

-- it lacks what it lacked while it keeps what it has and its notes
pub lacks-still : {P : Type 0} (rules : Rules) (a b : Racing P) (k size : ℕ) → TakesNothing rules a b → holdings (local b) ≡ holdings (local a) → b.seat.now.notes ≡ a.seat.now.notes → LacksLeft (epoch_of_racing rules a) (holdings (local a)) a.seat.now.notes.blocks.items k size → LacksLeft (epoch_of_racing rules b) (holdings (local b)) b.seat.now.notes.blocks.items k size
lacks-still rules a b k size takes kept notes lacks =
    subst (λ (s : EpochStart). LacksLeft (epoch_with rules s) (holdings (local b)) b.seat.now.notes.blocks.items k size) (sym takes.searches.makes.goes.start)
    (subst (λ (h : Holdings). LacksLeft (epoch_of_racing rules a) h b.seat.now.notes.blocks.items k size) (sym kept)
    (subst (λ (n : SeatNotes). LacksLeft (epoch_of_racing rules a) (holdings (local a)) n.blocks.items k size) (sym notes) lacks))

pub takes-twice : {P : Type 0} (rules : Rules) (a b c : Racing P) → TakesNothing rules a b → TakesNothing rules b c → TakesNothing rules a c
takes-twice rules a b c one two = record {
  searches = searches-both rules a b c one.searches two.searches;
  owned = two.owned ∙ one.owned;
  granted = two.granted ∙ one.granted;
  ticket = λ t is. two.ticket t (one.ticket t is);
}

pub takes-none : {P : Type 0} (rules : Rules) (a : Racing P) → TakesNothing rules a a
takes-none rules a = record { searches = searches-nothing rules a; owned = refl; granted = refl; ticket = λ t is. is }
