-- The rooms of a mutator after it made an object, or took a block.
use Rattle.std.proofs.Common.{◌≡◌, ◌≢◌, refl, sym, ◌∙◌, subst, ℕ, ◌+◌, ◌<◌, ◌≤◌, ◌⊎◌, inl, inr, arith, Bool, true, false, List, [], ◌∷◌, length, length-set, slice_get}
use Rattle.std.specs.Prelude.{Option, Some, slice_set}
use Rattle.std.specs.List.{Contains}
use Rattle.std.proofs.lemmas.Bool.{cases_eq}
use Rattle.heap_layout.specs.Zones.{block_start}
use Rattle.heap_layout.specs.declared.block.Kind.TheVariants as kinds
use Rattle.heap_layout.specs.declared.region.Region.{Region}
use Rattle.ideal_heap.specs.Runs.{Entry}
use Rattle.object_model.specs.Objects.{HeapState}
use Rattle.sessions.specs.Plans.{Rules}
use Rattle.block_regions.specs.declared.block_notes.BlockNote.{BlockNote}
use Rattle.block_regions.specs.declared.block_notes.BlockNote.TheVariants.{Owned}
use Rattle.block_regions.proofs.Elements.{set-here, set-other}
use Rattle.block_regions.proofs.Lists.{one-element}
use Rattle.local_allocators.specs.declared.local_seat.LocalSeat.{LocalSeat}
use Rattle.local_allocators.specs.MutatorRegions.{FillsLines}
use Rattle.mutator_core.specs.declared.state.Extent.{Extent}
use Rattle.mutator_core.specs.declared.state.OwnedBlock.{OwnedBlock}
use Rattle.mutator_core.specs.Machine.{Epoch}
use Rattle.mutator_core.specs.Logs.{heap_after}
use Rattle.mutator_rule.specs.declared.views.EpochStart.{EpochStart}
use Rattle.mutator_rule.specs.declared.seat.MutatorSeat.{MutatorSeat}
use Rattle.mutator_rule.specs.Views.{epoch_with}
use Rattle.mutator_rule.specs.Logs.{MakesEntries, KnowsLog}
use Rattle.mutator_rule.specs.Seats.{known, local_of}
use Rattle.racing_mutator.specs.declared.racing.Racing.{Racing}
use Rattle.racing_mutator.specs.RacingSeats.{view, local, holdings, epoch_of_racing, IsReady, Makes}
use Rattle.racing_rooms.specs.Rooms.{Holdings, HasRooms, IsOwnRegion, with_object}
use Rattle.racing_mutator.specs.Searches.{HasRoomAt, HasFound, NotesOwn, seat_after}
use Rattle.racing_rooms.proofs.OwnRegions.{block-is}
use Rattle.racing_rooms.proofs.RoomsNoted.{rooms-advanced, rooms-taken}
use Rattle.racing_rooms.proofs.RoomsKept.{rooms-now}

-- after an object at the start of the region of block k
module _ {P : Type 0} (rules : Rules) (a : Racing P) (b : MutatorSeat) (k class owner size : ℕ) (region rest : Region) (es : List Entry) (has : HasRooms rules a.seat.now) (note : slice_get a.seat.now.notes.blocks.items k ≡ Some (Owned owner region))
    (own : IsOwnRegion (epoch_of_racing rules a) (holdings (local a)) k class region) (some : 0 < size) (room : region.next + size ≤ region.end)
    (left : (c : ℕ) → IsOwnRegion (epoch_of_racing rules a) (holdings (local a)) k c region → IsOwnRegion (epoch_of_racing rules a) (with_object (holdings (local a)) (record { address = block_start (epoch_of_racing rules a).before.blocks k + region.next; size = size })) k c rest) (goes : MakesEntries rules (view a) es (known b)) (told : KnowsLog (epoch_with rules (known b).start) (known b))
    (holds : holdings (local_of b) ≡ with_object (holdings (local a)) (record { address = block_start (epoch_of_racing rules a).before.blocks k + region.next; size = size }))
    (blocks : b.notes.blocks.items ≡ slice_set a.seat.now.notes.blocks.items k (Owned owner rest)) (seat : b.notes.local ≡ a.seat.now.notes.local) (allows : b.notes.allowance ≡ a.seat.now.notes.allowance) where
  abbrev p : Epoch
  p = epoch_of_racing rules a

  abbrev h : Holdings
  h = holdings (local a)

  abbrev x : Extent
  x = record { address = block_start (epoch_of_racing rules a).before.blocks k + region.next; size = size }

  pub rooms-made : HasRooms rules b
  rooms-made =
      rooms-now rules a.seat.now b (with_object h x) (slice_set a.seat.now.notes.blocks.items k (Owned owner rest)) a.seat.now.notes.local a.seat.now.notes.allowance es goes told holds blocks seat allows
      (rooms-advanced p (heap_after p (view a).seen) h a.seat.now.notes.blocks.items a.seat.now.notes.local a.seat.now.notes.allowance has k owner region rest x note
      (block-is p.before.blocks k region.next size x.address own.there some (let e = own.inside in omega arith) refl) left)

-- room that was found is there in the state that it is read in
pub found-now : {P : Type 0} (rules : Rules) (a b : Racing P) (g : Holdings) (notes : List BlockNote) (class k size : ℕ) → (view b).start ≡ (view a).start → holdings (local b) ≡ g → b.seat.now.notes.blocks.items ≡ notes
    → HasRoomAt (epoch_of_racing rules a) g notes class k size → HasFound rules b class k size
found-now rules a b g notes class k size start holds blocks found =
    subst (λ (e : EpochStart). HasRoomAt (epoch_with rules e) (holdings (local b)) b.seat.now.notes.blocks.items class k size) (sym start)
    (subst (λ (f : Holdings). HasRoomAt (epoch_of_racing rules a) f b.seat.now.notes.blocks.items class k size) (sym holds)
    (subst (λ (ns : List BlockNote). HasRoomAt (epoch_of_racing rules a) g ns class k size) (sym blocks) found))

-- the blocks of a seat that took one
pub seat-blocks : (over : Bool) (x : LocalSeat) (class k : ℕ) (ticket : Option ℕ) → class < length x.blocks → (c j : ℕ) → slice_get (seat_after over x class k ticket).blocks c ≡ Some (Some j) → ((c ≡ class) × (j ≡ k)) ⊎ (slice_get x.blocks c ≡ Some (Some j))
seat-blocks true x class k ticket few c j is = inr is
seat-blocks false x class k ticket few c j is = elim (cases_eq c class) as (λ _. ((c ≡ class) × (j ≡ k)) ⊎ (slice_get x.blocks c ≡ Some (Some j))) [
  | inl same ↦ inl (same, (let e : Some j ≡ Some k = one-element (slice_get (slice_set x.blocks class (Some k)) class) (Some j) (Some k) (subst (λ (q : ℕ). slice_get (slice_set x.blocks class (Some k)) q ≡ Some (Some j)) same is) (set-here x.blocks class (Some k) few) in cc))
  | inr other ↦ inr (sym (set-other x.blocks class (Some k) c other) ∙ is)
]

pub seat-long : (over : Bool) (x : LocalSeat) (class k : ℕ) (ticket : Option ℕ) → length (seat_after over x class k ticket).blocks ≡ length x.blocks
seat-long true x class k ticket = refl
seat-long false x class k ticket = length-set x.blocks class (Some k)

pub seat-over : (over : Bool) (x : LocalSeat) (class k : ℕ) (ticket : Option ℕ) (Q : Type 0) → (over ≡ true → Q) → (j : ℕ) → (seat_after over x class k ticket).over ≡ Some j → (Q × (j ≡ k)) ⊎ (x.over ≡ Some j)
seat-over true x class k ticket Q lines j is = inl (lines refl, (let e : Some k ≡ Some j = is in cc))
seat-over false x class k ticket Q lines j is = inr is

seat-ticket : (over : Bool) (x : LocalSeat) (class k : ℕ) (ticket : Option ℕ) → (seat_after over x class k ticket).ticket ≡ ticket
seat-ticket true x class k ticket = refl
seat-ticket false x class k ticket = refl

-- after the mutator took block k, whose words from the region's start on it may fill
module _ {P : Type 0} (rules : Rules) (a b : Racing P) (g : Holdings) (k class owner : ℕ) (over : Bool) (region : Region) (ticket : Option ℕ) (has : HasRooms rules a.seat.now) (there : k < (epoch_of_racing rules a).before.blocks) (few : class < 19)
    (owned : g.owned ≡ (record { block = k; class = class }) ∷ (holdings (local a)).owned) (made : g.made ≡ (holdings (local a)).made) (has_ticket : ticket ≡ g.ticket) (own : IsOwnRegion (epoch_of_racing rules a) g k class region)
    (fresh : (o : OwnedBlock) → Contains (local a).owned o → o.block ≢ k) (lines : over ≡ true → FillsLines rules.fill × (class ≡ 0)) (notes : NotesOwn a.seat.now.notes b.seat.now.notes over k class (Owned owner region) ticket)
    (makes : Makes rules a [] b) (ready : IsReady rules b) (holds : holdings (local b) ≡ g) where
  pub rooms-own : HasRooms rules b.seat.now
  rooms-own =
      let p : Epoch = epoch_of_racing rules a in
      let s : HeapState = heap_after p (view a).seen in
      let x : LocalSeat = a.seat.now.notes.local in
      let now : LocalSeat = seat_after over x class k ticket in
      let long : class < length x.blocks = subst (λ (n : ℕ). class < n) (sym has.classes) few in
      rooms-now rules a.seat.now b.seat.now g (slice_set a.seat.now.notes.blocks.items k (Owned owner region)) now a.seat.now.notes.allowance [] makes.goes ready.own.2 holds notes.blocks notes.local notes.allowance
      (rooms-taken p s s (holdings (local a)) g a.seat.now.notes.blocks.items x now a.seat.now.notes.allowance has k class owner region (λ j below some. some) there owned made
      (seat-ticket over x class k ticket ∙ has_ticket) own fresh (seat-blocks over x class k ticket long) (seat-long over x class k ticket)
      (λ j is. elim (seat-over over x class k ticket (FillsLines rules.fill × (class ≡ 0)) lines j is) as (λ _. (FillsLines rules.fill × (class ≡ 0) × (j ≡ k)) ⊎ (x.over ≡ Some j)) [
        | inl new ↦ inl (new.0.0, new.0.1, new.1)
        | inr old ↦ inr old
      ]))

  pub found-own : (size : ℕ) → region.next + size ≤ region.end → HasFound rules b class k size
  found-own size room = found-now rules a b g (slice_set a.seat.now.notes.blocks.items k (Owned owner region)) class k size makes.goes.start holds notes.blocks (record {
    owner = owner;
    region = region;
    note = set-here a.seat.now.notes.blocks.items k (Owned owner region) (subst (λ (n : ℕ). k < n) (sym has.len) there);
    own = own;
    room = room;
  })
