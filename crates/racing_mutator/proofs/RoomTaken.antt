-- What a search took for room is what the allocation took.
use Rattle.std.proofs.Common.{◌≡◌, sym, ◌∙◌, ap, subst, ℕ, ◌<◌, ◌≤◌, ◌⊎◌, inl, inr, [], ◌∷◌, List, Option}
use Rattle.std.specs.Prelude.{Some, None, IfSome, IfNone, IfOk, IfErr, Result, Ok, Err}
use Rattle.std.proofs.lemmas.List.{get_or-set_same}
use Rattle.ideal_heap.specs.Runs.{Entry}
use Rattle.heap_layout.specs.declared.block.Kind.TheVariants as kinds
use Rattle.object_model.specs.Objects.{HasKind, size_of}
use Rattle.sessions.specs.Fitting.{class_for}
use Rattle.sessions.specs.Plans.{Rules}
use Rattle.plan_api.specs.Cursors.{LacksRoom}
use Rattle.local_allocators.specs.MutatorRegions.{MutatorRegions, FillsLines, Overflows, cursors_of}
use Rattle.mutator_core.specs.declared.state.Extent.{Extent}
use Rattle.mutator_core.specs.declared.state.OwnedBlock.{OwnedBlock}
use Rattle.mutator_core.specs.declared.state.Local.{Local}
use Rattle.mutator_core.specs.Machine.{address_in}
use Rattle.mutator_core.specs.Guards.{IsPlaceOfMutator, BeginsRegion, allowance}
use Rattle.mutator_rule.specs.Logs.{KnowsLog}
use Rattle.mutator_rule.proofs.Moments as moments
use Rattle.racing_mutator.specs.Births.{born}
use Rattle.mutator_rule.specs.declared.views.EpochStart.{EpochStart}
use Rattle.mutator_rule.specs.declared.seat.MutatorSeat.{MutatorSeat}
use Rattle.mutator_rule.specs.Views.{epoch_with}
use Rattle.mutator_rule.specs.Seats.{known, local_of, epoch_of_seat}
use Rattle.racing_mutator.specs.declared.racing.Racing.{Racing}
use Rattle.racing_mutator.specs.RacingSeats.{local, Holdings, holdings, epoch_of_racing, IsReady, Makes}
use Rattle.racing_rooms.specs.Rooms.{HasRooms, with_object}
use Rattle.racing_rooms.specs.NoRoom.{regions_at, LacksUnowned, LacksUnownedBelow, LacksFreeBelow, LacksOwn, LacksRegionRoom, LacksTriedRegions, HasNoRoom}
use Rattle.racing_mutator.specs.Searches.{Searches, TakesNothing, TakesHole, TakesFree, TakesOneHole, TakesRoom, KeepsTicket, KeepsBlocks, PlacesObject}
use Rattle.racing_mutator.specs.Searches.{takes_nothing, takes_hole, takes_free}
use Rattle.racing_rooms.proofs.RoomLaws.{unowned-later, below-later, free-later, lacks-own-later, lacks-own-earlier, no-room, no-room-later, tried-full, own-lacks, unowned-lacks}

-- facts of what is there, or of nothing
pub some-map : {X : Type 0} (A B : X → Type 0) (o : Option X) → ((x : X) → A x → B x) → IfSome o A → IfSome o B
some-map A B None f is = is
some-map A B (Some x) f is = f x is

pub some-both : {X : Type 0} (A B C : X → Type 0) (o : Option X) → ((x : X) → A x → B x → C x) → IfSome o A → IfSome o B → IfSome o C
some-both A B C None f one two = one
some-both A B C (Some x) f one two = f x one two

pub none-map : {X : Type 0} (A B : Type 0) (o : Option X) → (A → B) → IfNone o A → IfNone o B
none-map A B None f is = f is
none-map A B (Some x) f is = is

pub ok-map : {X E : Type 0} (A B : X → Type 0) (r : Result X E) → ((x : X) → A x → B x) → IfOk r A → IfOk r B
ok-map A B (Ok x) f is = f x is
ok-map A B (Err t) f is = is

pub ok-both : {X E : Type 0} (A B C : X → Type 0) (r : Result X E) → ((x : X) → A x → B x → C x) → IfOk r A → IfOk r B → IfOk r C
ok-both A B C (Ok x) f one two = f x one two
ok-both A B C (Err t) f one two = one

pub err-map : {X E : Type 0} (A B : E → Type 0) (r : Result X E) → ((t : E) → A t → B t) → IfErr r A → IfErr r B
err-map A B (Ok x) f is = is
err-map A B (Err t) f is = f t is

pub err-both : {X E : Type 0} (A B C : E → Type 0) (r : Result X E) → ((t : E) → A t → B t → C t) → IfErr r A → IfErr r B → IfErr r C
err-both A B C (Ok x) f one two = one
err-both A B C (Err t) f one two = f t one two

-- a search that kept what the mutator has took nothing
pub nothing-of : {P : Type 0} (rules : Rules) (a b : Racing P) → Searches rules a b → holdings (local b) ≡ holdings (local a) → TakesNothing rules a b
nothing-of rules a b searches same = record {
  searches = searches;
  owned = ap (λ (h : Holdings). h.owned) same;
  granted = ap (λ (h : Holdings). h.granted) same;
  ticket = λ t is. ap (λ (h : Holdings). h.ticket) same ∙ is;
}

module _ {P : Type 0} (rules : Rules) (a m b : Racing P) where
  -- a search after one that took nothing
  pub nothing-both : TakesNothing rules a m → TakesNothing rules m b → Searches rules a b → TakesNothing rules a b
  nothing-both one two searches = record {
    searches = searches;
    owned = two.owned ∙ one.owned;
    granted = two.granted ∙ one.granted;
    ticket = λ t is. two.ticket t (one.ticket t is);
  }

  pub hole-after : (block class : ℕ) → TakesNothing rules a m → (local m).ticket ≡ (local a).ticket → TakesHole rules m b block class → TakesHole rules a b block class
  hole-after block class one ticket is = record {
    owned = is.owned ∙ ap (λ (os : List OwnedBlock). (record { block = block; class = class }) ∷ os) one.owned;
    granted = is.granted ∙ one.granted;
    ticket = is.ticket ∙ ticket;
    used = subst (λ (g : EpochStart). HasKind (epoch_with rules g).before block kinds.Free → ⊥) one.searches.makes.goes.start is.used;
  }

  pub free-after : (block class : ℕ) → TakesNothing rules a m → TakesFree rules m b block class → TakesFree rules a b block class
  free-after block class one is = record {
    owned = is.owned ∙ ap (λ (os : List OwnedBlock). (record { block = block; class = class }) ∷ os) one.owned;
    granted = is.granted ∙ ap (λ (ks : List ℕ). block ∷ ks) one.granted;
    ticket = is.ticket;
    free = subst (λ (g : EpochStart). HasKind (epoch_with rules g).before block kinds.Free) one.searches.makes.goes.start is.free;
  }

-- from one state to a later one
module _ {P : Type 0} (rules : Rules) (a b : Racing P) (es : List Entry) (ready-a : IsReady rules a) (ready-b : IsReady rules b) (makes : Makes rules a es b) where
  pub unowned-then : (size : ℕ) → LacksUnowned rules a.seat.now size → LacksUnowned rules b.seat.now size
  unowned-then size = unowned-later rules a.seat.now b.seat.now makes.goes.start makes.goes.number makes.goes.prefix ready-a.own.2 ready-b.own.2 size

  pub below-then : (end size : ℕ) → LacksUnownedBelow rules a.seat.now end size → LacksUnownedBelow rules b.seat.now end size
  below-then end size = below-later rules a.seat.now b.seat.now makes.goes.start makes.goes.number makes.goes.prefix ready-a.own.2 ready-b.own.2 end size

  pub free-then : (end : ℕ) → LacksFreeBelow rules a.seat.now end → LacksFreeBelow rules b.seat.now end
  free-then end = free-later rules a.seat.now b.seat.now makes.goes.start makes.goes.number makes.goes.prefix ready-a.own.2 ready-b.own.2 end

module _ {P : Type 0} (rules : Rules) (a b : Racing P) (ready-a : IsReady rules a) (ready-b : IsReady rules b) (rooms-a : HasRooms rules a.seat.now) (takes : TakesNothing rules a b) (regions : regions_at b.seat.now ≡ regions_at a.seat.now) where
  pub own-then : (size : ℕ) → LacksOwn rules a.seat.now size → LacksOwn rules b.seat.now size
  own-then = lacks-own-later rules a.seat.now b.seat.now takes.searches.makes.goes.start takes.searches.makes.goes.number takes.searches.makes.goes.prefix ready-a.own.2 ready-b.own.2 takes.owned takes.searches.made rooms-a regions

  pub own-before : (size : ℕ) → LacksOwn rules b.seat.now size → LacksOwn rules a.seat.now size
  own-before = lacks-own-earlier rules a.seat.now b.seat.now takes.searches.makes.goes.start takes.searches.makes.goes.number takes.searches.makes.goes.prefix ready-a.own.2 ready-b.own.2 takes.owned takes.searches.made rooms-a regions

  -- no region that is tried had room before the search, if no own block has after it
  pub tried-before : (size : ℕ) → LacksRegionRoom rules a.seat.now size → LacksOwn rules b.seat.now size → LacksTriedRegions rules a.seat.now size
  tried-before size full own = tried-full rules a.seat.now size rooms-a full (own-before size own) ready-a.own.2

  pub none-then : (size : ℕ) → HasRooms rules b.seat.now → HasNoRoom rules a.seat.now size → HasNoRoom rules b.seat.now size
  none-then size rooms-b none = no-room-later rules a.seat.now b.seat.now takes.searches.makes.goes.start takes.searches.makes.goes.number takes.searches.makes.goes.prefix ready-a.own.2 ready-b.own.2 takes.owned takes.searches.made rooms-a rooms-b regions size none

-- under a plan with lines the regions alone are tried
pub tried-lines : (rules : Rules) (seat : MutatorSeat) (size : ℕ) → FillsLines rules.fill → LacksRegionRoom rules seat size → LacksTriedRegions rules seat size
tried-lines rules seat size lines full = record { own = λ no. absurd (no lines); lines = full }

pub full-same : (rules : Rules) (a b : MutatorSeat) (size : ℕ) → regions_at b ≡ regions_at a → LacksRegionRoom rules a size → LacksRegionRoom rules b size
full-same rules a b size regions full lines = subst (λ (r : MutatorRegions). LacksRoom (cursors_of r) size) (sym regions) (full lines)

-- after a search of own blocks in vain and one of blocks that nobody owns there is no room
pub all-rooms : {P : Type 0} (rules : Rules) (a m b : Racing P) (size : ℕ) → IsReady rules m → IsReady rules b → HasRooms rules m.seat.now → HasRooms rules b.seat.now → regions_at m.seat.now ≡ regions_at a.seat.now → LacksRegionRoom rules a.seat.now size → LacksOwn rules m.seat.now size
    → TakesNothing rules m b → regions_at b.seat.now ≡ regions_at m.seat.now → LacksUnowned rules b.seat.now size → HasNoRoom rules b.seat.now size
all-rooms rules a m b size ready-m ready-b rooms-m rooms-b first full own takes then unowned =
    no-room rules b.seat.now size rooms-b (full-same rules a.seat.now b.seat.now size (then ∙ first) full) (own-then rules m b ready-m ready-b rooms-m takes then size own) unowned

-- what was taken, told of the seats
module _ (rules : Rules) (a m b : MutatorSeat) (size k : ℕ) (keeps : KeepsBlocks m b) where
  ticket-kept : KeepsTicket rules a size m → KeepsTicket rules a size b
  ticket-kept is = record {
    kept = λ t was. keeps.ticket ∙ is.kept t was;
    drawn = elim is.drawn as (λ _. ((local_of b).ticket ≡ (local_of a).ticket) ⊎ (Overflows rules.fill (regions_at a) size × ((t : ℕ) × ((local_of b).ticket ≡ Some t) × (allowance (epoch_of_seat rules a) ≤ t)))) [
      | inl same ↦ inl (keeps.ticket ∙ same)
      | inr spent ↦ inr (spent.0, (spent.1.0, keeps.ticket ∙ spent.1.1, spent.1.2))
    ];
  }

  pub room-then : (LacksUnowned rules m size → LacksUnowned rules b size) → ((end : ℕ) → LacksUnownedBelow rules m end size → LacksUnownedBelow rules b end size) → ((end : ℕ) → LacksFreeBelow rules m end → LacksFreeBelow rules b end)
      → TakesRoom rules a size k m → TakesRoom rules a size k b
  room-then still below free (takes_nothing owned granted ticket) = takes_nothing (keeps.owned ∙ owned) (keeps.granted ∙ granted) (ticket-kept ticket)
  room-then still below free (takes_hole is) = takes_hole (record {
    owned = keeps.owned ∙ is.owned;
    granted = keeps.granted ∙ is.granted;
    used = is.used;
    ticket = ticket-kept is.ticket;
    full = is.full;
    lowest = below k is.lowest;
  })
  room-then still below free (takes_free is) = takes_free (record {
    owned = keeps.owned ∙ is.owned;
    granted = keeps.granted ∙ is.granted;
    free = is.free;
    ticket = keeps.ticket ∙ is.ticket;
    good = is.good;
    full = is.full;
    last = elim is.last as (λ _. Overflows rules.fill (regions_at a) size ⊎ LacksUnowned rules b size) [
      | inl over ↦ inl over
      | inr none ↦ inr (still none)
    ];
    lowest = free k is.lowest;
  })

-- an object in a region that had room costs nothing
pub room-here : (rules : Rules) (a b : MutatorSeat) (size k : ℕ) → KeepsBlocks a b → TakesRoom rules a size k b
room-here rules a b size k keeps = takes_nothing keeps.owned keeps.granted (record { kept = λ t was. keeps.ticket ∙ was; drawn = inl keeps.ticket })

module _ {P : Type 0} (rules : Rules) (a b : Racing P) (size : ℕ) where
  -- the ticket of a search that drew none
  ticket-same : (local b).ticket ≡ (local a).ticket → KeepsTicket rules a.seat.now size b.seat.now
  ticket-same same = record { kept = λ t was. same ∙ was; drawn = inl same }

  -- the room of a hole, where no ticket was drawn
  pub room-of-hole : (block : ℕ) → TakesOneHole rules a b block size → TakesRoom rules a.seat.now size block b.seat.now
  room-of-hole block is = elim is.takes as (λ _. TakesRoom rules a.seat.now size block b.seat.now) [
    | inl none ↦ takes_nothing none.owned none.granted (ticket-same is.ticket)
    | inr one ↦ takes_hole (record { owned = one.0.owned; granted = one.0.granted; used = one.0.used; ticket = ticket-same is.ticket; full = one.1; lowest = one.2 })
  ]

  -- of a Free block
  pub room-of-free : (block : ℕ) → TakesFree rules a b block (class_for rules.fill size) → ((t : ℕ) → (local a).ticket ≡ Some t → t < allowance (epoch_of_racing rules a)) → LacksTriedRegions rules a.seat.now size
      → Overflows rules.fill (regions_at a.seat.now) size ⊎ LacksUnowned rules b.seat.now size → LacksFreeBelow rules b.seat.now block → TakesRoom rules a.seat.now size block b.seat.now
  room-of-free block is good full last lowest = takes_free (record { owned = is.owned; granted = is.granted; free = is.free; ticket = is.ticket; good = good; full = full; last = last; lowest = lowest })

  -- of a Free block, after all holes were looked for in vain
  pub room-at-last : (m : Racing P) (block : ℕ) → TakesNothing rules a m → (local m).ticket ≡ (local a).ticket → IsReady rules a → IsReady rules m → IsReady rules b → HasRooms rules a.seat.now → HasRooms rules m.seat.now → regions_at m.seat.now ≡ regions_at a.seat.now
      → LacksRegionRoom rules a.seat.now size → HasNoRoom rules m.seat.now size → Searches rules m b → ((t : ℕ) → (local m).ticket ≡ Some t → t < allowance (epoch_of_racing rules m)) → TakesFree rules m b block (class_for rules.fill size) → LacksFreeBelow rules b.seat.now block → TakesRoom rules a.seat.now size block b.seat.now
  room-at-last m block none same ready-a ready-m ready-b rooms-a rooms-m regions full lacks searches good is lowest = room-of-free block (free-after rules a m b block (class_for rules.fill size) none is)
      (λ t was. subst (λ (g : EpochStart). t < allowance (epoch_with rules g)) none.searches.makes.goes.start (good t (same ∙ was)))
      (tried-before rules a m ready-a ready-m rooms-a none regions size full (own-lacks rules m.seat.now size rooms-m lacks))
      (inr (unowned-then rules m b [] ready-m ready-b searches.makes size (unowned-lacks rules m.seat.now size lacks))) lowest

  -- of a hole in overflow allocation, after the ticket was seen to be spent
  pub room-in-vain : (m : Racing P) (block t : ℕ) → TakesNothing rules a m → (local m).ticket ≡ Some t → allowance (epoch_of_racing rules m) ≤ t → Overflows rules.fill (regions_at a.seat.now) size
      → (LacksTriedRegions rules m.seat.now size → LacksTriedRegions rules a.seat.now size) → TakesOneHole rules m b block size → TakesRoom rules a.seat.now size block b.seat.now
  room-in-vain m block t none ticket few over full is = elim is.takes as (λ _. TakesRoom rules a.seat.now size block b.seat.now) [
    | inl more ↦ takes_nothing (more.owned ∙ none.owned) (more.granted ∙ none.granted) spent
    | inr one ↦ takes_hole (record {
      owned = one.0.owned ∙ ap (λ (os : List OwnedBlock). (record { block = block; class = class_for rules.fill size }) ∷ os) none.owned;
      granted = one.0.granted ∙ none.granted;
      used = subst (λ (g : EpochStart). HasKind (epoch_with rules g).before block kinds.Free → ⊥) none.searches.makes.goes.start one.0.used;
      ticket = spent;
      full = full one.1;
      lowest = one.2;
    })
  ]
    where
      spent : KeepsTicket rules a.seat.now size b.seat.now
      spent = record {
        kept = λ u was. is.ticket ∙ none.ticket u was;
        drawn = inr (over, (t, is.ticket ∙ ticket, subst (λ (g : EpochStart). allowance (epoch_with rules g) ≤ t) none.searches.makes.goes.start few));
      }

-- what a mutator has after an object was made is what it had, and the object
pub keeps-with : (a b : MutatorSeat) (x : Extent) → holdings (local_of b) ≡ with_object (holdings (local_of a)) x → KeepsBlocks a b
keeps-with a b x is = record { owned = ap (λ (h : Holdings). h.owned) is; granted = ap (λ (h : Holdings). h.granted) is; ticket = ap (λ (h : Holdings). h.ticket) is }

-- the object that was published is in the register
pub born-at : (rules : Rules) (a b : MutatorSeat) (address d refs nums : ℕ) → KnowsLog (epoch_of_seat rules a) (known a) → d < 16 → local_of b ≡ born (local_of a) address d refs nums → address_in (local_of b) d ≡ address
born-at rules a b address d refs nums told few is = ap (λ (l : Local). address_in l d) is ∙ get_or-set_same (local_of a).registers d address 0 (subst (λ (n : ℕ). d < n) (sym (moments.sixteen (epoch_of_seat rules a) (known a) told)) few)

pub placed-at : (rules : Rules) (a b : MutatorSeat) (address d refs nums : ℕ) → KnowsLog (epoch_of_seat rules a) (known a) → d < 16 → IsPlaceOfMutator (epoch_of_seat rules a) (local_of a).owned address (size_of refs nums) → BeginsRegion (epoch_of_seat rules a) (local_of a).made address (size_of refs nums)
    → local_of b ≡ born (local_of a) address d refs nums → PlacesObject rules a d (size_of refs nums) b
placed-at rules a b address d refs nums told few place begins is = record {
  made = ap (λ (l : Local). l.made) is ∙ ap (λ (x : ℕ). (record { address = x; size = size_of refs nums }) ∷ (local_of a).made) (sym (born-at rules a b address d refs nums told few is));
  place = subst (λ (x : ℕ). IsPlaceOfMutator (epoch_of_seat rules a) (local_of b).owned x (size_of refs nums)) (sym (born-at rules a b address d refs nums told few is))
      (subst (λ (os : List OwnedBlock). IsPlaceOfMutator (epoch_of_seat rules a) os address (size_of refs nums)) (sym (ap (λ (l : Local). l.owned) is)) place);
  front = subst (λ (x : ℕ). BeginsRegion (epoch_of_seat rules a) (local_of a).made x (size_of refs nums)) (sym (born-at rules a b address d refs nums told few is)) begins;
}

-- the object that was placed after a search
pub placed-after : {P : Type 0} (rules : Rules) (a m b : Racing P) (d size : ℕ) → Searches rules a m → PlacesObject rules m.seat.now d size b.seat.now → PlacesObject rules a.seat.now d size b.seat.now
placed-after rules a m b d size searches is = record {
  made = is.made ∙ ap (λ (xs : List Extent). (record { address = address_in (local b) d; size = size }) ∷ xs) searches.made;
  place = subst (λ (g : EpochStart). IsPlaceOfMutator (epoch_with rules g) (local b).owned (address_in (local b) d) size) searches.makes.goes.start is.place;
  front = subst (λ (xs : List Extent). BeginsRegion (epoch_of_racing rules a) xs (address_in (local b) d) size) searches.made
      (subst (λ (g : EpochStart). BeginsRegion (epoch_with rules g) (local m).made (address_in (local b) d) size) searches.makes.goes.start is.front);
}
