-- Blocks without an owner that have no hole for a size.
use Rattle.std.proofs.Common.{◌≡◌, ◌≢◌, refl, sym, ◌∙◌, ap, subst, ℕ, ◌+◌, ◌*◌, ◌/◌, ◌%◌, ◌<◌, ◌≤◌, ◌⊎◌, inl, inr, arith, IsTrue, List, [], ◌∷◌, ◌++◌, slice_get}
use Rattle.std.specs.Prelude.{Some, Option, None, slice_set}
use Rattle.std.specs.List.{Contains}
use Rattle.std.proofs.lemmas.Bool.{cases_eq, cases_lt}
use Rattle.heap_layout.specs.Zones.{block_at}
use Rattle.heap_layout.specs.Blocks.{code_of, kind_code, is_block_code}
use Rattle.heap_layout.specs.declared.block.BlockWord.{BlockWord}
use Rattle.heap_layout.proofs.BlockLemmas.{kind_code_most}
use Rattle.heap_layout.specs.declared.block.Kind.{Kind}
use Rattle.heap_layout.specs.declared.block.Kind.TheVariants as kinds
use Rattle.heap_layout.specs.declared.region.Region.{Region}
use Rattle.ideal_heap.specs.Ideal.{IdealHeap}
use Rattle.ideal_heap.specs.Runs.{Entry}
use Rattle.object_model.specs.Objects.{HeapState, HasKind, block_word, owner_at, class_at, IsHeld, size_at, size_of}
use Rattle.object_model.proofs.OneKind.{kind-code}
use Rattle.sessions.specs.Fitting.{HasHole, class_for}
use Rattle.sessions.specs.Plans.{Rules}
use Rattle.sessions.specs.Sessions.{block_of_kind}
use Rattle.sessions.proofs.HoleRooms.{hole-kind}
use Rattle.block_regions.specs.Elements.{ChangesAt}
use Rattle.block_regions.specs.Notes.{FillsHoles, LacksHoles}
use Rattle.block_regions.specs.declared.block_notes.BlockNote.{BlockNote}
use Rattle.block_regions.specs.declared.block_notes.BlockNote.TheVariants.{Unowned, Owned}
use Rattle.block_regions.proofs.BlockFrames.{SameBlock}
use Rattle.block_regions.proofs.RegionFrames.{turn-round, hole-as}
use Rattle.block_regions.proofs.FilledKinds.{suits-hole, class-few}
use Rattle.block_regions.proofs.NoteLemmas.{no-hole}
use Rattle.block_regions.proofs.Elements.{set-changes, set-here, set-other, changes-cases}
use Rattle.block_regions.proofs.Lists.{one-element, get-below}
use Rattle.local_allocators.specs.declared.local_seat.LocalSeat.{LocalSeat}
use Rattle.local_allocators.specs.NotedRegions.{nowhere, region_noted, region_of}
use Rattle.local_allocators.specs.Seats.{block_of, over_of}
use Rattle.plan_api.specs.declared.block_view.BlockView.{BlockView}
use Rattle.plan_api.specs.Holes.{IsFirstHole}
use Rattle.plan_api.specs.Prelude.{AreApart}
use Rattle.plan_api.specs.Views.{IsViewOf}
use Rattle.plan_api.proofs.BlockViews.{orderly-apart}
use Rattle.mutator_core.specs.declared.state.Local.{Local}
use Rattle.mutator_core.specs.declared.state.OwnedBlock.{OwnedBlock}
use Rattle.mutator_core.specs.declared.state.LogEntry.{LogEntry}
use Rattle.mutator_core.specs.Machine.{Epoch}
use Rattle.mutator_core.specs.Epochs.{IsInEpoch, IsMade, IsOwned}
use Rattle.mutator_core.specs.Logs.{IsEpochLog, machine_after, heap_after, local_after_log}
use Rattle.mutator_core.proofs.Fills.{owned-owner}
use Rattle.mutator_core.proofs.Places.{place-owner, unowned-word}
use Rattle.mutator_rule.specs.declared.seat.MutatorSeat.{MutatorSeat}
use Rattle.mutator_rule.specs.declared.seat_notes.SeatNotes.{SeatNotes}
use Rattle.mutator_rule.specs.declared.views.EpochStart.{EpochStart}
use Rattle.mutator_rule.specs.declared.views.MutatorView.{MutatorView}
use Rattle.mutator_rule.specs.Views.{epoch_with}
use Rattle.mutator_rule.specs.Logs.{KnowsLog, MakesEntries}
use Rattle.mutator_rule.specs.Seats.{KeepsKnown}
use Rattle.mutator_rule.proofs.Moments as moments
use Rattle.racing_mutator.specs.declared.racing.Racing.{Racing}
use Rattle.racing_mutator.specs.RacingSeats.{view, local, holdings, epoch_of_racing, heap_seen, IsReady, OnlyLoads, Makes}
use Rattle.racing_rooms.specs.Rooms.{Holdings, HasRooms, HasRoomsIn, AllocatesIn, IsOwnRegion}
use Rattle.racing_rooms.specs.NoRoom.{regions_at, LacksUnownedBelow}
use Rattle.racing_mutator.specs.Searches.{TakesNothing, TakesHole}
use Rattle.racing_mutator.specs.Holes.{LacksFrom, IsTakenOrLacks, IsNotedUnowned, NotesUnowned, OnlySearches, Lacks}
use Rattle.racing_mutator.specs.Looks.{HasLooked}
use Rattle.racing_rooms.proofs.Known.{knows}
use Rattle.racing_mutator.proofs.BlockViewed.{viewed}
use Rattle.racing_mutator.proofs.Entered.{rooms-same}
use Rattle.racing_mutator.proofs.Noted.{noted-makes, noted-ready}
use Rattle.racing_rooms.proofs.RoomsKept.{owner-later, rooms-now, rooms-kept}
use Rattle.racing_mutator.proofs.Searched.{searches-nothing, searches-both}

-- a block that has no owner after a log of an epoch has the holes that it had as the epoch began
module _ (p : Epoch) (i : IdealHeap) (log : List LogEntry) (is : IsEpochLog p i log) (k : ℕ) (there : k < p.before.blocks) (nobody : owner_at (heap_after p log) k ≡ 0) where
  abbrev s : HeapState
  s = heap_after p log

  now : IsInEpoch p s (machine_after p log).locals
  now = moments.epoch p i log is

  none-made : (m x : ℕ) → Contains ((machine_after p log).locals m).made (record { address = x; size = size_at s x }) → block_at s.blocks x ≢ k
  none-made m x made here =
      let is-made : IsMade p s ((machine_after p log).locals m).owned (record { address = x; size = size_at s x }) = (now.knows m).objects (record { address = x; size = size_at s x }) made in
      let owner = place-owner p (machine_after p log) now m x (size_at s x) is-made.place in
      let some : 0 < m = owner.1 in
      let none : m ≡ 0 = sym owner.0 ∙ ap (owner_at s) here ∙ nobody in
      omega arith

  same-block : SameBlock p.before s k
  same-block = record {
    there = there;
    blocks = refl;
    word = ap (λ v. v % 65536) (unowned-word p (machine_after p log) now k there nobody);
    held = λ x before here. ((now.stays x before).0, ap (λ v. size_of (v % 65536) (v / 65536)) ((now.stays x before).1 1 (omega arith)));
    back = λ x holds here. elim (now.births x holds) as (λ _. IsHeld p.before x) [
      | inl before ↦ before
      | inr made ↦ absurd (none-made made.0 x made.1 here)
    ];
  }

  pub hole-before : (fill : Kind) (at size : ℕ) → HasHole fill s k at size → HasHole fill p.before k at size
  hole-before fill at size hole = hole-as fill s p.before k at size (turn-round p.before s k same-block) (λ lines line few. sym (now.lines k line there few)) hole

-- a block of another kind, or of another class, has no hole for the size
pub other-kind : (fill : Kind) (s : HeapState) (k : ℕ) → block_word s k % 256 ≢ kind_code fill → (at size : ℕ) → HasHole fill s k at size → ⊥
other-kind fill s k other at size hole = other (kind-code s k fill (hole-kind fill s k at size hole))

pub other-word : (fill : Kind) → FillsHoles fill → (s : HeapState) (k size : ℕ) → IsTrue (is_block_code (block_word s k)) → owner_at s k ≡ 0 → block_word s k ≢ code_of (block_of_kind fill (class_for fill size)) → LacksHoles fill s k size
other-word fill fills s k size code nobody other at hole = elim (cases_eq (class_at s k) (class_for fill size)) as (λ _. ⊥) [
  | inl same ↦ other (
      let w : ℕ = block_word s k in
      let kind : w % 256 ≡ kind_code fill = kind-code s k fill (hole-kind fill s k at size hole) in
      let class : w / 256 % 256 ≡ class_for fill size = same in
      let owner : w / 65536 ≡ 0 = nobody in
      let whole : w ≡ kind_code fill + 256 * class_for fill size + 65536 * 0 = omega arith in
      whole)
  | inr different ↦ suits-hole fill fills s k at size code different hole
]

-- the kind, the class and the owner in a block word
pub kind-in : (kind class w : ℕ) → kind ≤ 8 → class ≤ 18 → w ≡ kind + 256 * class + 65536 * 0 → w % 256 ≡ kind
kind-in kind class w few small is = omega arith

pub owner-in : (kind class w : ℕ) → kind ≤ 8 → class ≤ 18 → w ≡ kind + 256 * class + 65536 * 0 → w / 65536 ≡ 0
owner-in kind class w few small is = omega arith

pub class-in : (kind class w : ℕ) → kind ≤ 8 → class ≤ 18 → w ≡ kind + 256 * class + 65536 * 0 → w / 256 % 256 ≡ class
class-in kind class w few small is = omega arith

-- while others step
module _ (rules : Rules) (a b : MutatorView) (es : List Entry) (goes : MakesEntries rules a es b) (told : KnowsLog (epoch_with rules b.start) b) where
  abbrev p : Epoch
  p = epoch_with rules a.start

  pub owner-then : (k : ℕ) → k < p.before.blocks → 0 < owner_at (heap_after p a.seen) k → 0 < owner_at (heap_after (epoch_with rules b.start) b.seen) k
  owner-then k there some =
      let told-a : KnowsLog p b = subst (λ (g : EpochStart). KnowsLog (epoch_with rules g) b) goes.start told in
      let seen : b.seen ≡ a.seen ++ goes.prefix.0 = sym goes.prefix.1 in
      let is : IsEpochLog p told-a.ideal (a.seen ++ goes.prefix.0) = subst (IsEpochLog p told-a.ideal) seen told-a.epoch in
      subst (λ (e : EpochStart). 0 < owner_at (heap_after (epoch_with rules e) b.seen) k) (sym goes.start)
      (subst (λ (l : List LogEntry). 0 < owner_at (heap_after p l) k) (sym seen) (owner-later p told-a.ideal a.seen goes.prefix.0 is k there some))

  pub lacks-then : (k size : ℕ) → k < p.before.blocks → IsTakenOrLacks p (heap_after p a.seen) k size → IsTakenOrLacks (epoch_with rules b.start) (heap_after (epoch_with rules b.start) b.seen) k size
  lacks-then k size there lacks = elim lacks as (λ _. IsTakenOrLacks (epoch_with rules b.start) (heap_after (epoch_with rules b.start) b.seen) k size) [
    | inl some ↦ inl (owner-then k there some)
    | inr none ↦ inr (subst (λ (e : EpochStart). LacksHoles rules.fill (epoch_with rules e).before k size) (sym goes.start) none)
  ]

-- what each block lacks as the epoch began it lacks in the heap that was seen
pub lacks-below : {P : Type 0} (rules : Rules) (a : Racing P) (end size : ℕ) → KnowsLog (epoch_of_racing rules a) (view a) → end ≤ (epoch_of_racing rules a).before.blocks → ((k : ℕ) → k < end → Lacks rules a k size) → LacksUnownedBelow rules a.seat.now end size
lacks-below rules a end size told inside lacks = record {
  each = λ k low nobody at hole.
      let there : k < (epoch_of_racing rules a).before.blocks = omega arith in
      elim (lacks k low) as (λ _. ⊥) [
        | inl some ↦ (let none : owner_at (heap_seen rules a) k ≡ 0 = nobody in omega arith)
        | inr none ↦ none at (hole-before (epoch_of_racing rules a) told.ideal (view a).seen told.epoch k there nobody rules.fill at size hole)
      ];
}

-- a block that is noted as nobody's is noted anew
module _ (p : Epoch) (s : HeapState) (h : Holdings) (notes : List BlockNote) (local : LocalSeat) (allowed : ℕ) (has : HasRoomsIn p s h notes local allowed) (k was least : ℕ) (note : slice_get notes k ≡ Some (Unowned was)) (lacks : LacksFrom p s k least) where
  abbrev later : List BlockNote
  later = slice_set notes k (Unowned least)

  changes : ChangesAt notes later k (Unowned least)
  changes = set-changes notes k (Unowned least) (get-below notes k (Unowned was) note)

  not-owned : (owner : ℕ) (region : Region) → slice_get notes k ≡ Some (Owned owner region) → ⊥
  not-owned owner region is = let wrong : Unowned was ≡ Owned owner region = one-element (slice_get notes k) (Unowned was) (Owned owner region) note is in cc

  keeps : (class j : ℕ) → AllocatesIn p h notes class j → AllocatesIn p h later class j
  keeps class j a = record {
    owner = a.owner;
    region = a.region;
    note = changes.others j (λ same. not-owned a.owner a.region (subst (λ (q : ℕ). slice_get notes q ≡ Some (Owned a.owner a.region)) same a.note)) ∙ a.note;
    room = a.room;
  }

  pub rooms-passed : HasRoomsIn p s h later local allowed
  rooms-passed = record {
    allows = has.allows;
    ticket = has.ticket;
    len = changes.len ∙ has.len;
    unowned = λ j n is. elim (changes-cases notes later k (Unowned least) changes j (Unowned n) is) as (λ _. (0 < owner_at s j) ⊎ ((at size : ℕ) → n ≤ size → HasHole p.rules.fill p.before j at size → ⊥)) [
      | inl here ↦ (
          let e : Unowned n ≡ Unowned least = here.1 in
          let same : n ≡ least = cc in
          subst (λ (q : ℕ). LacksFrom p s q n) (sym here.0) (subst (λ (m : ℕ). LacksFrom p s k m) (sym same) lacks))
      | inr other ↦ has.unowned j n other.1
    ];
    owned = λ j o r is. elim (changes-cases notes later k (Unowned least) changes j (Owned o r) is) as (λ _. (class : ℕ) × IsOwnRegion p h j class r) [
      | inl here ↦ absurd (let wrong : Owned o r ≡ Unowned least = here.1 in cc)
      | inr other ↦ has.owned j o r other.1
    ];
    noted = λ o among. let was = has.noted o among in record {
      owner = was.owner;
      region = was.region;
      note = changes.others o.block (λ same. not-owned was.owner was.region (subst (λ (q : ℕ). slice_get notes q ≡ Some (Owned was.owner was.region)) same was.note)) ∙ was.note;
    };
    classes = has.classes;
    each = λ class j b. keeps class j (has.each class j b);
    over = λ j b. ((has.over j b).0, keeps 0 j (has.over j b).1);
  }

-- notes on blocks of nobody, one change after another
pub notes-same : (x y : SeatNotes) → y ≡ x → NotesUnowned x y
notes-same x y same = subst (λ (z : SeatNotes). NotesUnowned x z) (sym same) (record {
  flags = refl;
  local = refl;
  regions = λ k. refl;
  unowned = λ k is. is;
})

notes-both : (x y z : SeatNotes) → NotesUnowned x y → NotesUnowned y z → NotesUnowned x z
notes-both x y z one two = record {
  flags = two.flags ∙ one.flags;
  local = two.local ∙ one.local;
  regions = λ k. two.regions k ∙ one.regions k;
  unowned = λ k is. two.unowned k (one.unowned k is);
}

noted-nowhere : (o : Option BlockNote) (least : ℕ) → o ≡ Some (Unowned least) → region_noted o ≡ nowhere
noted-nowhere o least is = ap region_noted is

regions-passed : (xs : List BlockNote) (k was least : ℕ) → slice_get xs k ≡ Some (Unowned was) → (b : Option ℕ) → region_of (slice_set xs k (Unowned least)) b ≡ region_of xs b
regions-passed xs k was least note None = refl
regions-passed xs k was least note (Some j) = elim (cases_eq j k) as (λ _. region_noted (slice_get (slice_set xs k (Unowned least)) j) ≡ region_noted (slice_get xs j)) [
  | inl same ↦ subst (λ (q : ℕ). region_noted (slice_get (slice_set xs k (Unowned least)) q) ≡ region_noted (slice_get xs q)) (sym same)
      (noted-nowhere _ least (set-here xs k (Unowned least) (get-below xs k (Unowned was) note)) ∙ sym (noted-nowhere _ was note))
  | inr other ↦ ap region_noted (set-other xs k (Unowned least) j other)
]

notes-passed : (x y : SeatNotes) (k least : ℕ) → IsNotedUnowned x k → y ≡ record x { blocks = y.blocks } → y.blocks.items ≡ slice_set x.blocks.items k (Unowned least) → NotesUnowned x y
notes-passed x y k least was rest blocks = record {
  flags = ap (λ (n : SeatNotes). n.flags) rest;
  local = ap (λ (n : SeatNotes). n.local) rest;
  regions = λ b. ap (λ (ns : List BlockNote). region_of ns b) blocks ∙ regions-passed x.blocks.items k was.0 least was.1 b;
  unowned = λ j is. elim (cases_eq j k) as (λ _. IsNotedUnowned y j) [
    | inl same ↦ (
      least,
      ap (λ (ns : List BlockNote). slice_get ns j) blocks ∙ ap (λ (q : ℕ). slice_get (slice_set x.blocks.items k (Unowned least)) q) same
          ∙ set-here x.blocks.items k (Unowned least) (get-below x.blocks.items k (Unowned was.0) was.1),
    )
    | inr other ↦ (is.0, ap (λ (ns : List BlockNote). slice_get ns j) blocks ∙ set-other x.blocks.items k (Unowned least) j other ∙ is.1)
  ];
}

-- the regions are the same then
pub regions-unchanged : (a b : MutatorSeat) → NotesUnowned a.notes b.notes → regions_at b ≡ regions_at a
regions-unchanged a b is = λ i. record {
  blocks = λ class. block_of (Some (is.local i)) class;
  over = over_of (Some (is.local i));
  left = λ k. is.regions k i;
}

module _ {P : Type 0} (rules : Rules) where
  pub only-nothing : (a : Racing P) → OnlySearches rules a a
  only-nothing a = record { searches = searches-nothing rules a; kept = refl; notes = notes-same a.seat.now.notes a.seat.now.notes refl }

  pub only-both : (a b c : Racing P) → OnlySearches rules a b → OnlySearches rules b c → OnlySearches rules a c
  only-both a b c x y = record {
    searches = searches-both rules a b c x.searches y.searches;
    kept = y.kept ∙ x.kept;
    notes = notes-both a.seat.now.notes b.seat.now.notes c.seat.now.notes x.notes y.notes;
  }

  -- loads alone
  pub only-loads : (a b : Racing P) → OnlyLoads rules a b → b.seat.now.notes ≡ a.seat.now.notes → (local b).births ≡ (local a).births → OnlySearches rules a b
  only-loads a b looks notes births = record {
    searches = record { makes = looks.makes; raised = looks.raised; births = births; made = ap (λ (h : Holdings). h.made) looks.kept };
    kept = looks.kept;
    notes = notes-same a.seat.now.notes b.seat.now.notes notes;
  }

  pub looked-rooms : (a b : Racing P) → OnlyLoads rules a b → IsReady rules b → HasRooms rules a.seat.now → HasRooms rules b.seat.now
  looked-rooms a b looks ready has = rooms-kept rules a.seat.now b.seat.now [] looks.makes.goes ready.own.2 looks.kept looks.rooms has

  -- such a search takes nothing
  pub only-takes : (a b : Racing P) → OnlySearches rules a b → TakesNothing rules a b
  only-takes a b only = record {
    searches = only.searches;
    owned = ap (λ (h : Holdings). h.owned) only.kept;
    granted = ap (λ (h : Holdings). h.granted) only.kept;
    ticket = λ t is. ap (λ (h : Holdings). h.ticket) only.kept ∙ is;
  }

  -- what a block lacks it lacks later
  pub lacks-later : (a b : Racing P) (k size : ℕ) → Makes rules a [] b → IsReady rules b → k < (epoch_of_racing rules a).before.blocks → Lacks rules a k size → Lacks rules b k size
  lacks-later a b k size makes ready there lacks = lacks-then rules (view a) (view b) [] makes.goes ready.own.2 k size there lacks

  -- a note on a block of nobody
  module _ (a b : Racing P) (k least : ℕ) (keeps : KeepsKnown a.seat.now b.seat.now) (row : b.row ≡ a.row) (seat : b.seat.ghost_name ≡ a.seat.ghost_name) (was : IsNotedUnowned a.seat.now.notes k)
      (rest : b.seat.now.notes ≡ record a.seat.now.notes { blocks = b.seat.now.notes.blocks }) (blocks : b.seat.now.notes.blocks.items ≡ slice_set a.seat.now.notes.blocks.items k (Unowned least)) where
    pub only-passed : OnlySearches rules a b
    only-passed = record {
      searches = record {
        makes = noted-makes rules a b seat row keeps (ap (λ (n : SeatNotes). n.flags) rest);
        raised = ap (λ (v : MutatorView). v.local.raised) keeps.known_stays;
        births = ap (λ (v : MutatorView). v.local.births) keeps.known_stays;
        made = ap (λ (v : MutatorView). v.local.made) keeps.known_stays;
      };
      kept = ap (λ (v : MutatorView). holdings v.local) keeps.known_stays;
      notes = notes-passed a.seat.now.notes b.seat.now.notes k least was rest blocks;
    }

    pub passed-rooms : IsReady rules a → HasRooms rules a.seat.now → LacksFrom (epoch_of_racing rules a) (heap_seen rules a) k least → HasRooms rules b.seat.now
    passed-rooms ready has lacks = rooms-now rules a.seat.now b.seat.now (holdings (local a)) (slice_set a.seat.now.notes.blocks.items k (Unowned least)) a.seat.now.notes.local a.seat.now.notes.allowance []
        only-passed.searches.makes.goes (noted-ready rules a b seat row keeps ready).own.2 only-passed.kept blocks (ap (λ (n : SeatNotes). n.local) rest) (ap (λ (n : SeatNotes). n.allowance) rest)
        (rooms-passed (epoch_of_racing rules a) (heap_after (epoch_of_racing rules a) (view a).seen) (holdings (local a)) a.seat.now.notes.blocks.items a.seat.now.notes.local a.seat.now.notes.allowance has k was.0 least was.1 lacks)

  pub ready-by : (a b : Racing P) → OnlySearches rules a b → KeepsKnown a.seat.now b.seat.now → IsReady rules a → IsReady rules b
  ready-by a b only keeps ready = noted-ready rules a b only.searches.makes.seat only.searches.makes.row keeps ready

  pub rooms-by : (a b : Racing P) (k least : ℕ) → OnlySearches rules a b → KeepsKnown a.seat.now b.seat.now → IsNotedUnowned a.seat.now.notes k → b.seat.now.notes ≡ record a.seat.now.notes { blocks = b.seat.now.notes.blocks }
      → b.seat.now.notes.blocks.items ≡ slice_set a.seat.now.notes.blocks.items k (Unowned least) → IsReady rules a → HasRooms rules a.seat.now → LacksFrom (epoch_of_racing rules a) (heap_seen rules a) k least → HasRooms rules b.seat.now
  rooms-by a b k least only keeps was rest blocks ready has lacks = passed-rooms a b k least keeps only.searches.makes.row only.searches.makes.seat was rest blocks ready has lacks

  pub lacks-by : (a b : Racing P) (k size : ℕ) → OnlySearches rules a b → KeepsKnown a.seat.now b.seat.now → Lacks rules a k size → Lacks rules b k size
  lacks-by a b k size only keeps lacks = subst (λ (v : MutatorView). IsTakenOrLacks (epoch_with rules v.start) (heap_after (epoch_with rules v.start) v.seen) k size) (sym keeps.known_stays) lacks

  -- steps that change nothing that the mutator has
  pub only-missed : (a t : Racing P) → Makes rules a [] t → (local t).raised ≡ (local a).raised → (local t).births ≡ (local a).births → holdings (local t) ≡ holdings (local a) → t.seat.now.notes ≡ a.seat.now.notes → OnlySearches rules a t
  only-missed a t makes raised births kept notes = record {
    searches = record { makes = makes; raised = raised; births = births; made = ap (λ (h : Holdings). h.made) kept };
    kept = kept;
    notes = notes-same a.seat.now.notes t.seat.now.notes notes;
  }

  pub missed-rooms : (a t : Racing P) → Makes rules a [] t → IsReady rules t → holdings (local t) ≡ holdings (local a) → t.seat.now.notes ≡ a.seat.now.notes → HasRooms rules a.seat.now → HasRooms rules t.seat.now
  missed-rooms a t makes ready kept notes has = rooms-kept rules a.seat.now t.seat.now [] makes.goes ready.own.2 kept (rooms-same a.seat.now.notes t.seat.now.notes notes) has

  pub still-noted : (a b : Racing P) (k : ℕ) → b.seat.now.notes ≡ a.seat.now.notes → IsNotedUnowned a.seat.now.notes k → IsNotedUnowned b.seat.now.notes k
  still-noted a b k notes is = subst (λ (n : SeatNotes). IsNotedUnowned n k) (sym notes) is

  -- what a block word tells
  module _ (a l : Racing P) (k n : ℕ) (looks : OnlyLoads rules a l) where
    pub wrong-kind : (kind : ℕ) → n ≡ block_word (epoch_of_racing rules a).before k → kind ≡ kind_code rules.fill → n % 256 ≢ kind → LacksFrom (epoch_of_racing rules l) (heap_seen rules l) k 0
    wrong-kind kind word is other = inr (subst (λ (e : EpochStart). (at size : ℕ) → 0 ≤ size → HasHole rules.fill (epoch_with rules e).before k at size → ⊥) (sym looks.makes.goes.start)
        (λ at size few hole. other-kind rules.fill (epoch_of_racing rules a).before k (λ same. other (ap (λ (v : ℕ). v % 256) word ∙ same ∙ sym is)) at size hole))

    pub wrong-word : (size : ℕ) → FillsHoles rules.fill → IsTrue (is_block_code n) → n / 65536 ≡ 0 → n ≡ block_word (epoch_of_racing rules a).before k → n ≢ code_of (block_of_kind rules.fill (class_for rules.fill size)) → Lacks rules l k size
    wrong-word size fills code nobody word other = inr (subst (λ (e : EpochStart). LacksHoles rules.fill (epoch_with rules e).before k size) (sym looks.makes.goes.start)
        (other-word rules.fill fills (epoch_of_racing rules a).before k size (subst (λ (v : ℕ). IsTrue (is_block_code v)) word code) (ap (λ (v : ℕ). v / 65536) (sym word) ∙ nobody) (λ same. other (word ∙ same))))

    pub right-word : (w : BlockWord) → n ≡ block_word (epoch_of_racing rules a).before k → n ≡ code_of w → block_word (epoch_of_racing rules l).before k ≡ code_of w
    right-word w word is = ap (λ (e : EpochStart). block_word (epoch_with rules e).before k) looks.makes.goes.start ∙ sym word ∙ is

  -- a block in whose view there is no hole with room for the size has none for as many words or more, unless it has an owner
  pub vain-lacks : (l : Racing P) (k size : ℕ) (v : BlockView) → KnowsLog (epoch_of_racing rules l) (view l) → k < (epoch_of_racing rules l).before.blocks → 1 ≤ size → size ≤ 2048 → HasLooked (epoch_of_racing rules l) (local l) k v
      → block_word (epoch_of_racing rules l).before k ≡ code_of (block_of_kind rules.fill (class_for rules.fill size)) → ((s : HeapState) (j : ℕ) → IsViewOf s j v → AreApart s j → IsFirstHole rules.fill s j 0 size None) → LacksFrom (epoch_of_racing rules l) (heap_seen rules l) k size
  vain-lacks l k size v told there some small looked word none =
      let p : Epoch = epoch_of_racing rules l in
      let owner : ℕ = owner_at (heap_seen rules l) k in
      elim (cases_lt 0 owner) as (λ _. LacksFrom p (heap_seen rules l) k size) [
        | inl some ↦ inl some
        | inr few ↦ inr (
            let nobody : owner ≡ 0 = omega arith in
            let looked-then : HasLooked p (local_after_log p (view l).seen (local l).number) k v = subst (λ (x : Local). HasLooked p x k v) told.now looked in
            let is : IsViewOf p.before k v = viewed p told.ideal (view l).seen told.epoch (local l).number k v there looked-then nobody in
            no-hole rules.fill told.epoch.ready.fills p.before k size some small (λ kind. class-in (kind_code rules.fill) (class_for rules.fill size) (block_word p.before k) (kind_code_most rules.fill) (class-few rules.fill size) word)
            (none p.before k is (orderly-apart p.before k told.epoch.ready.lawful.but_lines.order)))
      ]

  pub lacks-size : (a : Racing P) (k least size : ℕ) → least ≤ size → LacksFrom (epoch_of_racing rules a) (heap_seen rules a) k least → Lacks rules a k size
  lacks-size a k least size few lacks = elim lacks as (λ _. Lacks rules a k size) [
    | inl some ↦ inl some
    | inr none ↦ inr (λ at hole. none at size few hole)
  ]

  -- what the notes say of a block
  pub noted-lacks : (a : Racing P) (k least size : ℕ) → HasRooms rules a.seat.now → slice_get a.seat.now.notes.blocks.items k ≡ Some (Unowned least) → least ≤ size → Lacks rules a k size
  noted-lacks a k least size has note few = lacks-size a k least size few (has.unowned k least note)

  pub own-lacks : (a : Racing P) (k owner size : ℕ) (region : Region) → HasRooms rules a.seat.now → KnowsLog (epoch_of_racing rules a) (view a) → slice_get a.seat.now.notes.blocks.items k ≡ Some (Owned owner region) → Lacks rules a k size
  own-lacks a k owner size region has told note =
      let own = has.owned k owner region note in
      let o : OwnedBlock = record { block = k; class = own.0 } in
      let is : IsOwned (epoch_of_racing rules a) (heap_seen rules a) (local a).number o = (knows (epoch_of_racing rules a) (view a) told).owned o own.1.mine in
      let some : 0 < (local a).number = is.somebody in
      let held : owner_at (heap_seen rules a) k ≡ (local a).number = owned-owner (epoch_of_racing rules a) (heap_seen rules a) (local a).number o is in
      inl (let more : 0 < owner_at (heap_seen rules a) k = omega arith in more)

  -- a hole that was taken after a search that took none
  pub takes-after : (a l b : Racing P) (k class : ℕ) → OnlySearches rules a l → TakesHole rules l b k class → TakesHole rules a b k class
  takes-after a l b k class only takes = record {
    owned = takes.owned ∙ ap (λ (h : Holdings). (record { block = k; class = class }) ∷ h.owned) only.kept;
    granted = takes.granted ∙ ap (λ (h : Holdings). h.granted) only.kept;
    ticket = takes.ticket ∙ ap (λ (h : Holdings). h.ticket) only.kept;
    used = λ free. takes.used (subst (λ (e : EpochStart). HasKind (epoch_with rules e).before k kinds.Free) (sym only.searches.makes.goes.start) free);
  }

  -- a block of the heap is one of the same heap later
  pub same-start : (a b : Racing P) (k : ℕ) → (view b).start ≡ (view a).start → k < (epoch_of_racing rules a).before.blocks → k < (epoch_of_racing rules b).before.blocks
  same-start a b k start there = subst (λ (e : EpochStart). k < (epoch_with rules e).before.blocks) (sym start) there
