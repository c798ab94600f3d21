-- How the regions of a mutator move, by its notes.
use Rattle.std.proofs.Common.{◌≡◌, refl, sym, ◌∙◌, ap, subst, ℕ, ◌+◌, ◌<◌, inl, inr, arith, Bool, true, false, nat_eq, if◌then◌else◌, List, ◌∷◌, length}
use Rattle.std.specs.Prelude.{Option, Some, None, slice_get, slice_set, unwrap_or}
use Rattle.std.proofs.lemmas.Bool.{cond-true, cond-false, eq-eqb}
use Rattle.std.proofs.lemmas.Bool.Decides.{eqb_tells}
use Rattle.heap_layout.specs.Zones.{block_start}
use Rattle.heap_layout.specs.declared.region.Region.{Region}
use Rattle.sessions.specs.Fitting.{class_for}
use Rattle.sessions.specs.Plans.{Rules}
use Rattle.plan_api.specs.Cursors.{RegionHasRoom}
use Rattle.block_regions.specs.declared.block_notes.BlockNote.{BlockNote}
use Rattle.block_regions.specs.declared.block_notes.BlockNote.TheVariants.{Owned}
use Rattle.block_regions.proofs.Elements.{set-here, set-other}
use Rattle.local_allocators.specs.declared.local_seat.LocalSeat.{LocalSeat}
use Rattle.local_allocators.specs.MutatorRegions.{MutatorRegions, IsBlockFor}
use Rattle.local_allocators.specs.NotedRegions.{region_of, region_noted}
use Rattle.local_allocators.specs.NotedSeats.{regions_in}
use Rattle.mutator_core.specs.declared.state.Local.{Local}
use Rattle.mutator_core.specs.declared.state.OwnedBlock.{OwnedBlock}
use Rattle.mutator_core.specs.Machine.{Epoch}
use Rattle.mutator_rule.specs.declared.seat.MutatorSeat.{MutatorSeat}
use Rattle.mutator_rule.specs.declared.views.EpochStart.{EpochStart}
use Rattle.mutator_rule.specs.Views.{epoch_with}
use Rattle.mutator_rule.specs.Seats.{known, local_of, epoch_of_seat}
use Rattle.racing_rooms.specs.NoRoom.{regions_at}
use Rattle.racing_rooms.specs.Rooms.{HasRooms}
use Rattle.block_regions.proofs.FilledKinds.{class-few}
use Rattle.racing_mutator.specs.Searches.{NotesOwn, seat_after, KeepsBlocks}
use Rattle.racing_mutator.specs.Regions.{is_block, with_left, with_block, IsRegionFor, IsRestOf, FindsRegion, FillsFront, FillsRegion}
use Rattle.racing_mutator.specs.Regions.{in_class, in_overflow, own_block, later_hole, unowned_hole, free_block}

-- the region of a block after one note changed
left-noted : (notes : List BlockNote) (k owner : ℕ) (region : Region) → k < length notes → (b : Option ℕ) → region_of (slice_set notes k (Owned owner region)) b ≡ (if is_block k b then region else region_of notes b)
left-noted notes k owner region there None = refl
left-noted notes k owner region there (Some j) = elim (eqb_tells j k) as (λ _. region_noted (slice_get (slice_set notes k (Owned owner region)) j) ≡ (if nat_eq j k then region else region_noted (slice_get notes j))) [
  | inl is ↦ (λ i. region_noted (slice_get (slice_set notes k (Owned owner region)) (is.1 i))) ∙ ap region_noted (set-here notes k (Owned owner region) there) ∙ sym (cond-true (nat_eq j k) region (region_noted (slice_get notes j)) is.0)
  | inr is ↦ ap region_noted (set-other notes k (Owned owner region) j is.1) ∙ sym (cond-false (nat_eq j k) region (region_noted (slice_get notes j)) is.0)
]

-- the block for a class after one was noted
block-noted : (xs : List (Option ℕ)) (class k : ℕ) → class < length xs → (c : ℕ) → unwrap_or (slice_get (slice_set xs class (Some k)) c) None ≡ (if nat_eq c class then Some k else unwrap_or (slice_get xs c) None)
block-noted xs class k few c = elim (eqb_tells c class) as (λ _. unwrap_or (slice_get (slice_set xs class (Some k)) c) None ≡ (if nat_eq c class then Some k else unwrap_or (slice_get xs c) None)) [
  | inl is ↦ (λ i. unwrap_or (slice_get (slice_set xs class (Some k)) (is.1 i)) None) ∙ ap (λ (o : Option (Option ℕ)). unwrap_or o None) (set-here xs class (Some k) few) ∙ sym (cond-true (nat_eq c class) (Some k) (unwrap_or (slice_get xs c) None) is.0)
  | inr is ↦ ap (λ (o : Option (Option ℕ)). unwrap_or o None) (set-other xs class (Some k) c is.1) ∙ sym (cond-false (nat_eq c class) (Some k) (unwrap_or (slice_get xs c) None) is.0)
]

-- what is left of one block changed
pub left-moved : (notes : List BlockNote) (x : LocalSeat) (k owner : ℕ) (region : Region) → k < length notes → regions_in (slice_set notes k (Owned owner region)) x ≡ with_left k region (regions_in notes x)
left-moved notes x k owner region there = λ i. record (regions_in notes x) { left = λ b. left-noted notes k owner region there b i }

-- block k is the one for the class now, or that of the overflow region
seat-moved : (notes : List BlockNote) (over : Bool) (x : LocalSeat) (class k : ℕ) (ticket : Option ℕ) → class < length x.blocks → regions_in notes (seat_after over x class k ticket) ≡ with_block over class k (regions_in notes x)
seat-moved notes false x class k ticket few = λ i. record (regions_in notes x) { blocks = λ c. block-noted x.blocks class k few c i }
seat-moved notes true x class k ticket few = refl

pub noted-moves : (old new : MutatorSeat) (over : Bool) (k class owner : ℕ) (region : Region) (ticket : Option ℕ) → NotesOwn old.notes new.notes over k class (Owned owner region) ticket → k < length old.notes.blocks.items → class < length old.notes.local.blocks
    → regions_at new ≡ with_left k region (with_block over class k (regions_at old))
noted-moves old new over k class owner region ticket is there few =
    (λ i. regions_in (is.blocks i) (is.local i))
    ∙ left-moved old.notes.blocks.items (seat_after over old.notes.local class k ticket) k owner region there
    ∙ ap (λ (r : MutatorRegions). with_left k region r) (seat-moved old.notes.blocks.items over old.notes.local class k ticket few)

-- the region that was noted is the one that was found
pub finds-noted : (rules : Rules) (old new : MutatorSeat) (over : Bool) (k size owner : ℕ) (region : Region) (ticket : Option ℕ) → NotesOwn old.notes new.notes over k (class_for rules.fill size) (Owned owner region) ticket → HasRooms rules old → k < (epoch_of_seat rules old).before.blocks
    → IsRegionFor (epoch_of_seat rules old) (regions_at old) (local_of old) (local_of new) size k over region → FindsRegion rules old size k new
finds-noted rules old new over k size owner region ticket noted has there from = record {
  over = over;
  region = region;
  from = from;
  regions = noted-moves old new over k (class_for rules.fill size) owner region ticket noted (subst (λ (n : ℕ). k < n) (sym has.len) there)
      (let few = class-few rules.fill size in subst (λ (n : ℕ). class_for rules.fill size < n) (sym has.classes) (omega (arith, few)));
}

-- where a region was found, told of another state that has the same
from-as : (p q : Epoch) (r s : MutatorRegions) (a b c d : Local) (size k : ℕ) (over : Bool) (region : Region) → p ≡ q → r ≡ s → c.owned ≡ a.owned → c.granted ≡ a.granted → d.owned ≡ b.owned → d.granted ≡ b.granted → IsRegionFor p r a b size k over region → IsRegionFor q s c d size k over region
from-as p q r s a b c d size k over region epoch regions owned granted owns grants is =
    subst (λ (e : Epoch). IsRegionFor e s c d size k over region) epoch (subst (λ (t : MutatorRegions). IsRegionFor p t c d size k over region) regions (told is))
  where
    told : IsRegionFor p r a b size k over region → IsRegionFor p r c d size k over region
    told (in_class same class block over-is here) = in_class (owns ∙ same ∙ sym owned) class block over-is here
    told (in_overflow same goes block then-over here) = in_overflow (owns ∙ same ∙ sym owned) goes block then-over here
    told (own_block same plain over-is here) = own_block (owns ∙ same ∙ sym owned) plain over-is here
    told (later_hole same full block over-is first) = later_hole (owns ∙ same ∙ sym owned) full block over-is first
    told (unowned_hole more same over-is first) = unowned_hole (owns ∙ more ∙ ap (λ (os : List OwnedBlock). (record { block = k; class = class_for p.rules.fill size }) ∷ os) (sym owned)) (grants ∙ same ∙ sym granted) over-is first
    told (free_block more then-over over-is here) = free_block (grants ∙ more ∙ ap (λ (ks : List ℕ). k ∷ ks) (sym granted)) then-over over-is here

-- a region that was found after a search that left all as it was
pub finds-after : (rules : Rules) (a l b : MutatorSeat) (size k : ℕ) → (known l).start ≡ (known a).start → regions_at l ≡ regions_at a → (local_of l).owned ≡ (local_of a).owned → (local_of l).granted ≡ (local_of a).granted → FindsRegion rules l size k b → FindsRegion rules a size k b
finds-after rules a l b size k start regions owned granted is = record {
  over = is.over;
  region = is.region;
  from = from-as (epoch_of_seat rules l) (epoch_of_seat rules a) (regions_at l) (regions_at a) (local_of l) (local_of b) (local_of a) (local_of b) size k is.over is.region (ap (λ (e : EpochStart). epoch_with rules e) start) regions (sym owned) (sym granted) refl refl is.from;
  regions = is.regions ∙ ap (λ (r : MutatorRegions). with_left k is.region (with_block is.over (class_for rules.fill size) k r)) regions;
}

-- of one block what is left counts that was noted last
left-twice : (k : ℕ) (one two : Region) (r : MutatorRegions) → with_left k two (with_left k one r) ≡ with_left k two r
left-twice k one two r = λ i. record r { left = λ b. same (is_block k b) (r.left b) i }
  where
    same : (is : Bool) (x : Region) → (if is then two else (if is then one else x)) ≡ (if is then two else x)
    same true x = refl
    same false x = refl

left-here : (k : ℕ) (one : Region) (r : MutatorRegions) → (with_left k one r).left (Some k) ≡ one
left-here k one r = cond-true (nat_eq k k) one (r.left (Some k)) (eq-eqb k k refl)

-- an object in a region that was found
pub fills-found : (rules : Rules) (a m b : MutatorSeat) (k d size : ℕ) → (known m).start ≡ (known a).start → KeepsBlocks m b → FindsRegion rules a size k m → FillsFront rules m k d size b → FillsRegion rules a k d size b
fills-found rules a m b k d size start keeps finds fills =
    let left : (regions_at m).left (Some k) ≡ finds.region = ap (λ (r : MutatorRegions). r.left (Some k)) finds.regions ∙ left-here k finds.region (with_block finds.over (class_for rules.fill size) k (regions_at a)) in
    record {
      over = finds.over;
      region = finds.region;
      rest = fills.rest;
      from = from-as (epoch_of_seat rules a) (epoch_of_seat rules a) (regions_at a) (regions_at a) (local_of a) (local_of m) (local_of a) (local_of b) size k finds.over finds.region refl refl refl refl keeps.owned keeps.granted finds.from;
      room = subst (λ (r : Region). RegionHasRoom r size) left fills.room;
      front = fills.front ∙ (λ i. block_start (start i).blocks k + (left i).next);
      leaves = subst (λ (e : EpochStart). IsRestOf (epoch_with rules e) (local_of b) k size finds.region fills.rest) start
          (subst (λ (r : Region). IsRestOf (epoch_of_seat rules m) (local_of b) k size r fills.rest) left fills.leaves);
      regions = fills.regions ∙ ap (λ (r : MutatorRegions). with_left k fills.rest r) finds.regions ∙ left-twice k finds.region fills.rest (with_block finds.over (class_for rules.fill size) k (regions_at a));
    }

-- an object in a region that is the one for its size
class-here : (class k : ℕ) (r : MutatorRegions) → r.blocks class ≡ Some k → r ≡ with_block false class k r
class-here class k r is = λ i. record r { blocks = λ c. same c i }
  where
    same : (c : ℕ) → r.blocks c ≡ (if nat_eq c class then Some k else r.blocks c)
    same c = elim (eqb_tells c class) as (λ _. r.blocks c ≡ (if nat_eq c class then Some k else r.blocks c)) [
      | inl e ↦ ap r.blocks e.1 ∙ is ∙ sym (cond-true (nat_eq c class) (Some k) (r.blocks c) e.0)
      | inr e ↦ sym (cond-false (nat_eq c class) (Some k) (r.blocks c) e.0)
    ]

over-here : (class k : ℕ) (r : MutatorRegions) → r.over ≡ Some k → r ≡ with_block true class k r
over-here class k r is = λ i. record r { over = is i }

pub fills-here : (rules : Rules) (a b : MutatorSeat) (k d size : ℕ) → KeepsBlocks a b → IsBlockFor rules.fill (regions_at a) size k → FillsFront rules a k d size b → FillsRegion rules a k d size b
fills-here rules a b k d size keeps is fills = elim is as (λ _. FillsRegion rules a k d size b) [
  | inl here ↦ record {
    over = false;
    region = (regions_at a).left (Some k);
    rest = fills.rest;
    from = in_class keeps.owned here.0 here.1 refl refl;
    room = fills.room;
    front = fills.front;
    leaves = fills.leaves;
    regions = fills.regions ∙ ap (λ (r : MutatorRegions). with_left k fills.rest r) (class-here (class_for rules.fill size) k (regions_at a) here.1);
  }
  | inr over ↦ record {
    over = true;
    region = (regions_at a).left (Some k);
    rest = fills.rest;
    from = in_overflow keeps.owned over.0 over.1 refl refl;
    room = fills.room;
    front = fills.front;
    leaves = fills.leaves;
    regions = fills.regions ∙ ap (λ (r : MutatorRegions). with_left k fills.rest r) (over-here (class_for rules.fill size) k (regions_at a) over.1);
  }
]

-- the same after the words of the object were stored
pub front-after : (rules : Rules) (a m b : MutatorSeat) (k d size : ℕ) → (known m).start ≡ (known a).start → regions_at m ≡ regions_at a → FillsFront rules m k d size b → FillsFront rules a k d size b
front-after rules a m b k d size start regions is = record {
  rest = is.rest;
  room = subst (λ (r : MutatorRegions). RegionHasRoom (r.left (Some k)) size) regions is.room;
  front = is.front ∙ (λ i. block_start (start i).blocks k + ((regions i).left (Some k)).next);
  leaves = subst (λ (e : EpochStart). IsRestOf (epoch_with rules e) (local_of b) k size ((regions_at a).left (Some k)) is.rest) start
      (subst (λ (r : MutatorRegions). IsRestOf (epoch_of_seat rules m) (local_of b) k size (r.left (Some k)) is.rest) regions is.leaves);
  regions = is.regions ∙ ap (λ (r : MutatorRegions). with_left k is.rest r) regions;
}
