-- That the blocks of a mutator's own have no hole that it may fill.
use Rattle.std.proofs.Common.{◌≡◌, ◌≢◌, refl, sym, ◌∙◌, ap, subst, ℕ, ◌+◌, ◌*◌, ◌<◌, ◌≤◌, inl, inr, max, arith, List, [], slice_get, slice_index}
use Rattle.std.specs.Prelude.{Option, Some, None, unwrap_or}
use Rattle.std.specs.List.{Contains}
use Rattle.heap_layout.specs.Zones.{LineWords, first}
use Rattle.heap_layout.specs.declared.block.Kind.{Kind}
use Rattle.heap_layout.specs.declared.block.Kind.TheVariants as kinds
use Rattle.heap_layout.specs.declared.region.Region.{Region}
use Rattle.line_marks.proofs.HoleRuns.{lines-read}
use Rattle.object_model.specs.Objects.{HeapState, HasKind, owner_at, class_at}
use Rattle.sessions.specs.Fitting.{HasHole, class_for}
use Rattle.sessions.specs.Plans.{Rules}
use Rattle.plan_api.specs.Holes.{HasRoomFrom, IsFirstPart}
use Rattle.plan_api.proofs.Parts.{FindsLines, first-lines}
use Rattle.block_regions.specs.declared.block_notes.BlockNote.{BlockNote}
use Rattle.block_regions.specs.declared.block_notes.BlockNote.TheVariants.{Owned}
use Rattle.block_regions.proofs.FilledKinds.{filled-class}
use Rattle.local_allocators.specs.declared.local_seat.LocalSeat.{LocalSeat}
use Rattle.local_allocators.specs.NotedRegions.{region_noted}
use Rattle.local_allocators.specs.Seats.{block_of}
use Rattle.mutator_core.specs.Machine.{Epoch}
use Rattle.mutator_core.specs.Epochs.{IsOwned}
use Rattle.mutator_core.specs.Logs.{heap_after}
use Rattle.mutator_rule.specs.declared.seat.MutatorSeat.{MutatorSeat}
use Rattle.mutator_rule.specs.declared.views.MutatorView.{MutatorView}
use Rattle.mutator_rule.specs.Logs.{KnowsLog}
use Rattle.mutator_rule.specs.Seats.{known, local_of, epoch_of_seat}
use Rattle.racing_mutator.specs.declared.racing.Racing.{Racing}
use Rattle.racing_mutator.specs.RacingSeats.{local, Makes}
use Rattle.racing_rooms.specs.Rooms.{Holdings, holdings, HasRooms, HasRoomsIn, IsOwnRegion, BeginsMarkedLine, heap_seen_by}
use Rattle.racing_rooms.specs.NoRoom.{regions_at, LacksOwn}
use Rattle.racing_rooms.specs.OwnHoles.{LacksLeft}
use Rattle.racing_mutator.specs.Searches.{TakesNothing}
use Rattle.racing_rooms.proofs.Known.{knows}
use Rattle.racing_rooms.proofs.OwnRegions.{own-later}
use Rattle.racing_rooms.proofs.OwnSeen.{own-listed, own-class, own-kind, hole-inside, lines-now}

-- a mutator that made steps and kept what it has took nothing
pub takes-kept : {P : Type 0} (rules : Rules) (a b : Racing P) → Makes rules a [] b → holdings (local b) ≡ holdings (local a) → (local b).raised ≡ (local a).raised → (local b).births ≡ (local a).births → TakesNothing rules a b
takes-kept rules a b makes kept raised births = record {
  searches = record { makes = makes; raised = raised; births = births; made = ap (λ (h : Holdings). h.made) kept };
  owned = ap (λ (h : Holdings). h.owned) kept;
  granted = ap (λ (h : Holdings). h.granted) kept;
  ticket = λ t is. ap (λ (h : Holdings). h.ticket) kept ∙ is;
}

-- a hole of an own block is for the sizes of the block's class
class-hole : (p : Epoch) (s : HeapState) (m k class : ℕ) → IsOwned p s m (record { block = k; class = class }) → class_at s k ≡ class → (fill : Kind) → p.rules.fill ≡ fill → fill ≢ kinds.Immix → (at size : ℕ) → HasHole fill s k at size → class ≡ class_for fill size
class-hole p s m k class is here kinds.Bump fill plain at size hole = filled-class p.rules.fill class m (inl fill) is.valid
class-hole p s m k class is here kinds.Young fill plain at size hole = filled-class p.rules.fill class m (inr fill) is.valid
class-hole p s m k class is here kinds.Cells fill plain at size hole = sym here ∙ sym (ap (λ (o : Option ℕ). unwrap_or o 0) hole.2)
class-hole p s m k class is here kinds.Immix fill plain at size hole = absurd (plain refl)
class-hole p s m k class is here kinds.Free fill plain at size hole = absurd hole
class-hole p s m k class is here kinds.Mature fill plain at size hole = absurd hole
class-hole p s m k class is here kinds.LargeHead fill plain at size hole = absurd hole
class-hole p s m k class is here kinds.LargeTail fill plain at size hole = absurd hole
class-hole p s m k class is here kinds.Kept fill plain at size hole = absurd hole

-- if what is left of each block has no room, no own block has a hole
module _ (p : Epoch) (v : MutatorView) (told : KnowsLog p v) (notes : List BlockNote) (seat : LocalSeat) (allowed : ℕ) (has : HasRoomsIn p (heap_after p v.seen) (holdings v.local) notes seat allowed) where
  abbrev s : HeapState
  s = heap_after p v.seen

  pub own-lacks : p.rules.fill ≢ kinds.Immix → (size : ℕ) → 0 < size → ((k : ℕ) → k < p.before.blocks → LacksLeft p (holdings v.local) notes k size)
      → (k : ℕ) → k < p.before.blocks → owner_at s k ≡ v.local.number → (at : ℕ) → HasHole p.rules.fill s k at size → ⊥
  own-lacks plain size some lacks k there owner at hole =
      let listed = own-listed p v told k there owner in
      let class : ℕ = listed.0 in
      let mine : Contains v.local.owned (record { block = k; class = class }) = listed.1 in
      let is : IsOwned p s v.local.number (record { block = k; class = class }) = (knows p v told).owned (record { block = k; class = class }) mine in
      let suits : class ≡ class_for p.rules.fill size = class-hole p s v.local.number k class is (own-class p v told k class mine) p.rules.fill refl plain at size hole in
      let noted = has.noted (record { block = k; class = class }) mine in
      let own = has.owned k noted.owner noted.region noted.note in
      let room : noted.region.next + size ≤ noted.region.end = hole-inside p v told k own.0 noted.region own.1 plain at size some hole in
      let none : noted.region.end < noted.region.next + size = lacks k there noted.owner noted.region noted.note (subst (λ (c : ℕ). Contains v.local.owned (record { block = k; class = c })) suits mine) in
      omega arith

pub lacks-own : (rules : Rules) (seat : MutatorSeat) (size : ℕ) → KnowsLog (epoch_of_seat rules seat) (known seat) → HasRooms rules seat → rules.fill ≢ kinds.Immix → 0 < size
    → ((k : ℕ) → k < (epoch_of_seat rules seat).before.blocks → LacksLeft (epoch_of_seat rules seat) (holdings (local_of seat)) seat.notes.blocks.items k size) → LacksOwn rules seat size
lacks-own rules seat size told has plain some lacks = record {
  blocks = λ other. own-lacks (epoch_of_seat rules seat) (known seat) told seat.notes.blocks.items seat.notes.local seat.notes.allowance has plain size some lacks;
  later = λ lines. absurd (plain lines);
}

-- under a plan with lines the block of the hole region counts alone
pub lacks-later : (rules : Rules) (seat : MutatorSeat) (size : ℕ) → rules.fill ≡ kinds.Immix
    → ((k next end : ℕ) → block_of (Some seat.notes.local) 0 ≡ Some k → HasRoomFrom kinds.Immix (heap_seen_by rules seat) k ((regions_at seat).left (Some k)).end size next end → ⊥) → LacksOwn rules seat size
lacks-later rules seat size lines none = record {
  blocks = λ other. absurd (other lines);
  later = λ is k next end here. none k next end here;
}

-- no run begins at the end of the block
pub none-at-end : (s : HeapState) (k size next end : ℕ) → 0 < size → HasRoomFrom kinds.Immix s k 4096 size next end → ⊥
none-at-end s k size next end some hole =
    let part = hole.part.1 in
    let starts : next ≡ 16 * max part.line 256 = part.starts in
    let ends : end ≡ 16 * (part.line + part.len) = part.ends in
    let inside : part.line + part.len ≤ 256 = part.hole.inside in
    let room : next + size ≤ end = hole.room in
    omega arith

-- a later hole, by line words as the epoch began
module _ (p : Epoch) (v : MutatorView) (told : KnowsLog p v) (k class size : ℕ) (region : Region) (lines : List ℕ) (some : 0 < size) (own : IsOwnRegion p (holdings v.local) k class region) (fill : p.rules.fill ≡ kinds.Immix)
    (read : (n : ℕ) → n < 4 → slice_index lines n ≡ slice_index p.before.words (first p.before.blocks LineWords + 4 * k + n)) where
  pub none-later : FindsLines lines region.end size None → (next end : ℕ) → HasRoomFrom kinds.Immix (heap_after p v.seen) k region.end size next end → ⊥
  none-later none = first-lines (heap_after p v.seen) k lines (lines-now p v told k lines own.there read) region.end size some (subst (λ (f : Kind). HasKind (heap_after p v.seen) k f) fill (own-kind p v told k class own.mine)) None none

  mark : region.end ≢ 4096 → BeginsMarkedLine p.before k region.end
  mark low = elim (own.kept.lines fill) as (λ _. BeginsMarkedLine p.before k region.end) [ inl all ↦ absurd (low all) | inr line ↦ line ]

  pub first-later : region.end ≢ 4096 → (hole : Region) → FindsLines lines region.end size (Some hole) → IsFirstPart kinds.Immix p.before k region.end size hole
  first-later low hole found = first-lines p.before k lines (λ line below. lines-read p.before lines k line read below) region.end size some (mark low).kind (Some hole) found

  pub later-own : region.end ≢ 4096 → (hole : Region) → FindsLines lines region.end size (Some hole) → (c : ℕ) → IsOwnRegion p (holdings v.local) k c region → IsOwnRegion p (holdings v.local) k c hole
  later-own low hole found c is = own-later p (holdings v.local) k c size region hole fill some is (mark low) (first-later low hole found)

-- the block of the hole region has no later hole
pub lacks-in-block : (rules : Rules) (seat : MutatorSeat) (size k owner : ℕ) (region : Region) → rules.fill ≡ kinds.Immix → block_of (Some seat.notes.local) 0 ≡ Some k → slice_get seat.notes.blocks.items k ≡ Some (Owned owner region)
    → ((next end : ℕ) → HasRoomFrom kinds.Immix (heap_seen_by rules seat) k region.end size next end → ⊥) → LacksOwn rules seat size
lacks-in-block rules seat size k owner region lines here note none = lacks-later rules seat size lines (λ j next end is room.
    let e : Some j ≡ Some k = sym is ∙ here in
    let same : j ≡ k = cc in
    let left : region_noted (slice_get seat.notes.blocks.items j) ≡ region = ap (λ (q : ℕ). region_noted (slice_get seat.notes.blocks.items q)) same ∙ ap region_noted note in
    none next end (subst (λ (r : Region). HasRoomFrom kinds.Immix (heap_seen_by rules seat) k r.end size next end) left (subst (λ (q : ℕ). HasRoomFrom kinds.Immix (heap_seen_by rules seat) q (region_noted (slice_get seat.notes.blocks.items j)).end size next end) same room)))
