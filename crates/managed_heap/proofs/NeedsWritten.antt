-- An object of a need is put at a spot: the heap between, and the new heap.
use Rattle.std.proofs.Common.{◌≡◌, ◌≢◌, sym, ◌∙◌, ap, subst, ℕ, ◌+◌, ◌-◌, ◌<◌, ◌≤◌, arith, Bool, true, false, nat_eq, List, length, map}
use Rattle.std.specs.Prelude.{Some, MatchBool, slice_get}
use Rattle.std.specs.List.{range_with_len}
use Rattle.std.proofs.lemmas.Bool.{false_from_ne_true}
use Rattle.heap_layout.specs.Zones.{row_words, block_start, IsAddress}
use Rattle.heap_layout.specs.declared.block.Kind.{Kind}
use Rattle.heap_layout.specs.declared.block.Kind.TheVariants as kinds
use Rattle.ideal_heap.specs.declared.name.Name.{Name}
use Rattle.ideal_heap.specs.Names.{IsName, name}
use Rattle.object_model.specs.Objects.{HeapState, has_kind, IsHeld, name_at, size_of, blocks_for}
use Rattle.object_model.specs.Heaps.{heap_state}
use Rattle.object_model.specs.Lawful.{IsLawful}
use Rattle.object_model.specs.Graphs.{MutatorState, Represents, numbers_of}
use Rattle.object_model.specs.Births.{MakesRun}
use Rattle.object_model.specs.Changes.{WritesObject}
use Rattle.sessions.specs.Plans.{Rules}
use Rattle.sessions.specs.Sessions.{Setting, Moment, ideal_at}
use Rattle.mutator_calls.specs.declared.need.Need.{Need}
use Rattle.mutator_calls.specs.declared.need.Mutator.{Mutator}
use Rattle.block_regions.specs.Notes.{FillsHoles}
use Rattle.heap_users.specs.Users.{mutator_state}
use Rattle.block_regions.proofs.Lists.{get-some, one-element}
use Rattle.managed_heap.specs.declared.stopped_heap.StoppedHeap.{StoppedHeap}
use Rattle.managed_heap.specs.declared.spot.Spot.{Spot}
use Rattle.managed_heap.specs.Stopped.{IsStopped, HeapStandsAt}
use Rattle.managed_heap.specs.Spots.{IsPlaceIn, IsRunAt, IsPlaceForSize, TakesSpotBlock, TakesSpot, WritesAt}
use Rattle.managed_heap.specs.Needs.{MayAllocate, MutatorAllocatesAt}
use Rattle.sessions.proofs.HoleRooms.{hole-not-free, hole-within}
use Rattle.managed_heap.proofs.Users.{fresh-name}
use Rattle.managed_heap.proofs.Written.{IsFreeOrHole, IsOpened, opened, IsBorn}
use Rattle.managed_heap.proofs.LargePuts.{born-at}
use Rattle.managed_heap.proofs.Rooms.{FillsByLines}

-- the spot lies within its block
spot-within : (fill : Kind) (b : Bool) (s : HeapState) (k at size : ℕ) → size ≤ 2048 → IsFreeOrHole fill b s k at size → at + size ≤ 4096
spot-within fill true s k at size small is = (let front : at ≡ 0 = is.1 in omega arith)
spot-within fill false s k at size small is = hole-within fill s k at size is

spot-free : (fill : Kind) (b : Bool) (s : HeapState) (k at size : ℕ) → IsFreeOrHole fill b s k at size → b ≡ has_kind s k kinds.Free
spot-free fill true s k at size is = sym is.0
spot-free fill false s k at size is = sym (false_from_ne_true (has_kind s k kinds.Free) (hole-not-free fill s k at size is))

pub was-free : (fill : Kind) (s : HeapState) (size : ℕ) (spot : Spot) → IsPlaceIn fill s size spot → spot.free ≡ has_kind s spot.block kinds.Free
was-free fill s size spot is = spot-free fill spot.free s spot.block spot.offset size is.spot_is

-- the heap between, in the terms of the definitions
pub took : (fill : Kind) (s row between : HeapState) (spot : Spot) (size r q refs nums : ℕ) → row ≡ s → size ≡ size_of r q → r ≡ refs → q ≡ nums
    → TakesSpot fill row spot size between → TakesSpot fill s spot (size_of refs nums) between
took fill s row between spot size r q refs nums same is er eq takes =
    let wanted : size ≡ size_of refs nums = is ∙ ap (λ x. size_of x q) er ∙ ap (λ x. size_of refs x) eq in
    subst (λ (x : HeapState). TakesSpot fill x spot (size_of refs nums) between) same (subst (λ (x : ℕ). TakesSpot fill row spot x between) wanted takes)

-- the spot in the row that the heap gave
pub place-of : (fill : Kind) (s row : HeapState) (spot : Spot) (size r q refs nums : ℕ) → row ≡ s → size ≡ size_of r q → r ≡ refs → q ≡ nums
    → IsPlaceForSize fill s (size_of refs nums) spot → IsPlaceForSize fill row size spot
place-of fill s row spot size r q refs nums same is er eq place =
    let wanted : size ≡ size_of refs nums = is ∙ ap (λ x. size_of x q) er ∙ ap (λ x. size_of refs x) eq in
    subst (λ (x : HeapState). IsPlaceForSize fill x size spot) (sym same) (subst (λ (x : ℕ). IsPlaceForSize fill s x spot) (sym wanted) place)

-- The heap between has the layout of the old one, and the spot has room for the size before the row's end.
pub record IsBetween (s between : HeapState) (spot : Spot) (size : ℕ) : Type 0 where
  pub blocks : between.blocks ≡ s.blocks
  pub extent : length between.words ≡ row_words between.blocks
  pub inside : spot.block < s.blocks
  pub below : spot.offset < 4096
  pub room : block_start s.blocks spot.block + spot.offset + size ≤ row_words s.blocks

between-small : (fill : Kind) (s between : HeapState) (spot : Spot) (refs nums : ℕ) → FillsHoles fill → IsLawful s → IsPlaceIn fill s (size_of refs nums) spot
    → TakesSpotBlock fill s spot (size_of refs nums) between → IsBetween s between spot (size_of refs nums)
between-small fill s between spot refs nums fills lawful is takes =
    let open-there : IsOpened fill s between spot.block spot.offset (size_of refs nums) =
    opened fill spot.free s between spot.block spot.offset (size_of refs nums) fills lawful is.small is.spot_is takes in
    let right : IsLawful between = subst IsLawful (sym open-there.1) open-there.0.lawful in
    let within : spot.offset + size_of refs nums ≤ 4096 = spot-within fill spot.free s spot.block spot.offset (size_of refs nums) is.small is.spot_is in
    let inside : spot.block < s.blocks = is.inside in
    record {
      blocks = ap (λ (x : HeapState). x.blocks) open-there.1;
      extent = right.but_lines.order.row.extent;
      inside = is.inside;
      below = omega arith;
      room = omega arith;
    }

between-run : (s between : HeapState) (spot : Spot) (refs nums : ℕ) → IsLawful s → IsRunAt s (size_of refs nums) spot → MakesRun s between spot.block spot.run
    → IsBetween s between spot (size_of refs nums)
between-run s between spot refs nums lawful is makes =
    let large : 2048 < size_of refs nums = is.large in
    let count : spot.run ≡ blocks_for (size_of refs nums) = is.count in
    let front : spot.offset ≡ 0 = is.start in
    let inside : spot.block + spot.run ≤ s.blocks = is.run.run.inside in
    let whole : length s.words ≡ row_words s.blocks = lawful.but_lines.order.row.extent in
    let same : between.blocks ≡ s.blocks = makes.blocks in
    record {
      blocks = same;
      extent = makes.extent ∙ whole ∙ ap row_words (sym same);
      inside = omega arith;
      below = omega arith;
      room = omega arith;
    }

module _ (fill : Kind) (s between : HeapState) (spot : Spot) (refs nums : ℕ) (fills : FillsHoles fill) (lawful : IsLawful s) where
  between-either : (b : Bool) → MatchBool b (IsPlaceIn fill s (size_of refs nums) spot) (IsRunAt s (size_of refs nums) spot)
      → MatchBool b (TakesSpotBlock fill s spot (size_of refs nums) between) (MakesRun s between spot.block spot.run) → IsBetween s between spot (size_of refs nums)
  between-either true is takes = between-small fill s between spot refs nums fills lawful is takes
  between-either false is makes = between-run s between spot refs nums lawful is makes

  pub between-is : IsPlaceForSize fill s (size_of refs nums) spot → TakesSpot fill s spot (size_of refs nums) between → IsBetween s between spot (size_of refs nums)
  between-is = between-either (nat_eq spot.run 0)

module _ (fill : Kind) (s between : HeapState) (spot : Spot) (refs nums : ℕ) (between-there : IsBetween s between spot (size_of refs nums))
    (takes : TakesSpot fill s spot (size_of refs nums) between) where
  pub address-between : (a : ℕ) → a ≡ block_start between.blocks spot.block + spot.offset → IsAddress between.blocks a
  address-between a at =
      let below : spot.offset < 4096 = between-there.below in
      let inside : spot.block < between.blocks = subst (λ (b : ℕ). spot.block < b) (sym between-there.blocks) between-there.inside in
      subst (IsAddress between.blocks) (sym at) (record { from = omega arith; below = omega arith })

  pub room-between : (a r q : ℕ) → a ≡ block_start between.blocks spot.block + spot.offset → r ≡ refs → q ≡ nums → a + size_of r q ≤ row_words between.blocks
  room-between a r q at er eq =
      let room : block_start between.blocks spot.block + spot.offset + size_of refs nums ≤ row_words between.blocks =
      subst (λ (b : ℕ). block_start b spot.block + spot.offset + size_of refs nums ≤ row_words b) (sym between-there.blocks) between-there.room in
      subst (λ (x : ℕ). a + size_of r x ≤ row_words between.blocks) (sym eq) (subst (λ (x : ℕ). a + size_of x nums ≤ row_words between.blocks) (sym er)
      (subst (λ (x : ℕ). x + size_of refs nums ≤ row_words between.blocks) (sym at) room))

  -- the object, in the terms of the definitions
  pub written : (new : HeapState) (a r q : ℕ) (n : Name) → a ≡ block_start between.blocks spot.block + spot.offset → r ≡ refs → q ≡ nums → WritesObject between new a n r q
      → WritesObject between new (block_start s.blocks spot.block + spot.offset) n refs nums
  written new a r q n at er eq writes = subst (λ (b : ℕ). WritesObject between new (block_start b spot.block + spot.offset) n refs nums) between-there.blocks
      (subst (λ (x : ℕ). WritesObject between new x n refs nums) at
      (subst (λ (x : ℕ). WritesObject between new a n refs x) eq (subst (λ (x : ℕ). WritesObject between new a n x q) er writes)))

-- heap and mutators represent the ideal heap of the session
module _ {P : Type 0} (rules : Rules) (h : StoppedHeap P) (t : Setting) (now : Moment) (stands : HeapStandsAt rules h t now) where
  pub stands-represents : Represents (heap_state h.heap) (map mutator_state h.mutators.items) (ideal_at now)
  stands-represents = subst (λ (ms : List MutatorState). Represents (heap_state h.heap) ms (ideal_at now)) (sym stands.mutators)
      (subst (λ (x : HeapState). Represents x now.mutators (ideal_at now)) (sym stands.heap) stands.sound.represents)

  pub stands-listed : numbers_of (map mutator_state h.mutators.items) ≡ range_with_len 1 (length t.traces)
  stands-listed = ap numbers_of stands.mutators ∙ stands.sound.listed

-- the mutator that allocates
module _ {P : Type 0} (h : StoppedHeap P) (m : ℕ) (need : Need) (may : MayAllocate h m need) where
  pub at : (m - 1) + 1 ≡ m
  at = let least : 1 ≤ m = may.least in omega arith

  pub the-user : (u : Mutator) × (slice_get h.mutators.items (m - 1) ≡ Some u)
  the-user = get-some h.mutators.items (m - 1) (let least : 1 ≤ m = may.least in let most : m ≤ length h.mutators.items = may.most in omega arith)

  pub few-births : the-user.0.births + 1 < 4294967296
  few-births = may.births (m - 1) the-user.0 at the-user.1

  -- an object of this shape is no larger than the largest
  pub most-words : (size r q : ℕ) → size ≡ size_of r q → r ≡ need.refs → q ≡ need.nums → size ≤ 61027
  most-words size r q is er eq = (let few_refs : need.refs ≤ 1024 = may.valid.1 in let few_nums : need.nums ≤ 60000 = may.valid.2 in omega arith)

  -- the name that its birth has
  pub birth-name : (new : List Mutator) (k d a : ℕ) (n : Name) → k + 1 ≡ m → MutatorAllocatesAt h.mutators.items new k m d a n → n ≡ name m (the-user.0.births + 1)
  birth-name new k d a n there bears =
      let own : (m - 1) + 1 ≡ m = at in
      let place : k ≡ m - 1 = omega arith in
      let same : bears.mutator ≡ the-user.0 = one-element (slice_get h.mutators.items (m - 1)) bears.mutator the-user.0 (ap (slice_get h.mutators.items) (sym place) ∙ bears.was) the-user.1 in
      bears.name ∙ ap (λ u. name m (u.births + 1)) same

module _ {P : Type 0} (rules : Rules) (h : StoppedHeap P) (m : ℕ) (need : Need) (stopped : IsStopped rules h) (may : MayAllocate h m need) where
  next-name : IsName (name m ((the-user h m need may).0.births + 1))
  next-name =
      let least : 1 ≤ m = may.least in
      let most : m ≤ length h.mutators.items = may.most in
      let few : length h.mutators.items ≤ 16 = stopped.order.few in
      let births : (the-user h m need may).0.births + 1 < 4294967296 = few-births h m need may in
      record { least = omega arith; most = omega arith; born = omega arith; fits = omega arith }

  pub is-name : (n : Name) → n ≡ name m ((the-user h m need may).0.births + 1) → IsName n
  is-name n is = subst IsName (sym is) next-name

  pub is-fresh : (n : Name) → n ≡ name m ((the-user h m need may).0.births + 1) → (x : ℕ) → IsHeld (heap_state h.heap) x → name_at (heap_state h.heap) x ≢ n
  is-fresh n is x holds e =
      fresh-name h.mutators.items (length stopped.setting.traces) (stands-listed rules h stopped.setting stopped.now stopped.stands) (m - 1) m (the-user h m need may).0 (at h m need may) (the-user h m need may).1
      (heap_state h.heap) (ideal_at stopped.now) (stands-represents rules h stopped.setting stopped.now stopped.stands) x holds (e ∙ is)

  -- the new heap
  pub born-need : FillsHoles rules.fill → FillsByLines rules → (spot : Spot) (n : Name) (new : HeapState) → n ≡ name m ((the-user h m need may).0.births + 1)
      → IsPlaceForSize rules.fill (heap_state h.heap) (size_of need.refs need.nums) spot
      → WritesAt rules (heap_state h.heap) spot n need.refs need.nums new → IsBorn rules (heap_state h.heap) spot n need.refs need.nums new
  born-need fills filled spot n new is found writes =
      born-at rules fills (heap_state h.heap) writes.between writes.written spot n need.refs need.nums h.heap.lawful writes.object may.valid.1 may.valid.2 (is-name n is) (is-fresh n is)
      new filled found writes.block writes.relisted
