-- The heap after an object was written at a spot.
use Rattle.std.proofs.Common.{◌≡◌, ◌≢◌, refl, sym, ◌∙◌, subst, ℕ, ◌+◌, ◌<◌, ◌≤◌, ◌⊎◌, inl, inr, arith, Bool, true, false, IsTrue, List}
use Rattle.std.specs.Prelude.{MatchBool}
use Rattle.std.specs.List.{Contains}
use Rattle.heap_layout.specs.Zones.{block_at, offset_at, block_start}
use Rattle.heap_layout.specs.declared.block.Kind.{Kind}
use Rattle.heap_layout.specs.declared.block.Kind.TheVariants as kinds
use Rattle.ideal_heap.specs.declared.name.Name.{Name}
use Rattle.ideal_heap.specs.Names.{IsName, name as named_by}
use Rattle.ideal_heap.specs.Ideal.{IdealHeap, with_new}
use Rattle.object_model.specs.Objects.{HeapState, with_words, HasKind, line_marked, IsHeld, name_at, size_of, blocks_for}
use Rattle.object_model.specs.Lawful.{IsLawful, IsReadableBlock}
use Rattle.object_model.specs.Births.{with_block}
use Rattle.object_model.specs.Graphs.{MutatorState, Represents, numbers_of, add_birth, set_register_of}
use Rattle.object_model.specs.Changes.{WritesObject}
use Rattle.object_model.proofs.BornHeaps.{in-layout, written-in}
use Rattle.object_model.proofs.Frames.{same-layout}
use Rattle.block_sweeps.specs.Sweeping.{AreApart}
use Rattle.sessions.specs.Plans.{Rules}
use Rattle.sessions.specs.Fitting.{HasHole, HasSomeHole, class_for}
use Rattle.sessions.specs.Sessions.{block_of_kind, PlacesSmall, PlacesLarge, UsesBlock, UsesRun, ChangesBlocks, AddsObject}
use Rattle.managed_heap.specs.declared.spot.Spot.{Spot}
use Rattle.plan_api.specs.Relisting.{Relists}
use Rattle.block_regions.specs.Notes.{FillsHoles, KeepsLines}
use Rattle.managed_heap.specs.Spots.{IsPlaceIn, TakesSpotBlock}
use Rattle.managed_heap.proofs.Openings as openings
use Rattle.managed_heap.proofs.Openings.{Opens, opens-hole, opens-free}
use Rattle.managed_heap.proofs.Relisted.{readable, relists-blocks}
use Rattle.managed_heap.proofs.Rooms.{FillsByLines}

-- the address of a spot
abbrev pub address_of : HeapState → Spot → ℕ
address_of s spot = block_start s.blocks spot.block + spot.offset

-- whether the spot is a Free block or a hole
abbrev pub IsFreeOrHole : Kind → Bool → HeapState → ℕ → ℕ → ℕ → Type 0
IsFreeOrHole fill b s k at size = MatchBool b (HasKind s k kinds.Free × (at ≡ 0) × (HasSomeHole fill s size → ⊥)) (HasHole fill s k at size)

abbrev pub Takes : Kind → Bool → HeapState → ℕ → ℕ → HeapState → Type 0
Takes fill b s k size between = MatchBool b (between ≡ with_block s k (block_of_kind fill (class_for fill size))) (between ≡ s)

-- the heap between has the layout of the old one, and the block is open
abbrev pub IsOpened : Kind → HeapState → HeapState → ℕ → ℕ → ℕ → Type 0
IsOpened fill s between k at size = Opens fill s between.words k at size × (between ≡ with_words s between.words)

pub opened : (fill : Kind) (b : Bool) (s between : HeapState) (k at size : ℕ) → FillsHoles fill → IsLawful s → size ≤ 2048 → IsFreeOrHole fill b s k at size → Takes fill b s k size between
    → IsOpened fill s between k at size
opened fill true s between k at size fills lawful small is takes =
    subst (λ (x : HeapState). IsOpened fill s x k at size) (sym takes)
    (subst (λ (o : ℕ). IsOpened fill s (with_block s k (block_of_kind fill (class_for fill size))) k o size) (sym is.1) (opens-free fill s k size fills lawful is.0 small, refl))
opened fill false s between k at size fills lawful small is takes = subst (λ (x : HeapState). IsOpened fill s x k at size) (sym takes) (opens-hole fill s k at size lawful is, refl)

-- where the definitions place a small object
abbrev SpotIs : Kind → HeapState → ℕ → ℕ → ℕ → Type 0
SpotIs fill s k at size = HasHole fill s k at size ⊎ (HasKind s k kinds.Free × (at ≡ 0) × (HasSomeHole fill s size → ⊥))

spot-is : (fill : Kind) (b : Bool) (s : HeapState) (k at size : ℕ) → IsFreeOrHole fill b s k at size → SpotIs fill s k at size
spot-is fill true s k at size is = inr is
spot-is fill false s k at size is = inl is

pub places-small : (rules : Rules) (s : HeapState) (size : ℕ) (spot : Spot) (a : ℕ) → IsPlaceIn rules.fill s size spot → block_at s.blocks a ≡ spot.block → offset_at s.blocks a ≡ spot.offset
    → PlacesSmall rules s a size
places-small rules s size spot a is block offset = record {
  spot = subst (λ (k : ℕ). SpotIs rules.fill s k (offset_at s.blocks a) size) (sym block)
      (subst (λ (o : ℕ). SpotIs rules.fill s spot.block o size) (sym offset) (spot-is rules.fill spot.free s spot.block spot.offset size is.spot_is));
  lowest = λ k from hole. subst (λ (o : ℕ). (block_at s.blocks a < k) ⊎ ((block_at s.blocks a ≡ k) × (o ≤ from))) (sym offset)
      (subst (λ (b : ℕ). (b < k) ⊎ ((b ≡ k) × (spot.offset ≤ from))) (sym block) (is.lowest k from hole));
  lowest_free = λ free k also. subst (λ (b : ℕ). b ≤ k) (sym block) (is.lowest_free (subst (λ (b : ℕ). HasKind s b kinds.Free) block free) k also);
}

-- a new object at the spot, with this name
pub record IsBorn (rules : Rules) (s : HeapState) (spot : Spot) (n : Name) (refs nums : ℕ) (new : HeapState) : Type 0 where
  pub block : block_at s.blocks (address_of s spot) ≡ spot.block
  pub object : AddsObject s new (address_of s spot) refs nums
  pub small : size_of refs nums ≤ 2048 → PlacesSmall rules s (address_of s spot) (size_of refs nums) × UsesBlock rules s new spot.block (size_of refs nums)
      × ChangesBlocks s new spot.block 1
  pub large : 2048 < size_of refs nums → PlacesLarge s (address_of s spot) (size_of refs nums) × UsesRun s new spot.block (blocks_for (size_of refs nums))
      × ChangesBlocks s new spot.block (blocks_for (size_of refs nums))
  -- no line bit is cleared
  pub lines : KeepsLines s new
  pub lawful : IsLawful new
  pub name : name_at new (address_of s spot) ≡ n
  pub layout : (new.blocks ≡ s.blocks) × (new.number ≡ s.number) × (new.base ≡ s.base)
  pub represents : (ms : List MutatorState) (h : IdealHeap) (m d : ℕ) → Represents s ms h → n ≡ named_by m (h.births m + 1) → Contains (numbers_of ms) m → d < 16
      → Represents new (set_register_of (add_birth ms m) m d (address_of s spot)) (with_new h m d refs nums)

-- a small or medium object
module _ (rules : Rules) (fills : FillsHoles rules.fill) (s between written : HeapState) (spot : Spot) (n : Name) (refs nums : ℕ) (lawful : IsLawful s)
    (is : IsPlaceIn rules.fill s (size_of refs nums) spot) (takes : TakesSpotBlock rules.fill s spot (size_of refs nums) between)
    (writes : WritesObject between written (address_of s spot) n refs nums) (few_refs : refs ≤ 1024) (few_nums : nums ≤ 60000) (named : IsName n)
    (fresh : (x : ℕ) → IsHeld s x → name_at s x ≢ n) where
  open-there : IsOpened rules.fill s between spot.block spot.offset (size_of refs nums)
  open-there = opened rules.fill spot.free s between spot.block spot.offset (size_of refs nums) fills lawful is.small is.spot_is takes

  from : WritesObject (with_words s between.words) written (address_of s spot) n refs nums
  from = subst (λ (x : HeapState). WritesObject x written (address_of s spot) n refs nums) open-there.1 writes

  own : WritesObject (with_words s between.words) (with_words s written.words) (address_of s spot) n refs nums
  own = written-in (with_words s between.words) written (address_of s spot) refs nums n from

  block : block_at s.blocks (address_of s spot) ≡ spot.block
  block = openings.block-is rules s between.words written.words spot.block spot.offset refs nums n open-there.0 is.small few_refs few_nums named fresh own

  offset : offset_at s.blocks (address_of s spot) ≡ spot.offset
  offset = openings.offset-is rules s between.words written.words spot.block spot.offset refs nums n open-there.0 is.small few_refs few_nums named fresh own

  -- the block can be read, to be relisted
  pub readable-small : IsReadableBlock written spot.block × AreApart written spot.block
  readable-small = in-layout (λ (x : HeapState). IsReadableBlock x spot.block × AreApart x spot.block) s written from.blocks from.number from.base
      (readable (with_words s written.words) spot.block (openings.but_lines rules s between.words written.words spot.block spot.offset refs nums n open-there.0 is.small few_refs few_nums named fresh own) is.inside)

  module _ (new : HeapState) (filled : FillsByLines rules) (relists : Relists rules written new spot.block × (new.number ≡ written.number) × (new.base ≡ written.base)) where
    layout : (new.blocks ≡ s.blocks) × (new.number ≡ s.number) × (new.base ≡ s.base)
    layout = (relists-blocks rules written new spot.block relists.0 ∙ from.blocks, relists.1 ∙ from.number, relists.2 ∙ from.base)

    last : Relists rules (with_words s written.words) (with_words s new.words) spot.block
    last = subst (λ (x : HeapState). Relists rules x (with_words s new.words) spot.block) (same-layout s written from.blocks from.number from.base)
        (subst (λ (x : HeapState). Relists rules written x spot.block) (same-layout s new layout.0 layout.1 layout.2) relists.0)

    moved : (P : HeapState → Type 0) → P (with_words s new.words) → P new
    moved P = in-layout P s new layout.0 layout.1 layout.2

    pub born-small : IsBorn rules s spot n refs nums new
    born-small = record {
      block = block;
      object = moved (λ (x : HeapState). AddsObject s x (address_of s spot) refs nums)
          (openings.object-new rules s between.words written.words spot.block spot.offset refs nums n open-there.0 is.small few_refs few_nums named fresh own new.words filled last);
      small = λ _. (
        places-small rules s (size_of refs nums) spot (address_of s spot) is block offset,
        moved (λ (x : HeapState). UsesBlock rules s x spot.block (size_of refs nums))
            (openings.uses-new rules s between.words written.words spot.block spot.offset refs nums n open-there.0 is.small few_refs few_nums named fresh own new.words filled last),
        moved (λ (x : HeapState). ChangesBlocks s x spot.block 1)
            (openings.changes-new rules s between.words written.words spot.block spot.offset refs nums n open-there.0 is.small few_refs few_nums named fresh own new.words filled last),
      );
      large = λ large. absurd (let small : size_of refs nums ≤ 2048 = is.small in omega arith);
      lines = λ j line inside small set. moved (λ (x : HeapState). IsTrue (line_marked x j line))
          (openings.lines-new rules s between.words written.words spot.block spot.offset refs nums n open-there.0 is.small few_refs few_nums named fresh own new.words filled last j line inside small set);
      lawful = moved IsLawful (openings.lawful-new rules s between.words written.words spot.block spot.offset refs nums n open-there.0 is.small few_refs few_nums named fresh own new.words filled last);
      name = moved (λ (x : HeapState). name_at x (address_of s spot) ≡ n)
          (openings.name-new rules s between.words written.words spot.block spot.offset refs nums n open-there.0 is.small few_refs few_nums named fresh own new.words filled last);
      layout = layout;
      represents = λ ms h m d represents e known few. moved (λ (x : HeapState). Represents x (set_register_of (add_birth ms m) m d (address_of s spot)) (with_new h m d refs nums))
          (openings.represents-new rules s between.words written.words spot.block spot.offset refs nums n open-there.0 is.small few_refs few_nums named fresh own new.words filled last
          ms h m d lawful.but_lines.order represents e known few);
    }
