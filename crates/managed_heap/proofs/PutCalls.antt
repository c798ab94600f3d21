-- The calls of the function that puts an object at a spot.
use Rattle.std.proofs.Common.{◌≡◌, ◌≢◌, sym, ◌∙◌, ap, subst, ℕ, ◌+◌, ◌-◌, ◌<◌, ◌≤◌, ◌⊎◌, inl, inr, List, length}
use Rattle.heap_layout.specs.Zones.{row_words, offset_at, block_start, IsAddress}
use Rattle.heap_layout.specs.declared.block.Kind.{Kind}
use Rattle.heap_layout.specs.declared.block.Kind.TheVariants as kinds
use Rattle.ideal_heap.specs.declared.name.Name.{Name}
use Rattle.ideal_heap.specs.Names.{IsName, name}
use Rattle.object_model.specs.Objects.{HeapState, HasKind, size_of}
use Rattle.object_model.specs.Heaps.{heap_state}
use Rattle.object_model.specs.Lawful.{IsLawful, IsReadableBlock}
use Rattle.object_model.specs.Changes.{WritesObject}
use Rattle.block_sweeps.specs.Sweeping.{AreApart}
use Rattle.sessions.specs.Plans.{Rules}
use Rattle.sessions.specs.Fitting.{HasHole}
use Rattle.sessions.specs.Sessions.{PlacesSmall}
use Rattle.mutator_calls.specs.declared.need.Need.{Need}
use Rattle.mutator_calls.specs.declared.need.Mutator.{Mutator}
use Rattle.block_regions.specs.Notes.{FillsHoles, AreNotes, FlagsCover, PlacesInBlock, PlacesRun}
use Rattle.block_regions.specs.declared.block_notes.BlockNotes.{BlockNotes}
use Rattle.managed_heap.specs.declared.stopped_heap.StoppedHeap.{StoppedHeap}
use Rattle.managed_heap.specs.declared.spot.Spot.{Spot}
use Rattle.managed_heap.specs.Stopped.{IsStopped}
use Rattle.managed_heap.specs.Spots.{IsPlaceIn, IsRunAt, IsPlaceForSize, IsSpot, TakesSpot, RelistsSpot, WritesAt}
use Rattle.managed_heap.specs.Needs.{MayAllocate, MutatorAllocatesAt}
use Rattle.managed_heap.proofs.Written.{address_of, IsBorn}
use Rattle.managed_heap.proofs.LargePuts.{by-run, readable-at}
use Rattle.managed_heap.proofs.NeedsWritten as putting
use Rattle.managed_heap.proofs.NeedsWritten.{IsBetween}
use Rattle.managed_heap.proofs.Rooms.{FillsByLines}

module _ {P : Type 0} (rules : Rules) (h : StoppedHeap P) (m : ℕ) (need : Need) (spot : Spot) (fills : FillsHoles rules.fill) (stopped : IsStopped rules h)
    (may : MayAllocate h m need) (is : IsSpot rules (heap_state h.heap) (size_of need.refs need.nums) spot) (row between : HeapState) (size r q : ℕ)
    (same : row ≡ heap_state h.heap) (wanted : size ≡ size_of r q) (er : r ≡ need.refs) (eq : q ≡ need.nums) (takes : TakesSpot rules.fill row spot size between) where
  abbrev s : HeapState
  s = heap_state h.heap

  found : IsPlaceForSize rules.fill s (size_of need.refs need.nums) spot
  found = is.place

  took : TakesSpot rules.fill s spot (size_of need.refs need.nums) between
  took = putting.took rules.fill s row between spot size r q need.refs need.nums same wanted er eq takes

  between-there : IsBetween s between spot (size_of need.refs need.nums)
  between-there = putting.between-is rules.fill s between spot need.refs need.nums fills h.heap.lawful found took

  pub extent : length between.words ≡ row_words between.blocks
  extent = between-there.extent

  pub inside : spot.block < between.blocks
  inside = subst (λ (b : ℕ). spot.block < b) (sym between-there.blocks) between-there.inside

  pub below : spot.offset < 4096
  below = between-there.below

  pub address : (a : ℕ) → a ≡ block_start between.blocks spot.block + spot.offset → IsAddress between.blocks a
  address = putting.address-between rules.fill s between spot need.refs need.nums between-there took

  pub room : (a : ℕ) → a ≡ block_start between.blocks spot.block + spot.offset → a + size_of r q ≤ row_words between.blocks
  room a at = putting.room-between rules.fill s between spot need.refs need.nums between-there took a r q at er eq

  at-spot : (a : ℕ) → a ≡ block_start between.blocks spot.block + spot.offset → a ≡ address_of s spot
  at-spot a at = at ∙ ap (λ b. block_start b spot.block + spot.offset) between-there.blocks

  module _ (us : List Mutator) (a : ℕ) (n : Name) (at : a ≡ block_start between.blocks spot.block + spot.offset)
      (bears : (k : ℕ) → k + 1 ≡ m → MutatorAllocatesAt h.mutators.items us k m need.register a n) where
    name-is : n ≡ name m ((putting.the-user h m need may).0.births + 1)
    name-is = putting.birth-name h m need may us (m - 1) need.register a n (putting.at h m need may)
        (bears (m - 1) (putting.at h m need may))

    pub named : IsName n
    named = putting.is-name rules h m need stopped may n name-is

    pub bears-at : (k : ℕ) → k + 1 ≡ m → MutatorAllocatesAt h.mutators.items us k m need.register (address_of s spot) n
    bears-at k is' = subst (λ (x : ℕ). MutatorAllocatesAt h.mutators.items us k m need.register x n) (at-spot a at) (bears k is')

    module _ (written : HeapState) (writes : WritesObject between written a n r q) where
      object : WritesObject between written (address_of s spot) n need.refs need.nums
      object = putting.written rules.fill s between spot need.refs need.nums between-there took written a r q n at er eq writes

      -- its block can be read, to be relisted
      pub readable : spot.run ≡ 0 → IsReadableBlock written spot.block × AreApart written spot.block
      readable none =
          let valid = may.valid in
          readable-at rules fills s between written spot n need.refs need.nums h.heap.lawful object valid.1 valid.2 named
          (putting.is-fresh rules h m need stopped may n name-is) none found took

      module _ (new : HeapState) (filled : FillsByLines rules) (relists : RelistsSpot rules written spot new) where
        pub writes-at : WritesAt rules s spot n need.refs need.nums new
        writes-at = record { between = between; block = took; written = written; object = object; relisted = relists }

        born : IsBorn rules s spot n need.refs need.nums new
        born = putting.born-need rules h m need stopped may fills filled spot n new name-is found writes-at

        pub lawful : IsLawful new
        lawful = born.lawful

        pub layout : (new.blocks ≡ s.blocks) × (new.number ≡ s.number) × (new.base ≡ s.base)
        layout = born.layout

        -- the block was Free, or the object lies at the start of a hole
        spot-there : PlacesSmall rules s (address_of s spot) (size_of need.refs need.nums)
            → HasKind s spot.block kinds.Free ⊎ HasHole rules.fill s spot.block (offset_at s.blocks (address_of s spot)) (size_of need.refs need.nums)
        spot-there places = elim places.spot as (λ _. HasKind s spot.block kinds.Free ⊎ HasHole rules.fill s spot.block (offset_at s.blocks (address_of s spot)) (size_of need.refs need.nums)) [
          | inl hole ↦ inr (subst (λ (b : ℕ). HasHole rules.fill s b (offset_at s.blocks (address_of s spot)) (size_of need.refs need.nums)) born.block hole)
          | inr free ↦ inl (subst (λ (b : ℕ). HasKind s b kinds.Free) born.block free.0)
        ]

        small-placed : (is : IsPlaceIn rules.fill s (size_of need.refs need.nums) spot) → PlacesInBlock rules s new (address_of s spot) need.refs need.nums spot.block spot.free
        small-placed is = (let placed = born.small is.small in record {
          layout = born.layout;
          object = born.object;
          here = born.block;
          uses = placed.1;
          free = putting.was-free rules.fill s (size_of need.refs need.nums) spot is;
          spot = spot-there placed.0;
          lines = born.lines;
        })

        large-placed : IsRunAt s (size_of need.refs need.nums) spot → PlacesRun s new (address_of s spot) need.refs need.nums spot.block
        large-placed is = record {
          blocks = born.layout.0;
          object = born.object;
          here = born.block;
          uses = (born.large is.large).1;
          lines = born.lines;
        }

        -- the flags, as they follow the placement
        pub flags : (old after : BlockNotes) → FlagsCover rules s old.flags.items
            → (spot.run ≡ 0 → (x : Rules) (u v : HeapState) (a refs nums : ℕ) → FlagsCover x u old.flags.items → PlacesInBlock x u v a refs nums spot.block spot.free
            → FlagsCover x v after.flags.items)
            → (spot.run ≢ 0 → (x : Rules) (u : HeapState) (a refs nums : ℕ) → FlagsCover x u old.flags.items → PlacesRun u new a refs nums spot.block → new.base ≡ u.base
            → FlagsCover x new after.flags.items)
            → FlagsCover rules new after.flags.items
        flags old after before small large =
            by-run rules.fill s (size_of need.refs need.nums) spot (FlagsCover rules new after.flags.items) found
            (λ none is. small none rules s new (address_of s spot) need.refs need.nums before (small-placed is))
            (λ some is. large some rules s (address_of s spot) need.refs need.nums before (large-placed is) layout.2)

        -- and the notes
        pub notes : (old after : BlockNotes) → AreNotes rules.fill s old
            → (spot.run ≡ 0 → (x : Rules) (u v : HeapState) (a refs nums : ℕ) → FillsHoles x.fill → AreNotes x.fill u old → PlacesInBlock x u v a refs nums spot.block spot.free
            → AreNotes x.fill v after)
            → (spot.run ≢ 0 → (x : Kind) (u : HeapState) (a refs nums : ℕ) → FillsHoles x → AreNotes x u old → PlacesRun u new a refs nums spot.block → AreNotes x new after)
            → AreNotes rules.fill new after
        notes old after before small large =
            by-run rules.fill s (size_of need.refs need.nums) spot (AreNotes rules.fill new after) found
            (λ none is. small none rules s new (address_of s spot) need.refs need.nums fills before (small-placed is))
            (λ some is. large some rules.fill s (address_of s spot) need.refs need.nums fills before (large-placed is))
