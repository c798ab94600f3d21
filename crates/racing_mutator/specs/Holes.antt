-- What a search for holes of blocks that nobody owned knows and leaves.
use Rattle.std.specs.Prelude.{◌≡◌, ℕ, ◌<◌, ◌≤◌, ◌⊎◌, Option, Some, slice_get}
use Rattle.heap_layout.specs.Blocks.{code_of}
use Rattle.heap_layout.specs.declared.region.Region.{Region}
use Rattle.object_model.specs.Objects.{HeapState, block_word, owner_at}
use Rattle.sessions.specs.Fitting.{HasHole, class_for}
use Rattle.sessions.specs.Plans.{Rules}
use Rattle.sessions.specs.Sessions.{block_of_kind}
use Rattle.block_regions.specs.declared.block_notes.BlockNote.TheVariants.{Unowned}
use Rattle.block_regions.specs.Notes.{LacksHoles}
use Rattle.local_allocators.specs.NotedRegions.{region_of}
use Rattle.plan_api.specs.declared.block_view.BlockView.{BlockView}
use Rattle.plan_api.specs.Holes.{IsFirstPart}
use Rattle.plan_api.specs.Prelude.{AreApart}
use Rattle.plan_api.specs.Views.{IsViewOf}
use Rattle.mutator_core.specs.Machine.{Epoch}
use Rattle.mutator_rule.specs.declared.seat_notes.SeatNotes.{SeatNotes}
use Rattle.racing_mutator.specs.declared.racing.Racing.{Racing}
use Rattle.racing_mutator.specs.RacingSeats.{local, holdings, epoch_of_racing, heap_seen}
use Rattle.racing_mutator.specs.Looks.{HasLooked}
use Rattle.racing_mutator.specs.Searches.{Searches}

-- Block k has an owner in the heap s, or it had no hole for `least` words or more as the epoch began.
abbrev pub LacksFrom : Epoch → HeapState → ℕ → ℕ → Type 0
LacksFrom p s k least = (0 < owner_at s k)
    ⊎ ((at size : ℕ) → least ≤ size → HasHole p.rules.fill p.before k at size → ⊥)

-- It has an owner there, or it had no hole for the size.
abbrev pub IsTakenOrLacks : Epoch → HeapState → ℕ → ℕ → Type 0
IsTakenOrLacks p s k size = (0 < owner_at s k) ⊎ LacksHoles p.rules.fill p.before k size

-- Block k is noted as nobody's.
abbrev pub IsNotedUnowned : SeatNotes → ℕ → Type 0
IsNotedUnowned notes k = (least : ℕ) × (slice_get notes.blocks.items k ≡ Some (Unowned least))

-- The notes changed at most on blocks that are noted as nobody's, which are noted so still. The
-- mutator's regions are the same.
pub record NotesUnowned (old new : SeatNotes) : Type 0 where
  pub flags : new.flags ≡ old.flags
  pub local : new.local ≡ old.local
  pub regions : (k : Option ℕ) → region_of new.blocks.items k ≡ region_of old.blocks.items k
  pub unowned : (k : ℕ) → IsNotedUnowned old k → IsNotedUnowned new k

-- Block k is of the kind that mutators fill and the size's class. The region is its first hole with
-- room for the size, by the lines that it had as the epoch began or by a view that the mutator saw.
pub record HasSeenHole (p : Epoch) (looked : BlockView → Type 0) (k size : ℕ) (region : Region)
    : Type 0 where
  pub word : block_word p.before k
      ≡ code_of (block_of_kind p.rules.fill (class_for p.rules.fill size))
  pub shows : IsFirstPart p.rules.fill p.before k 0 size region ⊎ ((view : BlockView) × looked view
      × ((s : HeapState) → IsViewOf s k view → AreApart s k
      → IsFirstPart p.rules.fill s k 0 size region))

module _ {P : Type 0} where
  -- From the one state to the other the mutator looked at blocks and took none: of those that are
  -- noted as nobody's it may have noted more.
  pub record OnlySearches (rules : Rules) (a b : Racing P) : Type 0 where
    pub searches : Searches rules a b
    pub kept : holdings (local b) ≡ holdings (local a)
    pub notes : NotesUnowned a.seat.now.notes b.seat.now.notes

  abbrev pub Lacks : Rules → Racing P → ℕ → ℕ → Type 0
  Lacks rules r k size = IsTakenOrLacks (epoch_of_racing rules r) (heap_seen rules r) k size

  abbrev pub SeesHole : Rules → Racing P → ℕ → ℕ → Region → Type 0
  SeesHole rules r k size region = HasSeenHole (epoch_of_racing rules r)
      (HasLooked (epoch_of_racing rules r) (local r) k) k size region
