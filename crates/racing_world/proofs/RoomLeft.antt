-- The room in the blocks as an epoch ends, by what its seats noted.
use Rattle.std.proofs.Common.{◌≡◌, ◌≢◌, ◌∙◌, sym, ap, subst, ℕ, ◌%◌, ◌<◌, inl, inr, arith, List, ◌++◌, map}
use Rattle.std.specs.Prelude.{Some, slice_get}
use Rattle.std.specs.List.{Contains}
use Rattle.std.proofs.lemmas.Bool.{cases_eq}
use Rattle.heap_layout.specs.Zones.{BlockWords, first}
use Rattle.heap_layout.specs.declared.block.Kind.TheVariants as kinds
use Rattle.heap_layout.specs.declared.region.Region.{Region}
use Rattle.object_model.specs.Objects.{HeapState, block_word, owner_at, word_at}
use Rattle.object_model.specs.Graphs.{numbers_of}
use Rattle.sessions.specs.Fitting.{HasHole}
use Rattle.sessions.specs.Plans.{Rules}
use Rattle.block_regions.specs.declared.block_notes.BlockNote.TheVariants.{Owned}
use Rattle.block_regions.proofs.BlockFrames.{SameLines}
use Rattle.block_regions.proofs.BlockSides.{ChangesSides, block-kept}
use Rattle.block_regions.proofs.RegionFrames.{hole-as, turn-round}
use Rattle.mutator_core.specs.declared.state.Local.{Local}
use Rattle.mutator_core.specs.declared.state.LogEntry.{LogEntry}
use Rattle.mutator_core.specs.Machine.{Epoch}
use Rattle.mutator_core.specs.Closing.{GivesBack}
use Rattle.mutator_core.specs.Epochs.{IsInEpoch}
use Rattle.mutator_core.specs.Logs.{IsEpochLog, IsListed, machine_after, heap_after, local_after_log}
use Rattle.mutator_core.proofs.Regions.{owner-lists}
use Rattle.mutator_rule.specs.declared.seat.MutatorSeat.{MutatorSeat}
use Rattle.mutator_rule.specs.declared.views.EpochStart.{EpochStart}
use Rattle.mutator_rule.specs.declared.views.MutatorView.{MutatorView}
use Rattle.mutator_rule.specs.Views.{epoch_with}
use Rattle.mutator_rule.specs.Logs.{Agrees, EndsWith, KnowsLog, StaysInRow}
use Rattle.mutator_rule.specs.Seats.{known, local_of, epoch_of_seat}
use Rattle.mutator_rule.proofs.Moments as moments
use Rattle.racing_rooms.specs.Rooms.{HasOwnNote, HasRooms, HasRoomsIn, holdings, heap_seen_by}
use Rattle.racing_rooms.proofs.OwnSeen.{hole-inside}
use Rattle.racing_rooms.proofs.RoomsKept.{owner-later}
use Rattle.racing_mutator.proofs.HolesPassed.{hole-before}
use Rattle.racing_world.specs.Calls.{number_of}
use Rattle.racing_world.specs.Closing.{IsSeatAt}
use Rattle.racing_world.specs.ClosingNotes.{TookBlock, NoneTook, LeavesRoom}
use Rattle.racing_world.proofs.Closed.{known-at, seat-with}

module _ (rules : Rules) (g : EpochStart) (seats : List MutatorSeat) (row : List ℕ) (ends : EndsWith rules g (map known seats) row)
    (listed : map number_of seats ≡ numbers_of (epoch_with rules g).mutators)
    (knows : (k : ℕ) (seat : MutatorSeat) → IsSeatAt seats k seat → KnowsLog (epoch_of_seat rules seat) (known seat))
    (noted : (k : ℕ) (seat : MutatorSeat) → IsSeatAt seats k seat → HasRooms rules seat) where
  abbrev p : Epoch
  p = epoch_with rules g

  abbrev log : List LogEntry
  log = ends.log

  abbrev s : HeapState
  s = heap_after p log

  now : IsInEpoch p s (machine_after p log).locals
  now = moments.epoch p ends.ideal log ends.epoch

  agrees : (k : ℕ) (seat : MutatorSeat) → IsSeatAt seats k seat → Agrees rules g log (known seat)
  agrees k seat at = ends.agree k (known seat) (known-at seats k seat at)

  -- what the mutator would know at the end of the log
  abbrev end_view : MutatorSeat → MutatorView
  end_view seat = record { start = g; seen = log; local = local_of seat }

  knows-end : (k : ℕ) (seat : MutatorSeat) → IsSeatAt seats k seat → KnowsLog p (end_view seat)
  knows-end k seat at =
      let told = knows k seat at in
      let same = (agrees k seat at).0 in record {
        ideal = ends.ideal;
        epoch = ends.epoch;
        now = (agrees k seat at).1.local;
        known = subst (λ (h : EpochStart). Contains (numbers_of (epoch_with rules h).mutators) (number_of seat)) same told.known;
        inside = subst (λ (h : EpochStart). StaysInRow (epoch_with rules h) (local_of seat)) same told.inside;
      }

  rooms : (k : ℕ) (seat : MutatorSeat) → IsSeatAt seats k seat → HasRoomsIn p (heap_after p (known seat).seen) (holdings (local_of seat)) seat.notes.blocks.items seat.notes.local seat.notes.allowance
  rooms k seat at = subst (λ (h : EpochStart). HasRoomsIn (epoch_with rules h) (heap_after (epoch_with rules h) (known seat).seen) (holdings (local_of seat)) seat.notes.blocks.items seat.notes.local seat.notes.allowance)
      (agrees k seat at).0 (noted k seat at)

  -- a block that has an owner was taken by a seat, which has a region there
  took-block : (k : ℕ) → k < p.before.blocks → 0 < owner_at s k → (region : Region) × TookBlock seats k region
  took-block k there some =
      let m : ℕ = owner_at s k in
      let lists : IsListed (local_after_log p log m) k = owner-lists p ends.epoch.ready (machine_after p log) now k there some in
      let f = seat-with seats m (subst (λ ns. Contains ns m) (sym listed) (now.members m lists.block lists.listed)) in
      let same : local_of f.1 ≡ local_after_log p log m = (agrees f.0 f.1 f.2).1.local ∙ ap (local_after_log p log) f.3 in
      let note : HasOwnNote f.1.notes.blocks.items lists.block.block = (rooms f.0 f.1 f.2).noted lists.block (subst (λ (l : Local). Contains l.owned lists.block) (sym same) lists.listed) in (
        note.region,
        record {
          place = f.0;
          seat = f.1;
          at = f.2;
          owner = note.owner;
          note = subst (λ (q : ℕ). slice_get f.1.notes.blocks.items q ≡ Some (Owned note.owner note.region)) lists.same note.note;
        },
      )

  nobody-owns : (k : ℕ) → k < p.before.blocks → NoneTook seats k → owner_at s k ≡ 0
  nobody-owns k there none = elim (cases_eq (owner_at s k) 0) as (λ _. owner_at s k ≡ 0) [
    | inl nobody ↦ nobody
    | inr some ↦ (let took = took-block k there (let n : owner_at s k ≢ 0 = some in omega arith) in absurd (none took.0 took.1))
  ]

  -- an owner that a seat saw is one at the end
  owner-end : (k place : ℕ) (seat : MutatorSeat) → IsSeatAt seats place seat → k < p.before.blocks → 0 < owner_at (heap_seen_by rules seat) k → 0 < owner_at s k
  owner-end k place seat at there some =
      let has = agrees place seat at in
      let more : List LogEntry = has.1.prefix.0 in
      let whole : (known seat).seen ++ more ≡ log = has.1.prefix.1 in
      subst (λ (l : List LogEntry). 0 < owner_at (heap_after p l) k) whole
      (owner-later p ends.ideal (known seat).seen more (subst (IsEpochLog p ends.ideal) (sym whole) ends.epoch) k there
      (subst (λ (h : EpochStart). 0 < owner_at (heap_after (epoch_with rules h) (known seat).seen) k) has.0 some))

  module _ (new : HeapState) (gives : GivesBack s new) (front : (i : ℕ) → i < first p.before.blocks BlockWords → word_at new i ≡ word_at s i) where
    sides : ChangesSides s new
    sides = record {
      blocks = gives.blocks;
      number = gives.number;
      base = gives.base;
      extent = gives.extent;
      words = gives.words;
      rest = λ i other. elim other as (λ _. word_at new i ≡ word_at s i) [
        | inl before ↦ front i before
        | inr past ↦ gives.rest i (inr past)
      ];
      low = λ k there. let w : block_word new k ≡ block_word s k % 65536 = gives.owners k there in omega arith;
    }

    hole-back : (k at size : ℕ) → k < p.before.blocks → (rules.fill ≡ kinds.Immix → SameLines new s k) → HasHole rules.fill new k at size → HasHole rules.fill s k at size
    hole-back k at size there lines hole = hole-as rules.fill new s k at size (turn-round s new k (block-kept s new sides k there)) lines hole

    pub leaves-room : LeavesRoom rules p seats new
    leaves-room = record {
      untaken = λ k at size there none hole.
          let nobody = nobody-owns k there none in
          hole-before p ends.ideal log ends.epoch k there nobody rules.fill at size
          (hole-back k at size there (λ immix line few. sym (gives.lines k line there few nobody)) hole);
      left = λ k region took plain at size some hole.
          let own = (rooms took.place took.seat took.at).owned k took.owner region took.note in
          hole-inside p (end_view took.seat) (knows-end took.place took.seat took.at) k own.0 region own.1 plain at size some
          (hole-back k at size own.1.there (λ immix. absurd (plain immix)) hole);
      owned = λ k place seat at there some. took-block k there (owner-end k place seat at there some);
    }
