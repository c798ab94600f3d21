-- What a mutator lacks it lacks still: blocks that nobody owns, and its own, stay as they are while others step.
use Rattle.std.proofs.Common.{◌≡◌, refl, sym, ◌∙◌, ap, subst, ℕ, ◌+◌, ◌/◌, ◌%◌, ◌<◌, ◌≤◌, inl, inr, arith, List, ◌++◌, Option}
use Rattle.std.specs.Prelude.{Some}
use Rattle.std.specs.List.{Contains}
use Rattle.std.proofs.lemmas.Bool.{cases_eq}
use Rattle.heap_layout.specs.Zones.{block_at}
use Rattle.heap_layout.specs.Blocks.{code_of}
use Rattle.heap_layout.specs.declared.block.Kind.TheVariants as kinds
use Rattle.ideal_heap.specs.Ideal.{IdealHeap}
use Rattle.object_model.specs.Objects.{HeapState, block_word, owner_at, IsHeld, size_at, size_of, HasKind}
use Rattle.sessions.specs.Fitting.{HasHole}
use Rattle.sessions.specs.Plans.{Rules}
use Rattle.block_regions.proofs.BlockFrames.{SameBlock, SameLines}
use Rattle.block_regions.proofs.RegionFrames.{hole-as, kind-as, turn-round}
use Rattle.plan_api.specs.Holes.{HasRoomFrom}
use Rattle.local_allocators.specs.MutatorRegions.{MutatorRegions, FillsLines, LacksBlock, cursors_of}
use Rattle.local_allocators.proofs.LineLacks.{part-back}
use Rattle.mutator_core.specs.declared.state.Extent.{Extent}
use Rattle.mutator_core.specs.declared.state.Local.{Local}
use Rattle.mutator_core.specs.declared.state.LogEntry.{LogEntry}
use Rattle.mutator_core.specs.declared.state.OwnedBlock.{OwnedBlock}
use Rattle.mutator_core.specs.Machine.{Epoch, first_machine}
use Rattle.mutator_core.specs.Epochs.{IsInEpoch, IsOwned, IsMade}
use Rattle.mutator_core.specs.Logs.{IsEpochLog, machine_after, heap_after, local_after_log, IsListed}
use Rattle.mutator_core.proofs.Fills.{owned-owner}
use Rattle.mutator_core.proofs.Places.{place-owner, unowned-word}
use Rattle.mutator_core.proofs.Regions.{log-front, stays-later, owner-lists}
use Rattle.mutator_rule.specs.declared.views.EpochStart.{EpochStart}
use Rattle.mutator_rule.specs.Views.{epoch_with}
use Rattle.mutator_rule.specs.Logs.{KnowsLog}
use Rattle.mutator_rule.proofs.Moments as moments
use mathlib.Core.List.{IsPrefix}
use Rattle.std.specs.Prelude.{slice_get, unwrap_or, None}
use Rattle.heap_layout.specs.declared.block.Kind.{Kind}
use Rattle.sessions.specs.Fitting.{class_for}
use Rattle.plan_api.specs.Cursors.{RegionHasRoom, LacksRoom}
use Rattle.local_allocators.proofs.BlockReads.{block-there, option-read}
use Rattle.mutator_calls.specs.declared.need.NeedCause.{NeedCause}
use Rattle.mutator_calls.specs.declared.need.NeedCause.TheVariants.{Large, Budget}
use Rattle.mutator_core.specs.Guards.{allowance}
use Rattle.mutator_core.proofs.Fills.{owned-kind}
use Rattle.mutator_rule.specs.declared.seat.MutatorSeat.{MutatorSeat}
use Rattle.mutator_rule.specs.Seats.{known, local_of, epoch_of_seat}
use Rattle.racing_rooms.specs.Rooms.{HasRooms, heap_seen_by}
use Rattle.racing_rooms.specs.NoRoom.{regions_at, LacksUnownedBelow, LacksUnowned, LacksFreeBelow, LacksOwn, LacksRegionRoom, LacksTriedRegions, HasNoRoom, IsCauseFor}
use Rattle.object_model.proofs.OneKind.{kind-code, kind-within}
use Rattle.sessions.proofs.HoleRooms.{hole-kind}
use Rattle.racing_rooms.proofs.BlockCodes.{block-code, free-word}
use Rattle.racing_rooms.proofs.RoomsKept.{owner-later}

pub block-read : (xs : List (Option ℕ)) (k b : ℕ) → unwrap_or (slice_get xs k) None ≡ Some b → slice_get xs k ≡ Some (Some b)
block-read xs k b is = block-there xs k b (sym (option-read xs k) ∙ is)

module _ (p : Epoch) (i : IdealHeap) (log more : List LogEntry) (is : IsEpochLog p i (log ++ more)) where
  abbrev s : HeapState
  s = heap_after p log

  abbrev t : HeapState
  t = heap_after p (log ++ more)

  front : IsEpochLog p i log
  front = record { ready = is.ready; represents = is.represents; steps = log-front p (first_machine p) log more is.steps }

  was : IsInEpoch p s (machine_after p log).locals
  was = moments.epoch p i log front

  now : IsInEpoch p t (machine_after p (log ++ more)).locals
  now = moments.epoch p i (log ++ more) is

  -- a block whose word stays, and in which no object was made since
  same-block : (k : ℕ) → k < p.before.blocks → block_word t k % 65536 ≡ block_word s k % 65536
      → ((m x : ℕ) → Contains ((machine_after p (log ++ more)).locals m).made (record { address = x; size = size_at t x }) → block_at p.before.blocks x ≡ k → IsHeld s x) → SameBlock s t k
  same-block k there word made = record {
    there = there;
    blocks = refl;
    word = word;
    held = λ x holds here. let later = stays-later p i log more is x holds in (later.0, ap (λ (w : ℕ). size_of (w % 65536) (w / 65536)) (later.1 1 (omega arith)));
    back = λ x holds here. elim (now.births x holds) as (λ _. IsHeld s x) [
      | inl before ↦ (was.stays x before).0
      | inr own ↦ made own.0 x own.1 here
    ];
  }

  -- line bits stay
  pub same-lines : (k : ℕ) → k < p.before.blocks → SameLines s t k
  same-lines k there line few = now.lines k line there few ∙ sym (was.lines k line there few)

  -- a block that nobody owns had no owner before
  pub nobody-before : (k : ℕ) → k < p.before.blocks → owner_at t k ≡ 0 → owner_at s k ≡ 0
  nobody-before k there nobody = elim (cases_eq (owner_at s k) 0) as (λ _. owner_at s k ≡ 0) [
    | inl none ↦ none
    | inr some ↦ absurd (let later : 0 < owner_at t k = owner-later p i log more is k there (omega arith) in omega arith)
  ]

  -- and is as it was
  pub unowned-same : (k : ℕ) → k < p.before.blocks → owner_at t k ≡ 0 → SameBlock s t k
  unowned-same k there nobody = same-block k there
      (ap (λ (w : ℕ). w % 65536) (unowned-word p (machine_after p (log ++ more)) now k there nobody ∙ sym (unowned-word p (machine_after p log) was k there (nobody-before k there nobody))))
      (λ m x made here. absurd (
      let by : IsMade p t ((machine_after p (log ++ more)).locals m).owned (record { address = x; size = size_at t x }) = (now.knows m).objects (record { address = x; size = size_at t x }) made in
      let owner = place-owner p (machine_after p (log ++ more)) now m x (size_at t x) by.place in
      let some : 0 < m = owner.1 in
      let none : m ≡ 0 = sym owner.0 ∙ ap (owner_at t) here ∙ nobody in
      omega arith))

  -- a block that is Free was Free before
  pub free-before : (k : ℕ) → k < p.before.blocks → HasKind t k kinds.Free → HasKind s k kinds.Free
  free-before k there free =
      let code : block_word t k % 256 ≡ 0 = kind-code t k kinds.Free free in
      let none : block_word t k ≡ 0 = free-word (block_word t k) (block-code p is.ready (machine_after p (log ++ more)) now k there) code in
      let nobody : owner_at t k ≡ 0 = ap (λ (w : ℕ). w / 65536) none in
      kind-as t s k (turn-round s t k (unowned-same k there nobody)) kinds.Free free

  -- a mutator's own block, in which it made no object, is as it was
  pub own-same : (m : ℕ) (o : OwnedBlock) → Contains (local_after_log p log m).owned o → Contains (local_after_log p (log ++ more) m).owned o → (local_after_log p (log ++ more) m).made ≡ (local_after_log p log m).made → SameBlock s t o.block
  own-same m o before after made =
      let a : IsOwned p s (local_after_log p log m).number o = (was.knows m).owned o before in
      let b : IsOwned p t (local_after_log p (log ++ more) m).number o = (now.knows m).owned o after in
      let number : (local_after_log p (log ++ more) m).number ≡ (local_after_log p log m).number = now.numbers m ∙ sym (was.numbers m) in
      same-block o.block a.inside
      (ap (λ (w : ℕ). w % 65536) (b.word ∙ ap (λ (n : ℕ). code_of (record { kind = p.rules.fill; class = o.class; owner = n })) number ∙ sym a.word))
      (λ n x by here.
      let e : Extent = record { address = x; size = size_at t x } in
      let is-made : IsMade p t (local_after_log p (log ++ more) n).owned e = (now.knows n).objects e by in
      let owner = place-owner p (machine_after p (log ++ more)) now n x (size_at t x) is-made.place in
      let who : n ≡ m = sym owner.0 ∙ ap (owner_at t) here ∙ owned-owner p t (local_after_log p (log ++ more) m).number o b ∙ now.numbers m in
      let mine : Contains (local_after_log p (log ++ more) m).made e = subst (λ (q : ℕ). Contains (local_after_log p (log ++ more) q).made e) who by in
      ((was.knows m).objects e (subst (λ (xs : List Extent). Contains xs e) made mine)).held)

  -- no hole of a block that nobody owns is new
  pub unowned-back : (k at size : ℕ) → k < p.before.blocks → owner_at t k ≡ 0 → HasHole p.rules.fill t k at size → HasHole p.rules.fill s k at size
  unowned-back k at size there nobody hole = hole-as p.rules.fill t s k at size (turn-round s t k (unowned-same k there nobody)) (λ lines line few. sym (same-lines k there line few)) hole

  -- nor of a block of a mutator's own, and none is lost
  pub own-back : (m : ℕ) (o : OwnedBlock) (at size : ℕ) → Contains (local_after_log p log m).owned o → Contains (local_after_log p (log ++ more) m).owned o → (local_after_log p (log ++ more) m).made ≡ (local_after_log p log m).made
      → HasHole p.rules.fill t o.block at size → HasHole p.rules.fill s o.block at size
  own-back m o at size before after made hole =
      let same = own-same m o before after made in
      hole-as p.rules.fill t s o.block at size (turn-round s t o.block same) (λ lines line few. sym (same-lines o.block same.there line few)) hole

  pub own-forth : (m : ℕ) (o : OwnedBlock) (at size : ℕ) → Contains (local_after_log p log m).owned o → Contains (local_after_log p (log ++ more) m).owned o → (local_after_log p (log ++ more) m).made ≡ (local_after_log p log m).made
      → HasHole p.rules.fill s o.block at size → HasHole p.rules.fill t o.block at size
  own-forth m o at size before after made hole =
      let same = own-same m o before after made in
      hole-as p.rules.fill s t o.block at size same (λ lines. same-lines o.block same.there) hole

-- the blocks that a mutator owns are those that it took
module _ (p : Epoch) (i : IdealHeap) (log : List LogEntry) (is : IsEpochLog p i log) (m : ℕ) (some : 0 < m) where
  pub own-listed : (k : ℕ) → k < p.before.blocks → owner_at (heap_after p log) k ≡ m → (o : OwnedBlock) × Contains (local_after_log p log m).owned o × (o.block ≡ k)
  own-listed k there mine =
      let listed : IsListed (local_after_log p log (owner_at (heap_after p log) k)) k = owner-lists p is.ready (machine_after p log) (moments.epoch p i log is) k there (omega arith) in
      (listed.block, subst (λ (q : ℕ). Contains (local_after_log p log q).owned listed.block) mine listed.listed, listed.same)

  pub own-mine : (o : OwnedBlock) → Contains (local_after_log p log m).owned o → (o.block < p.before.blocks) × (owner_at (heap_after p log) o.block ≡ m)
  own-mine o among =
      let now = moments.epoch p i log is in
      let by : IsOwned p (heap_after p log) (local_after_log p log m).number o = (now.knows m).owned o among in
      (by.inside, owned-owner p (heap_after p log) (local_after_log p log m).number o by ∙ now.numbers m)

-- from one seat to a later one of the mutator, which has the blocks and objects that it had, and the same regions
module _ (rules : Rules) (a b : MutatorSeat) (start : (known b).start ≡ (known a).start) (number : (local_of b).number ≡ (local_of a).number) (prefix : IsPrefix (known a).seen (known b).seen) (told-a : KnowsLog (epoch_of_seat rules a) (known a)) (told-b : KnowsLog (epoch_of_seat rules b) (known b)) where
  abbrev g : EpochStart
  g = (known a).start

  abbrev e : Epoch
  e = epoch_with rules g

  abbrev front-log : List LogEntry
  front-log = (known a).seen

  abbrev since : List LogEntry
  since = prefix.0

  abbrev m : ℕ
  m = (local_of a).number

  seen : (known b).seen ≡ front-log ++ since
  seen = sym prefix.1

  told : KnowsLog e (known b)
  told = subst (λ (h : EpochStart). KnowsLog (epoch_with rules h) (known b)) start told-b

  is-log : IsEpochLog e told.ideal (front-log ++ since)
  is-log = subst (IsEpochLog e told.ideal) seen told.epoch

  abbrev Unowned : EpochStart → List LogEntry → ℕ → ℕ → Type 0
  Unowned h log end size = (k : ℕ) → k < end → owner_at (heap_after (epoch_with rules h) log) k ≡ 0 → (at : ℕ) → HasHole rules.fill (heap_after (epoch_with rules h) log) k at size → ⊥

  pub below-later : (end size : ℕ) → LacksUnownedBelow rules a end size → LacksUnownedBelow rules b end size
  below-later end size lacks = record {
    each = subst (λ (h : EpochStart). Unowned h (known b).seen end size) (sym start) (subst (λ (l : List LogEntry). Unowned g l end size) (sym seen)
        (λ k low nobody at hole.
        let there : k < e.before.blocks = kind-within (heap_after e (front-log ++ since)) k rules.fill (hole-kind rules.fill (heap_after e (front-log ++ since)) k at size hole) in
        lacks.each k low (nobody-before e told.ideal front-log since is-log k there nobody) at (unowned-back e told.ideal front-log since is-log k at size there nobody hole)));
  }

  pub unowned-later : (size : ℕ) → LacksUnowned rules a size → LacksUnowned rules b size
  unowned-later size lacks = subst (λ (h : EpochStart). LacksUnownedBelow rules b (epoch_with rules h).before.blocks size) (sym start) (below-later e.before.blocks size lacks)

  abbrev NotFree : EpochStart → List LogEntry → ℕ → Type 0
  NotFree h log end = (k : ℕ) → k < end → HasKind (heap_after (epoch_with rules h) log) k kinds.Free → ⊥

  pub free-later : (end : ℕ) → LacksFreeBelow rules a end → LacksFreeBelow rules b end
  free-later end lacks = subst (λ (h : EpochStart). NotFree h (known b).seen end) (sym start) (subst (λ (l : List LogEntry). NotFree g l end) (sym seen)
      (λ k low free.
      let there : k < e.before.blocks = kind-within (heap_after e (front-log ++ since)) k kinds.Free free in
      lacks k low (free-before e told.ideal front-log since is-log k there free)))

  module _ (owned : (local_of b).owned ≡ (local_of a).owned) (made : (local_of b).made ≡ (local_of a).made) where
    some : 0 < m
    some =
        let least : 1 ≤ (local_after_log e front-log m).number = (moments.state e told-a.ideal front-log told-a.epoch m told-a.known).least in
        let same : (local_after_log e front-log m).number ≡ m = moments.number e told-a.ideal front-log told-a.epoch m in
        omega arith

    b-now : local_of b ≡ local_after_log e (front-log ++ since) m
    b-now = told.now ∙ (λ k. local_after_log e (seen k) (number k))

    owned-log : (local_after_log e (front-log ++ since) m).owned ≡ (local_after_log e front-log m).owned
    owned-log = ap (λ (l : Local). l.owned) (sym b-now) ∙ owned ∙ ap (λ (l : Local). l.owned) told-a.now

    made-log : (local_after_log e (front-log ++ since) m).made ≡ (local_after_log e front-log m).made
    made-log = ap (λ (l : Local). l.made) (sym b-now) ∙ made ∙ ap (λ (l : Local). l.made) told-a.now

    front-is : IsEpochLog e told.ideal front-log
    front-is = front e told.ideal front-log since is-log

    abbrev Own : EpochStart → List LogEntry → ℕ → ℕ → Type 0
    Own h log n size = (k : ℕ) → k < (epoch_with rules h).before.blocks → owner_at (heap_after (epoch_with rules h) log) k ≡ n → (at : ℕ) → HasHole rules.fill (heap_after (epoch_with rules h) log) k at size → ⊥

    own-later : (size : ℕ) → Own g front-log m size → Own (known b).start (known b).seen (local_of b).number size
    own-later size lacks = subst (λ (h : EpochStart). Own h (known b).seen (local_of b).number size) (sym start) (subst (λ (l : List LogEntry). Own g l (local_of b).number size) (sym seen) (subst (λ (n : ℕ). Own g (front-log ++ since) n size) (sym number)
        (λ k there mine at hole.
        let o = own-listed e told.ideal (front-log ++ since) is-log m some k there mine in
        let before : Contains (local_after_log e front-log m).owned o.0 = subst (λ (os : List OwnedBlock). Contains os o.0) owned-log o.1 in
        let was = own-mine e told.ideal front-log front-is m some o.0 before in
        lacks o.0.block was.0 was.1 at (own-back e told.ideal front-log since is-log m o.0 at size before o.1 made-log (subst (λ (q : ℕ). HasHole rules.fill (heap_after e (front-log ++ since)) q at size) (sym o.2) hole)))))

    own-earlier : (size : ℕ) → Own (known b).start (known b).seen (local_of b).number size → Own g front-log m size
    own-earlier size lacks =
        let there-lacks : Own g (front-log ++ since) m size = subst (λ (n : ℕ). Own g (front-log ++ since) n size) number (subst (λ (l : List LogEntry). Own g l (local_of b).number size) seen (subst (λ (h : EpochStart). Own h (known b).seen (local_of b).number size) start lacks)) in
        λ k there mine at hole.
        let o = own-listed e told.ideal front-log front-is m some k there mine in
        let after : Contains (local_after_log e (front-log ++ since) m).owned o.0 = subst (λ (os : List OwnedBlock). Contains os o.0) (sym owned-log) o.1 in
        let now-own = own-mine e told.ideal (front-log ++ since) is-log m some o.0 after in
        there-lacks o.0.block now-own.0 now-own.1 at (own-forth e told.ideal front-log since is-log m o.0 at size o.1 after made-log (subst (λ (q : ℕ). HasHole rules.fill (heap_after e front-log) q at size) (sym o.2) hole))

    module _ (rooms : HasRooms rules a) (regions : regions_at b ≡ regions_at a) where
      -- the block of the hole region is an Immix block, then and now
      hole-kinds : (k : ℕ) → FillsLines rules.fill → (regions_at a).blocks 0 ≡ Some k → (k < e.before.blocks) × HasKind (heap_after e front-log) k kinds.Immix × HasKind (heap_after e (front-log ++ since)) k kinds.Immix
      hole-kinds k lines is =
          let mine = (rooms.each 0 k (block-read a.notes.local.blocks 0 k is)).room.mine in
          let class = (rooms.each 0 k (block-read a.notes.local.blocks 0 k is)).room.there in
          let o : OwnedBlock = record { block = k; class = 0 } in
          let before : Contains (local_after_log e front-log m).owned o = subst (λ (l : Local). Contains l.owned o) told-a.now mine in
          let after : Contains (local_after_log e (front-log ++ since) m).owned o = subst (λ (os : List OwnedBlock). Contains os o) (sym owned-log) before in
          let fill : HasKind (heap_after e front-log) k rules.fill = owned-kind e (heap_after e front-log) (local_after_log e front-log m).number o (((moments.epoch e told.ideal front-log front-is).knows m).owned o before) in
          let immix : HasKind (heap_after e front-log) k kinds.Immix = subst (λ (f : Kind). HasKind (heap_after e front-log) k f) lines fill in
          (class, immix, kind-as (heap_after e front-log) (heap_after e (front-log ++ since)) k (own-same e told.ideal front-log since is-log m o before after made-log) kinds.Immix immix)

      abbrev Later : EpochStart → List LogEntry → MutatorRegions → ℕ → Type 0
      Later h log r size = (k next end : ℕ) → r.blocks 0 ≡ Some k → HasRoomFrom kinds.Immix (heap_after (epoch_with rules h) log) k (r.left (Some k)).end size next end → ⊥

      pub lacks-own-later : (size : ℕ) → LacksOwn rules a size → LacksOwn rules b size
      lacks-own-later size lacks = record {
        blocks = λ no. own-later size (lacks.blocks no);
        later = λ lines. subst (λ (h : EpochStart). Later h (known b).seen (regions_at b) size) (sym start) (subst (λ (l : List LogEntry). Later g l (regions_at b) size) (sym seen) (subst (λ (r : MutatorRegions). Later g (front-log ++ since) r size) (sym regions)
            (λ k next end is has.
            let kinds-are = hole-kinds k lines is in
            lacks.later lines k next end is (part-back (heap_after e front-log) (heap_after e (front-log ++ since)) k ((regions_at a).left (Some k)).end size next end (λ now-is. kinds-are.1) (same-lines e told.ideal front-log since is-log k kinds-are.0) has))));
      }

      pub lacks-own-earlier : (size : ℕ) → LacksOwn rules b size → LacksOwn rules a size
      lacks-own-earlier size lacks = record {
        blocks = λ no. own-earlier size (lacks.blocks no);
        later = λ lines.
            let there-lacks : Later g (front-log ++ since) (regions_at a) size = subst (λ (r : MutatorRegions). Later g (front-log ++ since) r size) regions (subst (λ (l : List LogEntry). Later g l (regions_at b) size) seen (subst (λ (h : EpochStart). Later h (known b).seen (regions_at b) size) start (lacks.later lines))) in
            λ k next end is has.
            let kinds-are = hole-kinds k lines is in
            there-lacks k next end is (part-back (heap_after e (front-log ++ since)) (heap_after e front-log) k ((regions_at a).left (Some k)).end size next end (λ was-is. kinds-are.2) (λ line few. sym (same-lines e told.ideal front-log since is-log k kinds-are.0 line few)) has);
      }

-- what lacks of own blocks, of blocks that nobody owns, and of regions come to
module _ (rules : Rules) (seat : MutatorSeat) (size : ℕ) (rooms : HasRooms rules seat) (full : LacksRegionRoom rules seat size) (own : LacksOwn rules seat size) where
  module _ (unowned : (k : ℕ) → k < (epoch_of_seat rules seat).before.blocks → owner_at (heap_seen_by rules seat) k ≡ 0 → (at : ℕ) → HasHole rules.fill (heap_seen_by rules seat) k at size → ⊥) where
    lacks-block : (k : ℕ) → k < (epoch_of_seat rules seat).before.blocks → LacksBlock rules.fill (regions_at seat) (heap_seen_by rules seat) (local_of seat).number size k
    lacks-block k there = record {
      unowned = λ nobody. unowned k there nobody;
      own = λ no mine. own.blocks no k there mine;
      lines = λ lines. record {
        region = λ is room. (full lines).hole (subst (λ (o : Option ℕ). RegionHasRoom ((regions_at seat).left o) size) (sym is) room);
        later = λ is next end. own.later lines k next end is;
        over = λ is above room. (full lines).over (record { above = above; full = (full lines).hole }) (subst (λ (o : Option ℕ). RegionHasRoom ((regions_at seat).left o) size) (sym is) room);
      };
    }

  class-there : (k : ℕ) → (regions_at seat).blocks (class_for rules.fill size) ≡ Some k → k < (epoch_of_seat rules seat).before.blocks
  class-there k is = (rooms.each (class_for rules.fill size) k (block-read seat.notes.local.blocks (class_for rules.fill size) k is)).room.there

  pub no-room : LacksUnowned rules seat size → HasNoRoom rules seat size
  no-room unowned = record {
    regions = record { own = λ no k is. lacks-block unowned.each k (class-there k is); lines = full };
    blocks = lacks-block unowned.each;
  }

  -- the block for the size's class is the mutator's own
  pub tried-full : KnowsLog (epoch_of_seat rules seat) (known seat) → LacksTriedRegions rules seat size
  tried-full told = record {
    own = λ no k is.
        let a = rooms.each (class_for rules.fill size) k (block-read seat.notes.local.blocks (class_for rules.fill size) k is) in
        let o : OwnedBlock = record { block = k; class = class_for rules.fill size } in
        let by = ((moments.epoch (epoch_of_seat rules seat) told.ideal (known seat).seen told.epoch).knows (local_of seat).number).owned o (subst (λ (l : Local). Contains l.owned o) told.now a.room.mine) in
        let owner = owned-owner (epoch_of_seat rules seat) (heap_seen_by rules seat) (local_after_log (epoch_of_seat rules seat) (known seat).seen (local_of seat).number).number o by in
        record {
          unowned = λ nobody. absurd (let some = by.somebody in omega (arith, owner, nobody, some));
          own = λ no-lines mine. own.blocks no-lines k a.room.there mine;
          lines = λ lines. absurd (no lines);
        };
    lines = full;
  }

pub own-lacks : (rules : Rules) (seat : MutatorSeat) (size : ℕ) → HasRooms rules seat → HasNoRoom rules seat size → LacksOwn rules seat size
own-lacks rules seat size rooms none = record {
  blocks = λ no k there mine. (none.blocks k there).own no mine;
  later = λ lines k next end is. ((none.blocks k (rooms.each 0 k (block-read seat.notes.local.blocks 0 k is)).room.there).lines lines).later is next end;
}

pub unowned-lacks : (rules : Rules) (seat : MutatorSeat) (size : ℕ) → HasNoRoom rules seat size → LacksUnowned rules seat size
unowned-lacks rules seat size none = record { each = λ k there nobody. (none.blocks k there).unowned nobody }

-- a mutator that lacks room lacks it still after steps that leave it its blocks, objects and regions
module _ (rules : Rules) (a b : MutatorSeat) (start : (known b).start ≡ (known a).start) (number : (local_of b).number ≡ (local_of a).number) (prefix : IsPrefix (known a).seen (known b).seen) (told-a : KnowsLog (epoch_of_seat rules a) (known a)) (told-b : KnowsLog (epoch_of_seat rules b) (known b))
    (owned : (local_of b).owned ≡ (local_of a).owned) (made : (local_of b).made ≡ (local_of a).made) (rooms-a : HasRooms rules a) (rooms-b : HasRooms rules b) (regions : regions_at b ≡ regions_at a) where
  full-later : (size : ℕ) → LacksRegionRoom rules a size → LacksRegionRoom rules b size
  full-later size full lines = subst (λ (r : MutatorRegions). LacksRoom (cursors_of r) size) (sym regions) (full lines)

  pub no-room-later : (size : ℕ) → HasNoRoom rules a size → HasNoRoom rules b size
  no-room-later size none = no-room rules b size rooms-b (full-later size none.regions.lines)
      (lacks-own-later rules a b start number prefix told-a told-b owned made rooms-a regions size (own-lacks rules a size rooms-a none))
      (unowned-later rules a b start number prefix told-a told-b size (unowned-lacks rules a size none))

  pub cause-later : (local_of b).ticket ≡ (local_of a).ticket → (size : ℕ) (cause : NeedCause) → IsCauseFor rules a size cause → IsCauseFor rules b size cause
  cause-later ticket size Large is = is
  cause-later ticket size (Budget t) is = (is.0, ticket ∙ is.1, subst (λ (h : EpochStart). allowance (epoch_with rules h) ≤ t) (sym start) is.2, no-room-later size is.3)
