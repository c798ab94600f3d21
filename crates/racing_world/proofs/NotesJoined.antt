-- What is known of the blocks as an epoch ends is right.
use Rattle.std.proofs.Common.{◌≡◌, ◌≢◌, ◌∙◌, refl, sym, ap, subst, ℕ, ◌+◌, ◌-◌, ◌%◌, ◌<◌, ◌≤◌, ◌⊎◌, inl, inr, arith, List, [], ◌∷◌, suc, Vec, length, map, ◌||◌, ◌&&◌, false}
use Rattle.std.specs.Prelude.{Some, slice_get, count_by, sum_by, nat_lt, nat_eq, vec_capacity}
use Rattle.std.specs.declared.alloc.Global.{Global}
use Rattle.std.specs.List.{All, range_with_len}
use Rattle.std.proofs.lemmas.List.Elements.{All-weaker}
use Rattle.std.proofs.lemmas.List.{length-map}
use Rattle.std.proofs.Math.Path.{fun_ext}
use Rattle.std.proofs.lemmas.Bool.{cases_lt, le-ltb, false_from_ne_true}
use Rattle.std.proofs.lemmas.List.Sums.{sum_by-cons}
use Rattle.heap_layout.specs.Blocks.{kind_code}
use Rattle.heap_layout.specs.Zones.{row_words}
use Rattle.heap_layout.specs.declared.block.Kind.{Kind}
use Rattle.heap_layout.specs.declared.block.Kind.TheVariants as kinds
use Rattle.heap_layout.specs.declared.region.Region.{Region}
use Rattle.ideal_heap.specs.Ideal.{IdealHeap}
use Rattle.ideal_heap.specs.Runs.{Entry}
use Rattle.object_model.specs.Objects.{HeapState, block_word, has_kind, owner_at, word_at}
use Rattle.object_model.specs.Graphs.{MutatorState, Represents, numbers_of}
use Rattle.object_model.proofs.OneKind.{one-kind}
use Rattle.sessions.specs.Fitting.{HasHole, counts_of, free_of, large_of}
use Rattle.sessions.specs.Grants.{BlockCounts, counts_with}
use Rattle.sessions.specs.Plans.{Rules}
use Rattle.sessions.specs.Sessions.{Stopped}
use Rattle.block_regions.specs.declared.block_notes.BlockNote.{BlockNote}
use Rattle.block_regions.specs.declared.block_notes.BlockNote.TheVariants.{Unowned, Owned}
use Rattle.plan_api.specs.Counting.{session_counts}
use Rattle.block_regions.specs.declared.block_notes.BlockNotes.{BlockNotes}
use Rattle.block_regions.specs.Notes.{AreNotes, AreUnowned, FillsHoles, FillsTailsOrCells, HasNotes, IsBlockNote, IsLeastLeft, IsUnownedNote}
use Rattle.block_regions.proofs.Lists.{get-some, get-below}
use Rattle.block_regions.proofs.NoteLemmas.{small-hole}
use Rattle.block_regions.proofs.PlacedNotes.{filled-code}
use Rattle.block_regions.proofs.Regions.{fills-cases, no-lines}
use Rattle.mutator_core.specs.Machine.{Epoch}
use Rattle.mutator_core.specs.Guards.{allowance}
use Rattle.mutator_core.specs.Tickets.{smaller, tickets_below}
use Rattle.mutator_core.proofs.Sums.{free-most}
use Rattle.mutator_rule.specs.declared.racing_row.RacingRow.{RacingRow}
use Rattle.mutator_rule.specs.declared.seat.MutatorSeat.{MutatorSeat}
use Rattle.mutator_rule.specs.declared.views.EpochStart.{EpochStart}
use Rattle.mutator_rule.specs.Views.{epoch_with}
use Rattle.mutator_rule.specs.Seats.{epoch_of_seat, local_of, start_of}
use Rattle.racing_rooms.specs.Rooms.{heap_seen_by}
use Rattle.racing_mutator.specs.RacingSeats.{MayCall}
use Rattle.racing_world.specs.Calls.{number_of}
use Rattle.racing_world.specs.Closing.{EndsEpoch, IsSeatAt}
use Rattle.racing_world.proofs.Begun.{all-at-place}
use Rattle.racing_world.proofs.Closed.{first-seat}
use Rattle.racing_world.specs.ClosingNotes.{HasNoteOf, HasRegions, TookBlock, NoneTook, LeavesRoom, IsLeastOf, taken, untaken, JoinsNotes}

-- what a seat notes of a block that is not its own
abbrev pub NotesLacks : Rules → Epoch → MutatorSeat → Type 0
NotesLacks rules p seat = (k least : ℕ) → HasNoteOf seat k (Unowned least) → (0 < owner_at (heap_seen_by rules seat) k)
    ⊎ ((at size : ℕ) → least ≤ size → HasHole rules.fill p.before k at size → ⊥)

module _ (rules : Rules) (fills : FillsHoles rules.fill) (p : Epoch) (seats : List MutatorSeat) (new : HeapState) (room : LeavesRoom rules p seats new) (size_same : new.blocks ≡ p.before.blocks)
    (unowned : (k : ℕ) → k < new.blocks → owner_at new k ≡ 0) (noted : (place : ℕ) (seat : MutatorSeat) → IsSeatAt seats place seat → NotesLacks rules p seat) where
  -- no hole is larger than what a region has left
  left-right : (k least : ℕ) (region : Region) → TookBlock seats k region → IsLeastLeft rules.fill region least → (at size : ℕ) → least ≤ size → HasHole rules.fill new k at size → ⊥
  left-right k least region took left at size more hole = elim (fills-cases rules.fill fills) as (λ _. ⊥) [
    | inr immix ↦ small-hole rules.fill new k at size (let e : least ≡ 4097 = left.lines immix in omega arith) hole
    | inl plain ↦ (
        let none : rules.fill ≡ kinds.Immix → ⊥ = λ immix. no-lines (subst FillsTailsOrCells immix plain) in
        let e : least ≡ region.end - region.next + 1 = left.left none in
        let inside : region.next + size ≤ region.end = room.left k region took none at size (omega arith) hole in
        omega arith)
  ]

  -- no block that none took has a hole of the least that was noted
  lacks-right : (k known least place : ℕ) (seat : MutatorSeat) → k < p.before.blocks → NoneTook seats k → IsSeatAt seats place seat → HasNoteOf seat k (Unowned least)
      → (at size : ℕ) → least ≤ size → HasHole rules.fill p.before k at size → ⊥
  lacks-right k known least place seat there none at-place note at size more hole = elim (noted place seat at-place k least note) as (λ _. ⊥) [
    | inl owner ↦ (let took = room.owned k place seat at-place there owner in none took.0 took.1)
    | inr lacks ↦ lacks at size more hole
  ]

  least-right : (k known least : ℕ) → k < p.before.blocks → IsUnownedNote rules.fill p.before k known → IsLeastOf rules.fill seats k known least → IsUnownedNote rules.fill new k least
  least-right k known least there before (taken region took left) = record {
    owner = unowned k (subst (λ (b : ℕ). k < b) (sym size_same) there);
    none = left-right k least region took left;
  }
  least-right k known least there before (untaken none most each from) = record {
    owner = unowned k (subst (λ (b : ℕ). k < b) (sym size_same) there);
    none = λ at size more hole.
        let was : HasHole rules.fill p.before k at size = room.untaken k at size there none hole in
        elim from as (λ _. ⊥) [
          | inl same ↦ before.none at size (omega arith) was
          | inr by ↦ lacks-right k known least by.0 by.1 there none by.2 by.3 at size more was
        ];
  }

  module _ (notes later : List BlockNote) (has : HasNotes rules.fill p.before notes) (nobody : AreUnowned notes) (joins : JoinsNotes rules.fill seats notes later) where
    joined : (k : ℕ) (note old : BlockNote) → k < p.before.blocks → slice_get later k ≡ Some note → slice_get notes k ≡ Some old → IsBlockNote rules.fill new k note
    joined k note (Owned owner region) there read was = absurd (nobody k owner region was)
    joined k note (Unowned known) there read was =
        let is = joins.each k known was in
        let same : Unowned is.0 ≡ note = (let e : Some (Unowned is.0) ≡ Some note = sym is.1 ∙ read in cc) in
        subst (IsBlockNote rules.fill new k) same (least-right k known is.0 there (has.each k (Unowned known) was) is.2)

    pub notes-joined : HasNotes rules.fill new later
    notes-joined = record {
      len = joins.len ∙ has.len ∙ sym size_same;
      each = λ k note read.
          let below : k < length later = get-below later k note read in
          let l : length later ≡ length notes = joins.len in
          let n : length notes ≡ p.before.blocks = has.len in
          let old = get-some notes k (omega arith) in
          joined k note old.0 (omega arith) read old.1;
    }

-- the large blocks stay
pub large-same : (rules : Rules) → FillsHoles rules.fill → (ns : List ℕ) (old : HeapState) (i : IdealHeap) (part : List Entry) (new : HeapState) (ms : List MutatorState)
    → Stopped rules ns old i part new ms → large_of new ≡ large_of old
large-same rules fills ns old i part new ms stopped =
    ap (λ n. count_by (λ k. has_kind new k kinds.LargeHead || has_kind new k kinds.LargeTail) (range_with_len 0 n)) stopped.blocks
    ∙ ap (λ f. count_by f (range_with_len 0 old.blocks)) (fun_ext (λ k.
    ap (λ b. b || has_kind new k kinds.LargeTail) (same k kinds.LargeHead (omega arith) (omega arith))
    ∙ ap (λ b. has_kind old k kinds.LargeHead || b) (same k kinds.LargeTail (omega arith) (omega arith))))
  where
    -- a kind that is neither Free nor one that mutators fill
    same : (k : ℕ) (kind : Kind) → kind_code kind ≢ 0 → 5 < kind_code kind → has_kind new k kind ≡ has_kind old k kind
    same k kind some other = elim (cases_lt k old.blocks) as (λ _. has_kind new k kind ≡ has_kind old k kind) [
      | inr past ↦ (let none : nat_lt k old.blocks ≡ false = le-ltb k old.blocks past in
          ap (λ n. nat_lt k n && nat_eq (block_word new k % 256) (kind_code kind)) stopped.blocks
          ∙ ap (λ b. b && nat_eq (block_word new k % 256) (kind_code kind)) none ∙ ap (λ b. b && nat_eq (block_word old k % 256) (kind_code kind)) (sym none))
      | inl there ↦ elim (stopped.in_block k there) as (λ _. has_kind new k kind ≡ has_kind old k kind) [
        | inr word ↦ ap (λ n. nat_lt k n && nat_eq (block_word new k % 256) (kind_code kind)) stopped.blocks
            ∙ ap (λ v. nat_lt k old.blocks && nat_eq (v % 256) (kind_code kind)) word
        | inl filled ↦ (
            let fill : kind_code rules.fill ≤ 5 = (filled-code rules.fill fills).1 in
            false_from_ne_true (has_kind new k kind) (λ is. let e : kind_code kind ≡ kind_code rules.fill = one-kind new k kind rules.fill is filled.1 in omega arith)
            ∙ sym (false_from_ne_true (has_kind old k kind) (λ is. some (one-kind old k kind kinds.Free is filled.0))))
      ]
    ]

-- tickets are noted as they are
pub tickets-noted : (most : ℕ) (seats : List MutatorSeat) → ((k : ℕ) (seat : MutatorSeat) → IsSeatAt seats k seat → seat.notes.local.ticket ≡ (local_of seat).ticket)
    → sum_by (λ (seat : MutatorSeat). tickets_below most seat.notes.local.ticket) seats ≡ sum_by (λ (seat : MutatorSeat). tickets_below most (local_of seat).ticket) seats
tickets-noted most [] each = refl
tickets-noted most (x ∷ xs) each =
    let here : tickets_below most x.notes.local.ticket ≡ tickets_below most (local_of x).ticket = ap (tickets_below most) (each 0 x refl) in
    let rest = tickets-noted most xs (λ k seat e. each (suc k) seat e) in
    omega (arith, here, rest, sum_by-cons (λ (seat : MutatorSeat). tickets_below most seat.notes.local.ticket) x xs, sum_by-cons (λ (seat : MutatorSeat). tickets_below most (local_of seat).ticket) x xs)

-- the seats of a world, and the heap that it hands back
module _ {P : Type 0} (rules : Rules) (fills : FillsHoles rules.fill) (row : RacingRow P) (seats : List MutatorSeat) (calls : All (MayCall rules row) seats) (many : 0 < length seats)
    (new : HeapState) (ms : List MutatorState) (ends : EndsEpoch rules (epoch_with rules (start_of row)) seats new ms) (room : LeavesRoom rules (epoch_with rules (start_of row)) seats new) where
  abbrev p : Epoch
  p = epoch_with rules (start_of row)

  may : (k : ℕ) (seat : MutatorSeat) → IsSeatAt seats k seat → MayCall rules row seat
  may k seat at = all-at-place (MayCall rules row) seats k seat calls at

  some-ideal : (i : IdealHeap) × Represents p.before p.mutators i
  some-ideal =
      let f = first-seat seats many in
      let own = (may 0 f.0 f.1).0.own in
      (own.2.ideal, subst (λ (h : EpochStart). Represents (epoch_with rules h).before (epoch_with rules h).mutators own.2.ideal) own.1 own.2.epoch.represents)

  stopped : Stopped rules (numbers_of p.mutators) p.before some-ideal.0 ends.history new ms
  stopped = ends.stopped some-ideal.0 some-ideal.1

  noted : (place : ℕ) (seat : MutatorSeat) → IsSeatAt seats place seat → NotesLacks rules p seat
  noted place seat at k least note =
      let is = may place seat at in
      subst (λ (h : EpochStart). (0 < owner_at (heap_seen_by rules seat) k) ⊎ ((at size : ℕ) → least ≤ size → HasHole rules.fill (epoch_with rules h).before k at size → ⊥)) is.0.own.1 (is.3.unowned k least note)

  pub notes-after : (notes later : List BlockNote) → HasNotes rules.fill p.before notes → AreUnowned notes → JoinsNotes rules.fill seats notes later → HasNotes rules.fill new later
  notes-after notes later has nobody joins = notes-joined rules fills p seats new room ends.size (λ k there. (stopped.lawful.but_lines.blocks k there).owner) noted notes later has nobody joins

  -- the tickets drawn, but for the unused ones, are the Free blocks taken
  pub free-after : (unused drawn allowed : ℕ) → allowed ≡ allowance p → unused ≡ sum_by (λ (seat : MutatorSeat). tickets_below allowed seat.notes.local.ticket) seats → drawn ≡ smaller (word_at new 1) allowed
      → free_of p.before + unused ≡ free_of new + drawn
  free-after unused drawn allowed known is below =
      let same = tickets-noted (allowance p) seats (λ k seat at. (may k seat at).3.ticket) in
      let counted = ends.counted in
      let unused-is : unused ≡ sum_by (λ (seat : MutatorSeat). tickets_below (allowance p) seat.notes.local.ticket) seats = is ∙ ap (λ n. sum_by (λ (seat : MutatorSeat). tickets_below n seat.notes.local.ticket) seats) known in
      let drawn-is : drawn ≡ smaller ends.budget (allowance p) = below ∙ ap (smaller (word_at new 1)) known ∙ ap (λ n. smaller n (allowance p)) ends.budget_word in
      omega (arith, unused-is, same, counted, drawn-is)

  pub few-blocks : p.before.blocks ≤ 1024
  few-blocks = let most : new.blocks ≤ 1024 = stopped.lawful.but_lines.order.row.most in let e = ends.size in omega arith

  pub few-free : free_of p.before ≤ 1024
  few-free = let most = free-most p.before in let few = few-blocks in omega arith

  -- the budget word is in the row
  pub budget-there : 1 < length new.words
  budget-there = let many : length new.words ≡ row_words new.blocks = stopped.lawful.but_lines.order.row.extent in omega arith

  pub counts-after : (c : BlockCounts) (free : ℕ) → c ≡ counts_of p.before → free ≡ free_of new → counts_with c.blocks free c.large ≡ counts_of new
  counts-after c free are left =
      let blocks : c.blocks ≡ new.blocks = ap (λ (b : BlockCounts). b.blocks) are ∙ sym ends.size in
      let large : c.large ≡ large_of new = ap (λ (b : BlockCounts). b.large) are ∙ sym (large-same rules fills (numbers_of p.mutators) p.before some-ideal.0 ends.history new ms stopped) in
      ap (λ n. counts_with n free c.large) blocks ∙ ap (λ n. counts_with new.blocks n c.large) left ∙ ap (counts_with new.blocks (free_of new)) large

  pub are-notes : (old n : BlockNotes) (later : List BlockNote) → AreNotes rules.fill p.before old → JoinsNotes rules.fill seats old.notes.items later → (AreUnowned old.notes.items → AreUnowned later)
      → (free : ℕ) → session_counts n.counts ≡ counts_with old.counts.blocks free old.counts.large → free ≡ free_of new → n.notes.items ≡ later → n.owned ≡ old.owned → AreNotes rules.fill new n
  are-notes old n later are joins none free counts left notes owned = record {
    counts = counts ∙ counts-after (session_counts old.counts) free are.counts left;
    notes = subst (HasNotes rules.fill new) (sym notes) (notes-after old.notes.items later are.notes are.unowned joins);
    unowned = subst AreUnowned (sym notes) (none are.unowned);
    owned = ap (λ (v : Vec ℕ Global). v.items) owned ∙ are.owned;
    room = subst (λ (v : Vec ℕ Global). new.blocks ≤ vec_capacity v) (sym owned) (subst (λ (b : ℕ). b ≤ vec_capacity old.owned) (sym ends.size) are.room);
  }

-- before the end
module _ {P : Type 0} (rules : Rules) (row : RacingRow P) (seats : List MutatorSeat) (calls : All (MayCall rules row) seats) where
  abbrev q : Epoch
  q = epoch_with rules (start_of row)

  -- each seat's regions are regions of a block
  pub has-regions : (k : ℕ) → k < q.before.blocks → All (HasRegions k) seats
  has-regions k there = All-weaker (MayCall rules row) (HasRegions k) (λ (seat : MutatorSeat) is.
      let same : (epoch_of_seat rules seat).before.blocks ≡ q.before.blocks = ap (λ (h : EpochStart). h.blocks) is.0.own.1 in
      let len : length seat.notes.blocks.items ≡ (epoch_of_seat rules seat).before.blocks = is.3.len in record {
        note = omega arith;
        region = λ owner region note. let own = is.3.owned k owner region note in (own.1.order, own.1.inside);
      }) seats calls

  -- there are at most sixteen
  pub few-seats : 0 < length seats → map number_of seats ≡ numbers_of q.mutators → length seats ≤ 16
  few-seats many listed =
      let f = first-seat seats many in
      let own = (all-at-place (MayCall rules row) seats 0 f.0 calls f.1).0.own in
      let few : length (epoch_of_seat rules f.0).mutators ≤ 16 = own.2.epoch.ready.few in
      let start : length (epoch_of_seat rules f.0).mutators ≡ length q.mutators = ap (λ (h : EpochStart). length (epoch_with rules h).mutators) own.1 in
      let numbers : length (numbers_of q.mutators) ≡ length q.mutators = length-map q.mutators (λ m. m.number) in
      let seats-many : length (map number_of seats) ≡ length seats = length-map seats number_of in
      let same : length (map number_of seats) ≡ length (numbers_of q.mutators) = ap length listed in
      omega arith
