-- What a mutator that takes a block has and does.
use Rattle.std.proofs.Common.{◌≡◌, ◌≢◌, refl, sym, ◌∙◌, ap, subst, ℕ, ◌+◌, ◌/◌, ◌%◌, ◌<◌, ◌≤◌, ◌⊎◌, inl, inr, arith, add-zero, Bool, true, false, ◌&&◌, ◌||◌, not, IsTrue, eq-eqb, ne_eqb, List, [], ◌∷◌, ◌++◌, length}
use Rattle.std.specs.Prelude.{◌↔◌, Option, Some, None, slice_get, slice_set, unwrap_or}
use Rattle.std.proofs.lemmas.Bool.{cases_eq, and_parts}
use Rattle.std.proofs.lemmas.List.{get_or-set_other}
use Rattle.heap_layout.specs.Zones.{BlockWords, first}
use Rattle.heap_layout.specs.Blocks.{kind_code, code_of, is_block_code, IsValidWord}
use Rattle.heap_layout.proofs.BlockLemmas.{code_parts, kind_code_most}
use Rattle.sessions.specs.Sessions.{block_of_kind}
use Rattle.heap_layout.specs.declared.block.Kind.{Kind}
use Rattle.heap_layout.specs.declared.block.Kind.TheVariants as kinds
use Rattle.heap_layout.specs.declared.region.Region.{Region}
use Rattle.ideal_heap.specs.Ideal.{IdealHeap}
use Rattle.object_model.specs.Objects.{HeapState, state_of, with_words, word_at, block_word, has_kind, HasKind, class_at, owner_at, is_unlogged, line_marked}
use Rattle.object_model.specs.Lawful.{IsClear, LineBitsAreExact}
use Rattle.mutator_core.proofs.Regions.{unowned-lines}
use Rattle.object_model.proofs.Blocks as blocks
use Rattle.sessions.specs.Fitting.{HasHole, class_for}
use Rattle.plan_api.specs.Holes.{IsFirstHole}
use Rattle.plan_api.proofs.Parts.{part-kind}
use Rattle.block_regions.specs.Regions.{IsRegionIn, first_region}
use Rattle.block_regions.proofs.Regions.{hole-region, part-class, fills-cases}
use Rattle.local_allocators.proofs.LineLacks.{lines-lack-still, same-shrinks}
use Rattle.block_regions.proofs.RegionFrames.{region-as}
use Rattle.mutator_core.specs.declared.state.LogEntry.{LogEntry}
use Rattle.mutator_core.specs.declared.state.Event.TheVariants as e
use Rattle.mutator_core.specs.Machine.{Epoch}
use Rattle.mutator_core.specs.Logs.{machine_after}
use Rattle.mutator_core.proofs.Fills.{fill-not-free}
use Rattle.mutator_core.proofs.Lists.{contains-cases, contains-none}
use Rattle.mutator_calls.specs.Effects as effects
use Rattle.mutator_calls.specs.Effects.{Effect, nothing, grants}
use Rattle.mutator_calls.specs.Allocating.{Books}
use Rattle.plain_row.specs.declared.plain_row.PlainRow.{PlainRow}
use Rattle.local_allocators.specs.declared.local_seat.LocalSeat.{LocalSeat}
use Rattle.block_regions.specs.declared.block_notes.BlockNote.TheVariants.{Unowned, Owned}
use Rattle.plain_row.specs.Rows.{IsTurn, mutator_number, births_of, number_at_turn, mutator_at_turn, seat_at_turn, regions_at_turn}
use Rattle.local_allocators.specs.Seats.{ticket_of, blocks_of, block_of, over_of}
use Rattle.block_regions.specs.Notes.{FillsHoles, IsRegionOf}
use Rattle.local_allocators.specs.MutatorRegions.{FillsLines, cursors_of, GoesOver, IsBlockFor, KeepsClass, KeepsRegions, OffersRoom}
use Rattle.local_allocators.specs.NotedRegions.{region_of, region_noted, regions_of}
use Rattle.plan_api.specs.Cursors.{RegionHasRoom}
use Rattle.plain_row.specs.Changes.{OwnsBlock, KeepsPlan, seat_with}
use Rattle.plain_row.specs.Worlds.{IsAt, IsInSomeEpoch, MayCall, RegionHasRoomFor, Goes, is_in_list, births_in}
use Rattle.plain_row.specs.Steps.{AllocatesIn, Lacks, IsUsed, IsOverflow, KeepsRegion, KeepsRest, IsRegion, Offers, LeavesClass, books_of}
use Rattle.std.proofs.lemmas.List.{append-nil}
use Rattle.plain_row.proofs.ForeignBlocks.{KeepsForeign, foreign-but}
use Rattle.block_regions.proofs.Elements.{set-here, set-other, changes-cases}
use Rattle.block_regions.proofs.Lists.{one-element}
use Rattle.plain_row.proofs.LogStep as stepping
use Rattle.plain_row.proofs.EpochFacts as facts
use Rattle.block_regions.proofs.FilledKinds as filled_kinds
use Rattle.plain_row.proofs.Turns as turns
use Rattle.plain_row.proofs.TicketDrawn.{lacks-after}
use Rattle.plain_row.proofs.BlocksOwned as taking
use Rattle.plain_row.proofs.BlocksOwned.{Gains, ticket_left, unowned-code}
use Rattle.plain_row.proofs.RoomOffered.{still-over, still-overflows}
use Rattle.block_regions.proofs.FilledKinds.{valid-parts}
use Rattle.sessions.specs.Plans.{has_holes}

and-true : (b : Bool) → b ≡ (b && not false)
and-true true = refl
and-true false = refl

and-false : (b : Bool) → false ≡ (b && not true)
and-false true = refl
and-false false = refl

not-true : (b : Bool) → (b ≡ true → ⊥) → b ≡ false
not-true true never = absurd (never refl)
not-true false never = refl

has-not : (k block : ℕ) → k ≢ block → is_in_list (block ∷ []) k ≡ false
has-not k block other = ap (λ (b : Bool). b || false) (ne_eqb k block other)

has-it : (k block : ℕ) → k ≡ block → is_in_list (block ∷ []) k ≡ true
has-it k block same = ap (λ (b : Bool). b || false) (eq-eqb k block same)

-- whose turn it is stays
pub number-kept : (a b : PlainRow) → KeepsPlan a b → b.mutators ≡ a.mutators → number_at_turn b ≡ number_at_turn a
number-kept a b plan same = ap (λ y. mutator_number (slice_get y.items b.turn)) same ∙ ap (λ n. mutator_number (slice_get a.mutators.items n)) plan.turn

pub births-kept : (a b : PlainRow) → KeepsPlan a b → b.mutators ≡ a.mutators → births_of (mutator_at_turn b) ≡ births_of (mutator_at_turn a)
births-kept a b plan same = ap (λ y. births_of (slice_get y.items b.turn)) same ∙ ap (λ n. births_of (slice_get a.mutators.items n)) plan.turn

pub turn-kept : (a b : PlainRow) → IsTurn a → KeepsPlan a b → b.mutators ≡ a.mutators → length b.seats.items ≡ length a.seats.items → IsTurn b
turn-kept a b turn plan same seats = record {
  turn = subst (λ y. b.turn < length y.items) (sym same) (subst (λ n. n < length a.mutators.items) (sym plan.turn) turn.turn);
  seats = seats ∙ turn.seats ∙ ap (λ y. length y.items) (sym same);
}

-- steps that change neither a word of the row nor a mutator; maybe a region of the mutator whose turn it is
pub still-goes : (a b : PlainRow) → KeepsPlan a b → b.mutators ≡ a.mutators → b.row ≡ a.row → ticket_of (seat_at_turn b) ≡ ticket_of (seat_at_turn a)
    → ((k : ℕ) → k ≢ a.turn → slice_get b.seats.items k ≡ slice_get a.seats.items k)
    → ((p : Epoch) (i : IdealHeap) (log : List LogEntry) → IsAt p i log a → IsAt p i log b) → (moved : Bool)
    → (moved ≡ false → KeepsRegions (regions_at_turn a) (regions_at_turn b)) → KeepsForeign a b → Goes a (record nothing { moved = moved }) b
still-goes a b plan mutators row ticket seats reach moved regions foreign = record {
  turn = plan.turn;
  number = number-kept a b plan mutators;
  steps = λ p i log at. record { more = []; own = tt; at = subst (λ l. IsAt p i l b) (sym (append-nil log)) (reach p i log at); entries = refl };
  logged = λ x. ap (λ r. is_unlogged (state_of r) x) row ∙ and-true (is_unlogged (state_of a.row) x);
  granted = λ k. ap (λ r. has_kind (state_of r) k kinds.Free) row ∙ and-true (has_kind (state_of a.row) k kinds.Free);
  free = λ k there. absurd (contains-none k there);
  size = ap (λ r. r.layout.blocks) row;
  fill = plan.fill;
  blocks = λ k below none. ap (λ r. block_word (state_of r) k) row;
  budget = ap (λ r. word_at (state_of r) 1) row ∙ sym (add-zero (word_at (state_of a.row) 1));
  stop = ap (λ r. word_at (state_of r) 0) row;
  births = births-kept a b plan mutators ∙ sym (add-zero (births_of (mutator_at_turn a)));
  ticket = λ none kept. ticket;
  regions = regions;
  others = λ k other. (ap (λ y. slice_get y.items k) mutators, seats k other);
  foreign = foreign;
}

-- the word of a block that the mutator takes, and the heap with it
abbrev word-taken : PlainRow → ℕ → ℕ
word-taken a class = code_of (record { kind = a.fill; class = class; owner = number_at_turn a })

abbrev heap-taken : PlainRow → ℕ → ℕ → HeapState
heap-taken a block class = with_words (state_of a.row) (blocks.set_block (state_of a.row) block (word-taken a class))

-- the class for a size
abbrev pub class-in : PlainRow → ℕ → ℕ
class-in a size = class_for a.fill size

-- a seat that allocates objects of the class in the block
pub seat-has : (xs : List (Option ℕ)) (class block : ℕ) → class ≤ 18 → length xs ≡ 19 → unwrap_or (slice_get (slice_set xs class (Some block)) class) None ≡ Some block
seat-has xs class block few many = ap (λ o. unwrap_or o None) (set-here xs class (Some block) (omega arith))

-- the block that a seat has for class 0
set-in-seat : (x : LocalSeat) (k : ℕ) → block_of (Some x) 0 ≡ Some k → slice_get x.blocks 0 ≡ Some (Some k)
set-in-seat x k is = turns.set-in x.blocks 0 k is

module _ (a b : PlainRow) (ready : MayCall a) (block size : ℕ) (region : Region) (free : Bool) (gains : Gains a b block (class-in a size) region free) where
  abbrev class : ℕ
  class = class_for a.fill size

  abbrev s : HeapState
  s = state_of a.row

  abbrev v : ℕ
  v = code_of (record { kind = a.fill; class = class_for a.fill size; owner = number_at_turn a })

  pub number : number_at_turn b ≡ number_at_turn a
  number = number-kept a b gains.takes.plan gains.takes.mutators

  pub in-epoch : IsInSomeEpoch b
  in-epoch = let now = ready.between_calls.some in record {
    epoch = now.epoch;
    ideal = now.ideal;
    log = now.log ++ stepping.entry-for now.epoch now.ideal now.log a now.at ready.turn (e.TakeBlock block class free) ∷ [];
    at = taking.at-taken now.epoch now.ideal now.log a b now.at ready.turn block class region free gains;
  }

  abbrev old : Option LocalSeat
  old = seat_at_turn a

  abbrev left : Option ℕ
  left = ticket_left free (ticket_of (seat_at_turn a))

  pub seat-now : seat_at_turn b ≡ Some (seat_with gains.over old class block left)
  seat-now = ap (λ n. slice_get b.seats.items n) gains.takes.plan.turn ∙ gains.takes.seats.here

  region-here : region_of b.notes.items (Some block) ≡ region
  region-here = ap region_noted gains.takes.notes.here

  -- the region of another block stays, so does that of a block of the mutator
  region-other : (k : ℕ) → k ≢ block → region_of b.notes.items (Some k) ≡ region_of a.notes.items (Some k)
  region-other k other = ap region_noted (gains.takes.notes.others k other)

  own-other : (k : ℕ) → IsRegionOf a.notes.items (number_at_turn a) k → k ≢ block
  own-other k mine same = gains.unowned (number_at_turn a) mine.region (ap (slice_get a.notes.items) (sym same) ∙ mine.note)

  hole-other : (k : ℕ) → block_of old 0 ≡ Some k → k ≢ block
  hole-other k is = let now = ready.between_calls.some in own-other k (turns.own-region now.epoch now.ideal now.log a now.at ready.turn 0 k is).0

  kept-region : (o : Option ℕ) → ((k : ℕ) → o ≡ Some k → k ≢ block) → region_of b.notes.items o ≡ region_of a.notes.items o
  kept-region None other = refl
  kept-region (Some k) other = region-other k (other k refl)

  -- in overflow allocation the hole region stays
  hole-kept : gains.over ≡ true → KeepsRegion a b
  hole-kept is =
      let same : block_of (seat_at_turn b) 0 ≡ block_of old 0 = ap (λ o. block_of o 0) seat-now ∙ ap (λ o. block_of (Some (seat_with o old class block left)) 0) is in
      record { block = same; region = ap (region_of b.notes.items) same ∙ kept-region (block_of old 0) hole-other }

  -- else the region for the class is in the block, and takes the size if it has room
  here-now : gains.over ≡ false → block_of (seat_at_turn b) class ≡ Some block
  here-now is =
      let now = ready.between_calls.some in
      ap (λ o. block_of o class) seat-now ∙ ap (λ o. block_of (Some (seat_with o old class block left)) class) is
      ∙ seat-has (blocks_of old) class block (filled_kinds.class-few a.fill size) (turns.own-classes now.epoch now.ideal now.log a now.at ready.turn)

  class-now : gains.over ≡ false → block_of (seat_at_turn b) (class_for b.fill size) ≡ Some block
  class-now is = ap (λ (f : Kind). block_of (seat_at_turn b) (class_for f size)) gains.takes.plan.fill ∙ here-now is

  not-over : gains.over ≡ false → region.next + size ≤ region.end → GoesOver b.fill (regions_at_turn b) size → ⊥
  not-over is fits over =
      let first : class ≡ 0 = ap (λ (f : Kind). class_for f size) (sym gains.takes.plan.fill ∙ over.lines) in
      let hole : (cursors_of (regions_at_turn b)).hole ≡ region
      = ap (region_of b.notes.items) (ap (block_of (seat_at_turn b)) (sym first) ∙ here-now is) ∙ region-here in
      over.tried.full (subst (λ (r : Region). RegionHasRoom r size) (sym hole) fits)

  -- the region that takes the size is in the block, which has room
  block-now : (over : Bool) → gains.over ≡ over → (IsTrue over → IsOverflow a size) → region.next + size ≤ region.end
      → IsBlockFor b.fill (regions_at_turn b) size block
  block-now false is overflow fits = inl (not-over is fits, class-now is)
  block-now true is overflow fits = inr (
    still-over a b gains.takes.plan.fill (hole-kept is) size (overflow refl).over,
    ap over_of seat-now ∙ ap (λ o. over_of (Some (seat_with o old class block left))) is,
  )

  region-now : (IsTrue gains.over → IsOverflow a size) → region.next + size ≤ region.end → IsRegion b size block region
  region-now overflow fits = record {
    current = block-now gains.over refl overflow fits;
    note = gains.takes.notes.here ∙ ap (λ n. Some (Owned n region)) (sym number);
  }

  room : (IsTrue gains.over → IsOverflow a size) → region.next + size ≤ region.end → RegionHasRoomFor b size
  room overflow fits = record {
    turn = turn-kept a b ready.turn gains.takes.plan gains.takes.mutators gains.takes.seats.len;
    some = in-epoch;
    block = block;
    current = (region-now overflow fits).current;
    room = record {
      region = region;
      note = (region-now overflow fits).note;
      room = fits;
      others = λ k owner r is. elim (changes-cases a.notes.items b.notes.items block (Owned (number_at_turn a) region) gains.takes.notes k (Owned owner r) is) as (λ _. (k ≡ block) ⊎ (0 < r.next)) [
        | inl here ↦ inl here.0
        | inr other ↦ inr (ready.between_calls.filled k owner r other.1)
      ];
    };
  }

  own-class : (c k : ℕ) → block_of old c ≡ Some k → k ≢ block
  own-class c k is = let now = ready.between_calls.some in own-other k (turns.own-region now.epoch now.ideal now.log a now.at ready.turn c k is).0

  own-over : (k : ℕ) → over_of old ≡ Some k → k ≢ block
  own-over k is = let now = ready.between_calls.some in
      own-other k (turns.own-over now.epoch now.ideal now.log a now.at ready.turn k (turns.own-lined now.epoch now.ideal now.log a now.at ready.turn k is) is)

  class-kept : (c : ℕ) → block_of (seat_at_turn b) c ≡ block_of old c → KeepsClass c (regions_of a.notes.items old) (regions_at_turn b)
  class-kept c same = record { block = same; region = ap (region_of b.notes.items) same ∙ kept-region (block_of old c) (own-class c) }

  -- all regions but the one that takes the size stay
  rest-kept : (over : Bool) → gains.over ≡ over → (IsTrue over → IsOverflow a size) → region.next + size ≤ region.end → KeepsRest b size a b
  rest-kept false is overflow fits = record {
    classes = λ c other. class-kept c (ap (λ o. block_of o c) seat-now ∙ ap (λ o. block_of (Some (seat_with o old class block left)) c) is
        ∙ ap (λ o. unwrap_or o None) (set-other (blocks_of old) class (Some block) c
        (λ same. not-over is fits (other (same ∙ ap (λ (f : Kind). class_for f size) (sym gains.takes.plan.fill))))));
    over_stays = λ none. let same : over_of (seat_at_turn b) ≡ over_of old
        = ap over_of seat-now ∙ ap (λ o. over_of (Some (seat_with o old class block left))) is in
        record { block = same; region = ap (region_of b.notes.items) same ∙ kept-region (over_of old) own-over };
  }
  rest-kept true is overflow fits = record {
    classes = λ c other. class-kept c (ap (λ o. block_of o c) seat-now ∙ ap (λ o. block_of (Some (seat_with o old class block left)) c) is);
    over_stays = λ none. absurd (none (still-over a b gains.takes.plan.fill (hole-kept is) size (overflow refl).over));
  }

  -- of other blocks the mutator has at most those that it had
  hole-then : (k : ℕ) → k ≢ block → (over : Bool) → gains.over ≡ over → block_of (seat_at_turn b) 0 ≡ Some k → block_of old 0 ≡ Some k
  hole-then k other over is here =
      let now = ready.between_calls.some in
      let few : class < length (blocks_of old) = (let many : length (blocks_of old) ≡ 19 = turns.own-classes now.epoch now.ideal now.log a now.at ready.turn in
      let least : class ≤ 18 = filled_kinds.class-few a.fill size in omega arith) in
      elim (taking.seat-cases gains.over old class block left few 0 (Some k) (set-in-seat (seat_with gains.over old class block left) k (ap (λ o. block_of o 0) (sym seat-now) ∙ here))) as (λ _. block_of old 0 ≡ Some k) [
        | inl new ↦ absurd (other (one-element (Some block) k block (sym new.2) refl))
        | inr was ↦ ap (λ o. unwrap_or o None) was
      ]

  over-then : (k : ℕ) → k ≢ block → (over : Bool) → gains.over ≡ over → over_of (seat_at_turn b) ≡ Some k → over_of old ≡ Some k
  over-then k other over is here =
      elim (taking.over-cases gains.over old class block left k (ap over_of (sym seat-now) ∙ here)) as (λ _. over_of old ≡ Some k) [
        | inl new ↦ absurd (other new.1)
        | inr was ↦ was
      ]

  -- another block is as it was
  other-lacks : (n k : ℕ) → k ≢ block → Lacks a n k → Lacks b n k
  other-lacks n k other = lacks-after a b n k gains.takes.plan.fill number
      (λ there. ap (λ (t : HeapState). owner_at t k) gains.takes.words ∙ taking.owner-same s block v gains.there k other)
      (λ at n hole. taking.hole-before s block v gains.there k other a.fill ready.between_calls.some.at.fills at n (subst (λ (t : HeapState). HasHole a.fill t k at n) gains.takes.words hole))
      (λ lines. lines-lack-still (regions_of a.notes.items old) (regions_at_turn b) s (state_of b.row) n k
      (hole-then k other gains.over refl) (over-then k other gains.over refl)
      (same-shrinks (region_of a.notes.items (Some k)) (region_of b.notes.items (Some k)) (region-other k other))
      (λ kind. sym (taking.kind-same s block v gains.there k other kinds.Immix) ∙ subst (λ (t : HeapState). HasKind t k kinds.Immix) gains.takes.words kind)
      (λ here line few. ap (λ (t : HeapState). line_marked t k line) gains.takes.words ∙ blocks.lines-same s block v gains.there k line))

  unlogs : (x : ℕ) → is_unlogged (state_of b.row) x ≡ (is_unlogged s x && not false)
  unlogs x = ap (λ (t : HeapState). is_unlogged t x) gains.takes.words ∙ (blocks.same_heap s block v gains.there).unlogs x ∙ and-true (is_unlogged s x)

  now-filled : HasKind (state_of b.row) block a.fill
  now-filled = let now = ready.between_calls.some in subst (λ (t : HeapState). HasKind t block a.fill) (sym gains.takes.words) (taking.kind-now now.epoch now.ideal now.log a b now.at ready.turn block class region free gains)

  fills : IsTrue (has_holes a.fill)
  fills = subst (λ (k : Kind). IsTrue (has_holes k)) (sym ready.between_calls.some.at.fill) ready.between_calls.some.at.epoch.ready.fills

  not-free : has_kind (state_of b.row) block kinds.Free ≡ false
  not-free = not-true (has_kind (state_of b.row) block kinds.Free) (fill-not-free (state_of b.row) block a.fill fills now-filled)

  other-kind : (k : ℕ) → k ≢ block → has_kind (state_of b.row) k kinds.Free ≡ has_kind s k kinds.Free
  other-kind k other = ap (λ (t : HeapState). has_kind t k kinds.Free) gains.takes.words ∙ taking.kind-same s block v gains.there k other kinds.Free

  size-same : b.row.layout.blocks ≡ a.row.layout.blocks
  size-same = ap (λ (t : HeapState). t.blocks) gains.takes.words

  -- a word before the block words
  low-word : (n : ℕ) → n < 18 → word_at (state_of b.row) n ≡ word_at s n
  low-word n low = ap (λ (t : HeapState). word_at t n) gains.takes.words ∙ get_or-set_other s.words (first s.blocks BlockWords + block) n v 0 (λ same. omega arith)

  other-word : (k : ℕ) → is_in_list (block ∷ []) k ≡ false → block_word (state_of b.row) k ≡ block_word s k
  other-word k none = ap (λ (t : HeapState). block_word t k) gains.takes.words
      ∙ blocks.block-other s block v gains.there k (λ here. let wrong : true ≡ false = sym (has-it k block here) ∙ none in cc)

  budget : word_at (state_of b.row) 1 ≡ word_at s 1 + 0
  budget = low-word 1 (omega arith) ∙ sym (add-zero (word_at s 1))

  births : births_of (mutator_at_turn b) ≡ births_of (mutator_at_turn a) + 0
  births = births-kept a b gains.takes.plan gains.takes.mutators ∙ sym (add-zero (births_of (mutator_at_turn a)))

  others : (k : ℕ) → k ≢ a.turn → (slice_get b.mutators.items k ≡ slice_get a.mutators.items k) × (slice_get b.seats.items k ≡ slice_get a.seats.items k)
  others k other = (ap (λ y. slice_get y.items k) gains.takes.mutators, gains.takes.seats.others k other)

  foreign : KeepsForeign a b
  foreign = foreign-but a b block (Owned (number_at_turn a) region) gains.takes.notes (λ owner r other is. gains.unowned owner r is)

  -- a block that was Free
  goes-free : HasKind s block kinds.Free → Goes a (grants block) b
  goes-free is = record {
    turn = gains.takes.plan.turn;
    number = number;
    steps = λ p i log at. let c = taking.continues p i log a b at ready.turn block class region free gains in record { more = c.more; own = c.own; at = c.at; entries = c.entries };
    logged = unlogs;
    granted = λ k. elim (cases_eq k block) as (λ _. has_kind (state_of b.row) k kinds.Free ≡ (has_kind s k kinds.Free && not (is_in_list (block ∷ []) k))) [
      | inl here ↦ ap (λ q. has_kind (state_of b.row) q kinds.Free) here ∙ not-free ∙ and-false (has_kind s k kinds.Free) ∙ ap (λ t. has_kind s k kinds.Free && not t) (sym (has-it k block here))
      | inr other ↦ other-kind k other ∙ and-true (has_kind s k kinds.Free) ∙ ap (λ t. has_kind s k kinds.Free && not t) (sym (has-not k block other))
    ];
    free = λ k there. elim (contains-cases block [] k there) as (λ _. HasKind s k kinds.Free) [
      | inl here ↦ subst (λ (q : ℕ). HasKind s q kinds.Free) (sym here) is
      | inr none ↦ absurd (contains-none k none)
    ];
    size = size-same;
    blocks = λ k below none. other-word k none;
    budget = budget;
    stop = low-word 0 (omega arith);
    births = births;
    ticket = λ none kept. absurd (let wrong : 1 ≡ 0 = ap length kept in omega arith);
    fill = gains.takes.plan.fill;
    regions = λ still. absurd (let wrong : true ≡ false = still in cc);
    others = others;
    foreign = foreign;
  }

  -- a block of the kind that mutators fill
  goes-used : HasKind s block a.fill → free ≡ false → Goes a (effects.takes (block ∷ [])) b
  goes-used is used = record {
    turn = gains.takes.plan.turn;
    number = number;
    steps = λ p i log at. taking.continues p i log a b at ready.turn block class region free gains;
    logged = unlogs;
    granted = λ k. elim (cases_eq k block) as (λ _. has_kind (state_of b.row) k kinds.Free ≡ (has_kind s k kinds.Free && not false)) [
      | inl here ↦ ap (λ q. has_kind (state_of b.row) q kinds.Free) here ∙ not-free ∙ sym (not-true (has_kind s block kinds.Free) (fill-not-free s block a.fill fills is))
          ∙ ap (λ q. has_kind s q kinds.Free) (sym here) ∙ and-true (has_kind s k kinds.Free)
      | inr other ↦ other-kind k other ∙ and-true (has_kind s k kinds.Free)
    ];
    free = λ k there. absurd (contains-none k there);
    size = size-same;
    blocks = λ k below none. other-word k none;
    budget = budget;
    stop = low-word 0 (omega arith);
    births = births;
    ticket = λ none kept. ap ticket_of seat-now ∙ taking.seat-ticket gains.over old class block left ∙ ap (λ f. ticket_left f (ticket_of (seat_at_turn a))) used;
    fill = gains.takes.plan.fill;
    regions = λ still. absurd (let wrong : true ≡ false = still in cc);
    others = others;
    foreign = foreign;
  }

-- what was not Free is not
pub used-still : (a b : PlainRow) (x : Effect) → Goes a x b → (k : ℕ) → IsUsed a k → IsUsed b k
used-still a b x goes k used free = used (and_parts (has_kind (state_of a.row) k kinds.Free) (not (is_in_list x.granted k)) (sym (goes.granted k) ∙ free)).0

-- and what the mutator has for allocation stays, where no ticket is drawn, no block granted and no object made
abbrev books : ℕ → ℕ → ℕ → Option ℕ → Books
books blocks allowance births ticket = record { blocks = blocks; allowance = allowance; births = births; ticket = ticket }

pub books-kept : (a b : PlainRow) (x : Effect) → Goes a x b → x.drawn ≡ 0 → x.granted ≡ [] → births_in x.entries ≡ 0 → b.allowance ≡ a.allowance → books_of b ≡ books_of a
books-kept a b x goes drawn granted none allowance =
    ap (λ n. books n b.allowance (births_of (mutator_at_turn b)) (ticket_of (seat_at_turn b))) goes.size
    ∙ ap (λ n. books a.row.layout.blocks n (births_of (mutator_at_turn b)) (ticket_of (seat_at_turn b))) allowance
    ∙ ap (λ n. books a.row.layout.blocks a.allowance n (ticket_of (seat_at_turn b)))
    (goes.births ∙ ap (λ n. births_of (mutator_at_turn a) + n) none ∙ add-zero (births_of (mutator_at_turn a)))
    ∙ ap (λ t. books a.row.layout.blocks a.allowance (births_of (mutator_at_turn a)) t) (goes.ticket drawn granted)

-- the word of a Free block has neither class nor owner
class-none : (class owner : ℕ) → IsValidWord (record { kind = kinds.Free; class = class; owner = owner }) → class ≡ 0
class-none class owner valid = grind arith

owner-none : (class owner : ℕ) → IsValidWord (record { kind = kinds.Free; class = class; owner = owner }) → owner ≡ 0
owner-none class owner valid = grind arith

-- a Free block
module _ (a b : PlainRow) (ready : MayCall a) (block size : ℕ) (there : block < a.row.layout.blocks) (is : HasKind (state_of a.row) block kinds.Free) where
  valid : IsValidWord (record { kind = kinds.Free; class = class_at (state_of a.row) block; owner = owner_at (state_of a.row) block })
  valid = let now = ready.between_calls.some in valid-parts (state_of a.row) block kinds.Free is (facts.code now.epoch now.ideal now.log a now.at block there)

  clear : IsClear (state_of a.row) block
  clear = let now = ready.between_calls.some in
      subst (λ (t : HeapState). IsClear t block) (sym now.at.heap)
      ((facts.moment now.epoch now.ideal now.log a now.at).epoch.free block (subst (λ (t : HeapState). HasKind t block kinds.Free) now.at.heap is))

  -- the block after that has the class for the size, and is clear
  abbrev then : HeapState
  then = heap-taken a block (class-in a size)

  class-then : class_at then block ≡ class-in a size
  class-then =
      let now = ready.between_calls.some in
      ap (λ n. n / 256 % 256) (blocks.block-set (state_of a.row) block (word-taken a (class-in a size)) there (turns.extent now.epoch now.ideal now.log a now.at))
      ∙ (code_parts (kind_code a.fill) (class-in a size) (number_at_turn a) (word-taken a (class-in a size)) (kind_code_most a.fill) (filled_kinds.class-few a.fill size) refl).1

  clear-then : IsClear then block
  clear-then = blocks.clear-after (state_of a.row) (blocks.set_block (state_of a.row) block (word-taken a (class-in a size)))
      (blocks.same_heap (state_of a.row) block (word-taken a (class-in a size)) there) block
      (λ line less. blocks.lines-same (state_of a.row) block (word-taken a (class-in a size)) there block line) clear

  -- the mutator takes it, with a ticket below the allowance
  module _ (over : Bool) (overflow : (over ≡ true) ↔ IsOverflow a size)
      (takes : OwnsBlock a b over block (class-in a size) (first_region a.fill (class-in a size)) None)
      (ticket : (t : ℕ) × (ticket_of (seat_at_turn a) ≡ Some t) × (t < a.allowance)) where
    abbrev gains : Gains a b block (class-in a size) (first_region a.fill (class-in a size)) true
    gains = record {
      over = over;
      lined = λ is. (overflow.0 is).over.lines;
      takes = takes;
      there = there;
      valid = let now = ready.between_calls.some in turns.own-valid now.epoch now.ideal now.log a now.at ready.turn size;
      word = unowned-code (state_of a.row) block 0 kinds.Free is (class-none _ _ valid) (owner-none _ _ valid);
      tickets = λ _. ticket;
      left = subst (λ (t : HeapState). IsRegionIn a.fill t block (first_region a.fill (class-in a size))) (sym takes.words)
          (subst (λ (c : ℕ). IsRegionIn a.fill then block (first_region a.fill c)) class-then (filled_kinds.clear-whole a.fill ready.between_calls.some.at.fills then block clear-then));
      unowned = λ owner r note. let now = ready.between_calls.some in
          fill-not-free (state_of a.row) block a.fill (subst (λ (k : Kind). IsTrue (has_holes k)) (sym now.at.fill) now.at.epoch.ready.fills)
          (turns.owned-note now.epoch now.ideal now.log a now.at block owner r note).kind is;
    }

    pub free-goes : Goes a (grants block) b
    free-goes = goes-free a b ready block size (first_region a.fill (class-in a size)) true gains is

    fits : size ≤ 2048 → (first_region a.fill (class-in a size)).next + size ≤ (first_region a.fill (class-in a size)).end
    fits small = omega (arith, filled_kinds.whole-room a.fill size small)

    free-region : size ≤ 2048 → IsRegion b size block (first_region a.fill (class-in a size))
    free-region small = region-now a b ready block size (first_region a.fill (class-in a size)) true gains overflow.0 (fits small)

    pub free-room : size ≤ 2048 → RegionHasRoomFor b size
    free-room small = room a b ready block size (first_region a.fill (class-in a size)) true gains overflow.0 (fits small)

    -- in overflow allocation it is the block of the overflow region, else the one for the class
    free-class : (o : Bool) → over ≡ o → LeavesClass a size block ⊎ (block_of (seat_at_turn b) (class_for b.fill size) ≡ Some block)
    free-class true flows = inl (inr (is, overflow.0 flows))
    free-class false none = inr (class-now a b ready block size (first_region a.fill (class-in a size)) true gains none)

    pub free-offers : size ≤ 2048 → Offers a b size
    free-offers small = record {
      block = block;
      region = first_region a.fill (class-in a size);
      now = free-region small;
      offer = OffersRoom.free_block is refl;
      class = free-class over refl;
      others = rest-kept a b ready block size (first_region a.fill (class-in a size)) true gains over refl overflow.0 (fits small);
    }

    pub free-current : size ≤ 2048 → AllocatesIn b size block
    free-current small = turns.block-tries b.fill b.notes.items (seat_at_turn b) size block (free-region small).current

    -- another block is as it was
    pub free-lacks : (n k : ℕ) → k ≢ block → Lacks a n k → Lacks b n k
    free-lacks = other-lacks a b ready block size (first_region a.fill (class-in a size)) true gains

    -- in overflow allocation the hole region stays
    pub free-keeps : IsOverflow a size → KeepsRegion a b
    free-keeps flows = hole-kept a b ready block size (first_region a.fill (class-in a size)) true gains (overflow.1 flows)

    pub free-overflows : IsOverflow a size → IsOverflow b size
    free-overflows flows = still-overflows a b takes.plan.fill (free-keeps flows) size flows

-- a block with a first hole for a size has its class
pub hole-class : (fill : Kind) → FillsHoles fill → (s : HeapState) (k size : ℕ) (region : Region) → IsTrue (is_block_code (block_word s k))
    → IsFirstHole fill s k 0 size (Some region) → class_at s k ≡ class_for fill size
hole-class fill fills s k size region code hole = elim (fills-cases fill fills) as (λ _. class_at s k ≡ class_for fill size) [
  | inl (inl tails) ↦ filled_kinds.tail-suits fill tails s k size code (part-kind fill s k 0 size region.next region.end hole.hole.part)
  | inl (inr cells) ↦ sym (ap (λ (o : Option ℕ). unwrap_or o 0) (part-class fill s k size region hole cells)) ∙ ap (λ (f : Kind). class_for f size) (sym cells)
  | inr lines ↦ filled_kinds.lines-suits s k code (subst (HasKind s k) lines (part-kind fill s k 0 size region.next region.end hole.hole.part))
      ∙ ap (λ (f : Kind). class_for f size) (sym lines)
]

-- a block with a hole that nobody owns
module _ (a b : PlainRow) (ready : MayCall a) (block least size : ℕ) (region : Region) (note : slice_get a.notes.items block ≡ Some (Unowned least))
    (hole : IsFirstHole a.fill (state_of a.row) block 0 size (Some region)) where
  there : block < a.row.layout.blocks
  there = let now = ready.between_calls.some in turns.note-block now.epoch now.ideal now.log a now.at block (Unowned least) note

  hole-filled : HasKind (state_of a.row) block a.fill
  hole-filled = part-kind a.fill (state_of a.row) block 0 size region.next region.end hole.hole.part

  suits-size : class_at (state_of a.row) block ≡ class-in a size
  suits-size = let now = ready.between_calls.some in hole-class a.fill now.at.fills (state_of a.row) block size region (facts.code now.epoch now.ideal now.log a now.at block there) hole

  word-before : block_word (state_of a.row) block ≡ code_of (block_of_kind a.fill (class-in a size))
  word-before = unowned-code (state_of a.row) block (class-in a size) a.fill hole-filled suits-size
      (let now = ready.between_calls.some in (turns.unowned-note now.epoch now.ideal now.log a now.at block least note).owner)

  same-class : block_word (heap-taken a block (class-in a size)) block % 65536 ≡ block_word (state_of a.row) block % 65536
  same-class =
      let now = ready.between_calls.some in
      let after : block_word (heap-taken a block (class-in a size)) block ≡ word-taken a (class-in a size) =
      blocks.block-set (state_of a.row) block (word-taken a (class-in a size)) there (turns.extent now.epoch now.ideal now.log a now.at) in
      let class : class-in a size ≤ 18 = filled_kinds.class-few a.fill size in
      let before = word-before in
      let few : kind_code a.fill ≤ 8 = kind_code_most a.fill in
      omega arith

  -- the line bits of a block without an owner are exact
  exact : LineBitsAreExact (state_of a.row) block
  exact =
      let now = ready.between_calls.some in
      let nobody : owner_at (state_of a.row) block ≡ 0 = (turns.unowned-note now.epoch now.ideal now.log a now.at block least note).owner in
      subst (λ (t : HeapState). LineBitsAreExact t block) (sym now.at.heap)
      (unowned-lines now.epoch now.at.epoch.ready (machine_after now.epoch now.log) (facts.moment now.epoch now.ideal now.log a now.at).epoch block
      (subst (λ (t : HeapState). owner_at t block ≡ 0) now.at.heap nobody))

  -- it is no overflow region, needs no ticket, and had no owner
  no-lines : IsTrue false → FillsLines a.fill
  no-lines wrong = absurd (let is : false ≡ true = wrong in cc)

  no-ticket : IsTrue false → (t : ℕ) × (ticket_of (seat_at_turn a) ≡ Some t) × (t < a.allowance)
  no-ticket wrong = absurd (let is : false ≡ true = wrong in cc)

  no-owner : (owner : ℕ) (r : Region) → slice_get a.notes.items block ≡ Some (Owned owner r) → ⊥
  no-owner owner r other = let wrong : Unowned least ≡ Owned owner r = one-element (slice_get a.notes.items block) (Unowned least) (Owned owner r) note other in cc

  -- the mutator takes it for its hole
  module _ (takes : OwnsBlock a b false block (class-in a size) region (ticket_of (seat_at_turn a))) where
    abbrev gained : Gains a b block (class-in a size) region false
    gained = record {
      over = false;
      lined = no-lines;
      takes = takes;
      there = there;
      valid = let now = ready.between_calls.some in turns.own-valid now.epoch now.ideal now.log a now.at ready.turn size;
      word = word-before;
      tickets = no-ticket;
      left = subst (λ (t : HeapState). IsRegionIn a.fill t block region) (sym takes.words)
          (region-as a.fill (state_of a.row) (heap-taken a block (class-in a size)) block region
          (taking.same-block (state_of a.row) block (word-taken a (class-in a size)) there block there same-class)
          (λ lines line few. blocks.lines-same (state_of a.row) block (word-taken a (class-in a size)) there block line)
          (hole-region a.fill ready.between_calls.some.at.fills (state_of a.row) block size region (λ lines. exact) hole));
      unowned = no-owner;
    }

    no-overflow : IsTrue gained.over → IsOverflow a size
    no-overflow wrong = absurd (let is : false ≡ true = wrong in cc)

    pub taken-goes : Goes a (effects.takes (block ∷ [])) b
    taken-goes = goes-used a b ready block size region false gained hole-filled refl

    pub taken-region : IsRegion b size block region
    taken-region = region-now a b ready block size region false gained no-overflow hole.hole.room

    pub taken-class : block_of (seat_at_turn b) (class_for b.fill size) ≡ Some block
    taken-class = class-now a b ready block size region false gained refl

    pub taken-rest : KeepsRest b size a b
    taken-rest = rest-kept a b ready block size region false gained false refl no-overflow hole.hole.room

    pub taken-room : RegionHasRoomFor b size
    taken-room = room a b ready block size region false gained no-overflow hole.hole.room

    -- another block is as it was
    pub taken-others : (n k : ℕ) → k ≢ block → Lacks a n k → Lacks b n k
    taken-others = other-lacks a b ready block size region false gained
