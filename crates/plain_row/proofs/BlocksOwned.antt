-- A block is taken: a block that nobody owned becomes the mutator's.
use Rattle.std.proofs.Common.{◌≡◌, ◌≢◌, refl, sym, ◌∙◌, ap, subst, ℕ, ◌/◌, ◌%◌, ◌<◌, ◌≤◌, ◌⊎◌, inl, inr, arith, Bool, true, false, ◌&&◌, IsTrue, nat_eq, nat_lt, eq-eqb, List, [], ◌∷◌, ◌++◌, map, length, length-set}
use Rattle.std.specs.Prelude.{Option, Some, None, slice_get, slice_set, unwrap_or}
use Rattle.std.proofs.lemmas.Bool.{cond-true}
use Rattle.heap_layout.specs.Blocks.{kind_code, code_of, IsValidWord}
use Rattle.heap_layout.specs.declared.block.Kind.{Kind}
use Rattle.heap_layout.specs.declared.block.Kind.TheVariants as kinds
use Rattle.heap_layout.specs.declared.region.Region.{Region}
use Rattle.heap_layout.proofs.BlockLemmas.{code_parts, kind_code_most, valid_most}
use Rattle.ideal_heap.specs.Ideal.{IdealHeap}
use Rattle.object_model.specs.Objects.{HeapState, state_of, with_words, block_word, has_kind, HasKind, class_at, owner_at, line_marked}
use Rattle.object_model.proofs.Blocks as blocks
use Rattle.object_model.proofs.Blocks.{SameHeap, set_block}
use Rattle.object_model.proofs.OneKind.{kind-code, kind-from, kind-within}
use Rattle.sessions.specs.Fitting.{HasHole}
use Rattle.sessions.specs.Sessions.{block_of_kind}
use Rattle.mutator_core.specs.declared.state.Local.{Local}
use Rattle.mutator_core.specs.declared.state.LogEntry.{LogEntry}
use Rattle.mutator_core.specs.declared.state.Event.{Event}
use Rattle.mutator_core.specs.declared.state.Event.TheVariants as e
use Rattle.mutator_core.specs.Machine.{Epoch, next, found_code, owned_code, taken, heap_in}
use Rattle.mutator_core.specs.Guards.{MayStep}
use Rattle.mutator_core.specs.Logs.{machine_after, heap_after, local_after_log}
use Rattle.mutator_calls.specs.declared.need.Mutator.{Mutator}
use Rattle.mutator_calls.specs.Effects as effects
use Rattle.plain_row.specs.declared.plain_row.PlainRow.{PlainRow}
use Rattle.local_allocators.specs.declared.local_seat.LocalSeat.{LocalSeat}
use Rattle.block_regions.specs.declared.block_notes.BlockNote.{BlockNote}
use Rattle.block_regions.specs.declared.block_notes.BlockNote.TheVariants.{Unowned, Owned}
use Rattle.plain_row.specs.Rows.{IsTurn, number_at_turn, seat_at_turn}
use Rattle.local_allocators.specs.Seats.{ticket_of, blocks_of, over_of}
use Rattle.block_regions.specs.Regions.{IsRegionIn}
use Rattle.block_regions.specs.Notes.{FillsHoles, FlagsCover, IsBlockNote, IsOwnedNote, HasNotes, IsRegionOf}
use Rattle.plain_row.specs.Changes.{OwnsBlock, seat_with}
use Rattle.local_allocators.specs.MutatorRegions.{FillsLines}
use Rattle.plain_row.specs.Worlds.{IsAt, HasState, HasCursors, Continues}
use Rattle.block_regions.proofs.Elements.{set-changes, changes-cases}
use Rattle.block_regions.proofs.Lists.{one-element}
use Rattle.plain_row.proofs.OwnedLists.{lists-taken}
use Rattle.block_regions.proofs.Regions.{hole-kind}
use Rattle.block_regions.proofs.BlockFrames.{SameBlock}
use Rattle.block_regions.proofs.RegionFrames.{turn-round, region-as, hole-as}
use Rattle.plain_row.proofs.LogStep as stepping
use Rattle.plain_row.proofs.Turns as turns

-- the word of a block of a kind that has the class and no owner
pub unowned-code : (s : HeapState) (k class : ℕ) (kind : Kind) → HasKind s k kind → class_at s k ≡ class → owner_at s k ≡ 0 → block_word s k ≡ code_of (block_of_kind kind class)
unowned-code s k class kind is suits owner =
    let code : block_word s k % 256 ≡ kind_code kind = kind-code s k kind is in
    let v : ℕ = block_word s k in
    let n : ℕ = kind_code kind in
    omega (arith, suits, owner, code)

-- the word of block k becomes v
module _ (s : HeapState) (k v : ℕ) (there : k < s.blocks) where
  abbrev t : HeapState
  t = with_words s (set_block s k v)

  -- the line bits stay
  blocks-lines : (q line : ℕ) → line < 256 → line_marked s q line ≡ line_marked t q line
  blocks-lines q line few = sym (blocks.lines-same s k v there q line)

  same : SameHeap s (set_block s k v)
  same = blocks.same_heap s k v there

  pub same-block : (j : ℕ) → j < s.blocks → block_word t j % 65536 ≡ block_word s j % 65536 → SameBlock s t j
  same-block j inside word = record {
    there = inside;
    blocks = refl;
    word = word;
    held = λ a holds here. (blocks.held-after s (set_block s k v) same a holds, blocks.size-same s (set_block s k v) same a holds);
    back = λ a holds here. blocks.held-before s (set_block s k v) same a holds;
  }

  module _ (j : ℕ) (other : j ≢ k) where
    pub kind-same : (kind : Kind) → has_kind t j kind ≡ has_kind s j kind
    kind-same kind = ap (λ x. nat_lt j s.blocks && nat_eq (x % 256) (kind_code kind)) (blocks.block-other s k v there j other)

    pub class-same : class_at t j ≡ class_at s j
    class-same = ap (λ x. x / 256 % 256) (blocks.block-other s k v there j other)

    pub owner-same : owner_at t j ≡ owner_at s j
    owner-same = ap (λ x. x / 65536) (blocks.block-other s k v there j other)

    other-block : j < s.blocks → SameBlock s t j
    other-block inside = same-block j inside (ap (λ x. x % 65536) (blocks.block-other s k v there j other))

    pub hole-before : (fill : Kind) → FillsHoles fill → (at size : ℕ) → HasHole fill t j at size → HasHole fill s j at size
    hole-before fill fills at size hole =
        hole-as fill t s j at size (turn-round s t j (other-block (kind-within t j fill (hole-kind fill t j at size hole))))
        (λ lines line few. blocks-lines j line few) hole

    pub note-after : (fill : Kind) → FillsHoles fill → (note : BlockNote) → j < s.blocks → IsBlockNote fill s j note → IsBlockNote fill t j note
    note-after fill fills (Unowned least) inside is = record {
      owner = owner-same ∙ is.owner;
      none = λ at size most hole. is.none at size most (hole-before fill fills at size hole);
    }
    note-after fill fills (Owned owner region) inside is = record {
      some = is.some;
      owner = owner-same ∙ is.owner;
      kind = kind-same fill ∙ is.kind;
      left = region-as fill s t j region (other-block inside) (λ lines line few. sym (blocks-lines j line few)) is.left;
    }

-- the kind of the block, and the ticket after it is taken
abbrev pub kind_found : Bool → Kind → Kind
kind_found true fill = kinds.Free
kind_found false fill = fill

abbrev pub ticket_left : Bool → Option ℕ → Option ℕ
ticket_left true ticket = None
ticket_left false ticket = ticket

abbrev pub class_found : Bool → ℕ → ℕ
class_found true class = 0
class_found false class = class

-- The mutator takes a block that nobody owns for objects of the class, a Free one with its ticket, and its region is what
-- is left of the block.
pub record Gains (a b : PlainRow) (block class : ℕ) (region : Region) (free : Bool) : Type 0 where
  pub over : Bool
  pub lined : over ≡ true → FillsLines a.fill
  pub takes : OwnsBlock a b over block class region (ticket_left free (ticket_of (seat_at_turn a)))
  pub there : block < a.row.layout.blocks
  pub valid : IsValidWord (record { kind = a.fill; class = class; owner = number_at_turn a })
  pub word : block_word (state_of a.row) block ≡ code_of (block_of_kind (kind_found free a.fill) (class_found free class))
  pub tickets : IsTrue free → (t : ℕ) × (ticket_of (seat_at_turn a) ≡ Some t) × (t < a.allowance)
  pub left : IsRegionIn a.fill (state_of b.row) block region
  pub unowned : (owner : ℕ) (r : Region) → slice_get a.notes.items block ≡ Some (Owned owner r) → ⊥

taken-ticket : (p : Epoch) (l : Local) (k class : ℕ) (free : Bool) → (taken p l k class free).ticket ≡ ticket_left free l.ticket
taken-ticket p l k class true = refl
taken-ticket p l k class false = refl

taken-births : (p : Epoch) (l : Local) (k class : ℕ) (free : Bool) → (taken p l k class free).births ≡ l.births
taken-births p l k class true = refl
taken-births p l k class false = refl

taken-registers : (p : Epoch) (l : Local) (k class : ℕ) (free : Bool) → (taken p l k class free).registers ≡ l.registers
taken-registers p l k class true = refl
taken-registers p l k class false = refl

taken-unpublished : (p : Epoch) (l : Local) (k class : ℕ) (free : Bool) → (taken p l k class free).unpublished ≡ l.unpublished
taken-unpublished p l k class true = refl
taken-unpublished p l k class false = refl

taken-pending : (p : Epoch) (l : Local) (k class : ℕ) (free : Bool) → (taken p l k class free).pending ≡ l.pending
taken-pending p l k class true = refl
taken-pending p l k class false = refl

found-same : (p : Epoch) (fill : Kind) (class : ℕ) (free : Bool) → fill ≡ p.rules.fill → code_of (block_of_kind (kind_found free fill) (class_found free class)) ≡ found_code p class free
found-same p fill class true is = refl
found-same p fill class false is = ap (λ (k : Kind). code_of (block_of_kind k class)) is

-- the parts of a seat that has a block more
pub seat-ticket : (over : Bool) (seat : Option LocalSeat) (class block : ℕ) (ticket : Option ℕ) → (seat_with over seat class block ticket).ticket ≡ ticket
seat-ticket false seat class block ticket = refl
seat-ticket true seat class block ticket = refl

-- how many classes it has blocks for
seat-classes : (over : Bool) (seat : Option LocalSeat) (class block : ℕ) (ticket : Option ℕ) → length (seat_with over seat class block ticket).blocks ≡ length (blocks_of seat)
seat-classes false seat class block ticket = length-set (blocks_of seat) class (Some block)
seat-classes true seat class block ticket = refl

-- its block for a class is the new one, or it was its block
pub seat-cases : (over : Bool) (seat : Option LocalSeat) (class block : ℕ) (ticket : Option ℕ) → class < length (blocks_of seat) → (c : ℕ) (o : Option ℕ)
    → slice_get (seat_with over seat class block ticket).blocks c ≡ Some o
    → ((over ≡ false) × (c ≡ class) × (o ≡ Some block)) ⊎ (slice_get (blocks_of seat) c ≡ Some o)
seat-cases true seat class block ticket few c o is = inr is
seat-cases false seat class block ticket few c o is =
    elim (changes-cases (blocks_of seat) (slice_set (blocks_of seat) class (Some block)) class (Some block) (set-changes (blocks_of seat) class (Some block) few) c o is) as
    (λ _. ((false ≡ false) × (c ≡ class) × (o ≡ Some block)) ⊎ (slice_get (blocks_of seat) c ≡ Some o)) [
      | inl here ↦ inl (refl, here.0, here.1)
      | inr other ↦ inr other.1
    ]

-- and its overflow block
pub over-cases : (over : Bool) (seat : Option LocalSeat) (class block : ℕ) (ticket : Option ℕ) (d : ℕ) → (seat_with over seat class block ticket).over ≡ Some d
    → ((over ≡ true) × (d ≡ block)) ⊎ (over_of seat ≡ Some d)
over-cases false seat class block ticket d is = inr is
over-cases true seat class block ticket d is = inl (refl, one-element (Some block) d block is refl)

module _ (p : Epoch) (i : IdealHeap) (log : List LogEntry) (a b : PlainRow) (at : IsAt p i log a) (turn : IsTurn a) (block class : ℕ) (region : Region) (free : Bool)
    (gains : Gains a b block class region free) where
  abbrev m : ℕ
  m = number_at_turn a

  abbrev l : Local
  l = local_after_log p log m

  abbrev s : HeapState
  s = state_of a.row

  abbrev v : ℕ
  v = code_of (record { kind = a.fill; class = class; owner = number_at_turn a })

  abbrev x : Event
  x = e.TakeBlock block class free

  abbrev later : List LogEntry
  later = log ++ stepping.entry-for p i log a at turn x ∷ []

  found : block_word (heap_after p log) block ≡ found_code p class free
  found = ap (λ (t : HeapState). block_word t block) (sym at.heap) ∙ gains.word ∙ found-same p a.fill class free at.fill

  value : v ≡ owned_code p l class
  value = ap (λ (k : Kind). code_of (record { kind = k; class = class; owner = number_at_turn a })) at.fill
      ∙ ap (λ (n : ℕ). code_of (record { kind = p.rules.fill; class = class; owner = n })) (sym (turns.own-local-number p i log a at turn))

  pub may-take : MayStep p l x
  may-take = (
    subst (λ (n : ℕ). block < n) (ap (λ (t : HeapState). t.blocks) at.heap) gains.there,
    subst (λ (k : Kind). IsValidWord (record { kind = k; class = class; owner = l.number })) at.fill
        (subst (λ (n : ℕ). IsValidWord (record { kind = a.fill; class = class; owner = n })) (sym (turns.own-local-number p i log a at turn)) gains.valid),
    λ is. let has = gains.tickets is in (has.0, turns.own-ticket p i log a at turn ∙ has.1, subst (λ (n : ℕ). has.0 < n) at.allowed has.2),
  )

  next-words : (next p (machine_after p log) m x).words ≡ set_block (heap_after p log) block (owned_code p l class)
  next-words = ap (λ (n : ℕ). set_block (heap_after p log) block n)
      (cond-true (nat_eq (block_word (heap_after p log) block) (found_code p class free)) (owned_code p l class) (block_word (heap_after p log) block)
      (eq-eqb (block_word (heap_after p log) block) (found_code p class free) found))

  heap : state_of b.row ≡ heap_after p later
  heap = gains.takes.words
      ∙ ap (λ (t : HeapState). with_words t (set_block t block v)) at.heap
      ∙ ap (λ (n : ℕ). with_words (heap_after p log) (set_block (heap_after p log) block n)) value
      ∙ ap (λ (ws : List ℕ). with_words (heap_after p log) ws) (sym next-words)
      ∙ ap (λ k. heap_in p k) (sym (stepping.machine-pushed p i log a at turn x))

  local-is : local_after_log p later m ≡ taken p l block class free
  local-is = stepping.own-pushed p i log a at turn x
      ∙ cond-true (nat_eq (block_word (heap_after p log) block) (found_code p class free)) (taken p l block class free) _
      (eq-eqb (block_word (heap_after p log) block) (found_code p class free) found)

  abbrev seat : LocalSeat
  seat = seat_with gains.over (seat_at_turn a) class block (ticket_left free (ticket_of (seat_at_turn a)))

  same-mutator : (k : ℕ) (q : Mutator) → slice_get b.mutators.items k ≡ Some q → slice_get a.mutators.items k ≡ Some q
  same-mutator k q is = ap (λ y. slice_get y.items k) (sym gains.takes.mutators) ∙ is

  own-state : HasState (stepping.mutator p i log a at turn).0 seat (local_after_log p later m)
  own-state = subst (HasState (stepping.mutator p i log a at turn).0 seat) (sym local-is) (let state = stepping.state p i log a at turn in record {
    births = taken-births p l block class free ∙ state.births;
    registers = taken-registers p l block class free ∙ state.registers;
    ticket = taken-ticket p l block class free ∙ ap (ticket_left free) (turns.own-ticket p i log a at turn)
        ∙ sym (seat-ticket gains.over (seat_at_turn a) class block (ticket_left free (ticket_of (seat_at_turn a))));
    none = taken-unpublished p l block class free ∙ state.none;
    stored = taken-pending p l block class free ∙ state.stored;
  })

  mine : (k : ℕ) (q : Mutator) → k ≡ a.turn → slice_get b.mutators.items k ≡ Some q → (stepping.mutator p i log a at turn).0 ≡ q
  mine k q here is = one-element _ (stepping.mutator p i log a at turn).0 q (stepping.mutator p i log a at turn).1 (subst (λ n. slice_get a.mutators.items n ≡ Some q) here (same-mutator k q is))

  each : (k : ℕ) (q : Mutator) (y : LocalSeat) → slice_get b.mutators.items k ≡ Some q → slice_get b.seats.items k ≡ Some y → HasState q y (local_after_log p later q.number)
  each k q y is sits = elim (changes-cases a.seats.items b.seats.items a.turn seat gains.takes.seats k y sits) as (λ _. HasState q y (local_after_log p later q.number)) [
    | inl own ↦ subst (λ (z : Mutator). HasState z y (local_after_log p later z.number)) (mine k q own.0 is)
        (subst (λ (z : LocalSeat). HasState (stepping.mutator p i log a at turn).0 z (local_after_log p later (stepping.mutator p i log a at turn).0.number)) (sym own.1)
        (subst (λ (n : ℕ). HasState (stepping.mutator p i log a at turn).0 seat (local_after_log p later n)) (stepping.number-is p i log a at turn) own-state))
    | inr other ↦ subst (HasState q y) (sym (stepping.other-pushed p i log a at turn x q.number (λ same. other.0
        (turns.differ p i log a at k a.turn q (stepping.mutator p i log a at turn).0 (same-mutator k q is) (stepping.mutator p i log a at turn).1 (same ∙ stepping.number-is p i log a at turn)))))
        (at.each k q y (same-mutator k q is) other.1)
  ]

  abbrev now : HeapState
  now = with_words (state_of a.row) (set_block (state_of a.row) block (code_of (record { kind = a.fill; class = class; owner = number_at_turn a })))

  word : block_word now block ≡ v
  word = blocks.block-set s block v gains.there (turns.extent p i log a at)

  parts : (v % 256 ≡ kind_code a.fill) × (v / 256 % 256 ≡ class) × (v / 65536 ≡ m)
  parts = code_parts (kind_code a.fill) class m v (kind_code_most a.fill) (valid_most a.fill class m gains.valid).0 refl

  pub kind-now : HasKind now block a.fill
  kind-now = kind-from now block a.fill gains.there (ap (λ n. n % 256) word ∙ parts.0)

  own-note : IsOwnedNote a.fill now block m region
  own-note = record {
    some = (turns.own-range p i log a at turn).0;
    owner = ap (λ n. n / 65536) word ∙ parts.2;
    kind = kind-now;
    left = subst (λ (z : HeapState). IsRegionIn a.fill z block region) gains.takes.words gains.left;
  }

  -- a block that a mutator allocated in is its own still
  still-own : (number c d : ℕ) → IsRegionOf a.notes.items number d → class_at s d ≡ c → IsRegionOf b.notes.items number d × (class_at (state_of b.row) d ≡ c)
  still-own number c d was suits =
      let other : d ≢ block = λ same. gains.unowned number was.region (ap (slice_get a.notes.items) (sym same) ∙ was.note) in (
        record { region = was.region; note = gains.takes.notes.others d other ∙ was.note },
        ap (λ (z : HeapState). class_at z d) gains.takes.words ∙ class-same s block v gains.there d other ∙ suits,
      )

  -- the block that was not the mutator's has its class
  new-own : (d : ℕ) → d ≡ block → IsRegionOf b.notes.items m d × (class_at (state_of b.row) d ≡ class)
  new-own d same = (
    record { region = region; note = ap (slice_get b.notes.items) same ∙ gains.takes.notes.here },
    ap (λ (z : HeapState). class_at z d) gains.takes.words ∙ ap (class_at now) same ∙ ap (λ n. n / 256 % 256) word ∙ parts.1,
  )

  few : class < length (blocks_of (seat_at_turn a))
  few =
      let many : length (blocks_of (seat_at_turn a)) ≡ 19 = turns.own-classes p i log a at turn in
      let least : class ≤ 18 = (valid_most a.fill class m gains.valid).0 in
      omega arith

  old-seat : (c d : ℕ) → slice_get (blocks_of (seat_at_turn a)) c ≡ Some (Some d) → IsRegionOf a.notes.items m d × (class_at (state_of a.row) d ≡ c)
  old-seat c d is = turns.own-region p i log a at turn c d (ap (λ o. unwrap_or o None) is)

  old-over : FillsLines a.fill → (d : ℕ) → over_of (seat_at_turn a) ≡ Some d → IsRegionOf a.notes.items m d
  old-over lines d is = (turns.own-cursors p i log a at turn).over lines d (ap over_of (sym (turns.own-seat p i log a at turn).1) ∙ is)

  -- a block with a region is not the one that is taken
  not-taken : (n d : ℕ) → IsRegionOf a.notes.items n d → d ≡ block → ⊥
  not-taken n d was same = gains.unowned n was.region (ap (slice_get a.notes.items) (sym same) ∙ was.note)

  abbrev old : Option LocalSeat
  old = seat_at_turn a

  abbrev left : Option ℕ
  left = ticket_left free (ticket_of (seat_at_turn a))

  own-cursors : HasCursors b.fill b.notes.items (state_of b.row) m seat
  own-cursors = record {
    classes = seat-classes gains.over old class block left ∙ turns.own-classes p i log a at turn;
    each = λ c d is. elim (seat-cases gains.over old class block left few c (Some d) is) as (λ _. IsRegionOf b.notes.items m d × (class_at (state_of b.row) d ≡ c)) [
      | inl here ↦ (let mine = new-own d (one-element (Some block) d block (sym here.2) refl) in (mine.0, mine.1 ∙ sym here.1))
      | inr was ↦ (let own = old-seat c d was in still-own m c d own.0 own.1)
    ];
    lined = λ d is. gains.takes.plan.fill ∙ elim (over-cases gains.over old class block left d is) as (λ _. FillsLines a.fill) [
      | inl here ↦ gains.lined here.0
      | inr was ↦ turns.own-lined p i log a at turn d was
    ];
    over = λ lines d is. elim (over-cases gains.over old class block left d is) as (λ _. IsRegionOf b.notes.items m d) [
      | inl here ↦ (new-own d here.1).0
      | inr was ↦ (let own = old-over (sym gains.takes.plan.fill ∙ lines) d was in (still-own m (class_at (state_of a.row) d) d own refl).0)
    ];
    apart = λ lines d is here. elim (over-cases gains.over old class block left d is) as (λ _. ⊥) [
      | inl new ↦ elim (seat-cases gains.over old class block left few 0 (Some d) here) as (λ _. ⊥) [
        | inl both ↦ (let wrong : true ≡ false = sym new.0 ∙ both.0 in cc)
        | inr was ↦ not-taken m d (old-seat 0 d was).0 new.1
      ]
      | inr over ↦ (let own = old-over (sym gains.takes.plan.fill ∙ lines) d over in elim (seat-cases gains.over old class block left few 0 (Some d) here) as (λ _. ⊥) [
        | inl new ↦ not-taken m d own (one-element (Some block) d block (sym new.2) refl)
        | inr was ↦ (turns.own-cursors p i log a at turn).apart (sym gains.takes.plan.fill ∙ lines) d
            (ap over_of (sym (turns.own-seat p i log a at turn).1) ∙ over)
            (ap (λ o. slice_get (blocks_of o) 0) (sym (turns.own-seat p i log a at turn).1) ∙ was)
      ])
    ];
  }

  cursors : (k : ℕ) (q : Mutator) (y : LocalSeat) → slice_get b.mutators.items k ≡ Some q → slice_get b.seats.items k ≡ Some y → HasCursors b.fill b.notes.items (state_of b.row) q.number y
  cursors k q y is sits = elim (changes-cases a.seats.items b.seats.items a.turn seat gains.takes.seats k y sits) as (λ _. HasCursors b.fill b.notes.items (state_of b.row) q.number y) [
    | inl own ↦ subst (HasCursors b.fill b.notes.items (state_of b.row) q.number) (sym own.1)
        (subst (λ (n : ℕ). HasCursors b.fill b.notes.items (state_of b.row) n seat) (stepping.number-is p i log a at turn ∙ ap (λ (z : Mutator). z.number) (mine k q own.0 is)) own-cursors)
    | inr other ↦ (let was = at.cursors k q y (same-mutator k q is) other.1 in record {
      classes = was.classes;
      each = λ c d there. let has = was.each c d there in still-own q.number c d has.0 has.1;
      lined = λ d there. gains.takes.plan.fill ∙ was.lined d there;
      over = λ lines d there. let has = was.over (sym gains.takes.plan.fill ∙ lines) d there in (still-own q.number (class_at (state_of a.row) d) d has refl).0;
      apart = λ lines d there. was.apart (sym gains.takes.plan.fill ∙ lines) d there;
    })
  ]

  note : (k : ℕ) (n : BlockNote) → slice_get b.notes.items k ≡ Some n → IsBlockNote a.fill now k n
  note k n is = elim (changes-cases a.notes.items b.notes.items block (Owned m region) gains.takes.notes k n is) as (λ _. IsBlockNote a.fill now k n) [
    | inl here ↦ subst (λ (q : ℕ). IsBlockNote a.fill now q n) (sym here.0) (subst (IsBlockNote a.fill now block) (sym here.1) own-note)
    | inr other ↦ note-after s block v gains.there k other.0 a.fill at.fills n (turns.note-block p i log a at k n other.1) (at.notes.each k n other.1)
  ]

  pub at-taken : IsAt p i later b
  at-taken = record {
    epoch = stepping.log-pushed p i log a at turn x may-take;
    heap = heap;
    numbers = ap (λ y. map (λ z. z.number) y.items) gains.takes.mutators ∙ at.numbers;
    seats = gains.takes.seats.len ∙ at.seats ∙ ap (λ y. length y.items) (sym gains.takes.mutators);
    each = each;
    cursors = cursors;
    notes = subst (λ f. HasNotes f (state_of b.row) b.notes.items) (sym gains.takes.plan.fill)
        (subst (λ z. HasNotes a.fill z b.notes.items) (sym gains.takes.words) (record { len = gains.takes.notes.len ∙ at.notes.len; each = note }));
    fill = gains.takes.plan.fill ∙ at.fill;
    fills = subst FillsHoles (sym gains.takes.plan.fill) at.fills;
    young = gains.takes.plan.young ∙ at.young;
    allowed = gains.takes.plan.allowance ∙ at.allowed;
    lists = lists-taken p a b block m region at.lists (λ was. gains.unowned was.owner was.region was.note) gains.takes.notes gains.takes.owned gains.takes.room
        gains.takes.plan.counts (ap (λ (t : HeapState). t.blocks) gains.takes.words);
    flags = subst (λ z. FlagsCover p.rules (state_of b.row) z.items) (sym gains.takes.plan.flags)
        (subst (λ (t : HeapState). FlagsCover p.rules t a.flags.items) (sym (heap ∙ ap (λ k. heap_in p k) (stepping.machine-pushed p i log a at turn x)))
        (stepping.covers-next p i log a at turn x may-take refl refl a.flags.items (subst (λ (t : HeapState). FlagsCover p.rules t a.flags.items) at.heap at.flags)));
  }

  pub continues : Continues p i log m (effects.takes (block ∷ [])) b
  continues = record { more = stepping.entry-for p i log a at turn x ∷ []; own = (refl, tt); at = at-taken; entries = refl }
