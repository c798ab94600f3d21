-- An object is published: its start bit is set, and the ideal heap allocates it.
use Rattle.std.proofs.Common.{◌≡◌, ◌≢◌, refl, sym, ◌∙◌, ap, subst, ℕ, zero, suc, ◌+◌, ◌*◌, ◌/◌, ◌%◌, ◌^◌, ◌<◌, ◌≤◌, ◌⊎◌, inl, inr, arith, IsTrue, List, slice_set, nat_eq, nat_lt, nat_le, add-zero, ◌∷◌}
use Rattle.std.specs.List.{Contains}
use Rattle.std.specs.Int.{bit_at}
use Rattle.std.proofs.Math.Nat.{mul-mod_left}
use Rattle.std.proofs.lemmas.Bool.{or_right, and_parts, ltb-true, leb-true}
use Rattle.std.proofs.lemmas.List.{length-set}
use Rattle.heap_layout.specs.Zones.{BlockWords, StartBits, PinBits, first, row_words, heap_of, block_at, offset_at}
use Rattle.heap_layout.specs.declared.block.Kind.TheVariants as kinds
use Rattle.ideal_heap.specs.declared.name.Name.{Name}
use Rattle.ideal_heap.specs.declared.reply.Reply.TheVariants as r
use Rattle.ideal_heap.specs.declared.command.Command.TheVariants as c
use Rattle.ideal_heap.specs.Names.{name}
use Rattle.ideal_heap.specs.Ideal.{IdealHeap, step}
use Rattle.object_model.specs.Objects.{HeapState, with_words, word_at, block_word, class_at, HasKind, is_pinned, is_unlogged, IsHeld, name_at, refs_at, nums_at, size_at, size_of, cell_words}
use Rattle.object_model.specs.Ages.{is_old}
use Rattle.object_model.specs.Lawful.{IsWellFormed, LiesInCell, FreeBlockIsClear}
use Rattle.object_model.specs.Graphs.{MutatorState, IsMutatorState, numbers_of}
use Rattle.object_model.specs.Agreement.{RepresentsOn}
use Rattle.object_model.specs.Changes.{WritesObject}
use Rattle.object_model.specs.Births.{IsVacant, IsRoom}
use Rattle.object_model.proofs.Among.{all-at, number-among}
use Rattle.object_model.proofs.Births as births
use Rattle.object_model.proofs.Births.{Adds}
use Rattle.object_model.proofs.BirthRepresentation.{birth-models}
use Rattle.object_model.proofs.Frames.{HasKind-back, kind-in}
use Rattle.object_model.proofs.OneKind.{one-kind}
use Rattle.sessions.proofs.Holes.{class-room}
use Rattle.mutator_core.specs.declared.state.Local.{Local}
use Rattle.mutator_core.specs.declared.state.Extent.{Extent}
use Rattle.mutator_core.specs.declared.state.OwnedBlock.{OwnedBlock}
use Rattle.mutator_core.specs.declared.state.Unpublished.{Unpublished}
use Rattle.mutator_core.specs.declared.state.Event.TheVariants as e
use Rattle.mutator_core.specs.Machine.{Epoch, Machine, heap_in, mutators_in, mutator_of, next, next_name, birth_word, published}
use Rattle.side_meta.specs.BitWords.{with_bit}
use Rattle.object_model.specs.BitWords.{bit_word, bit_place}
use Rattle.mutator_core.specs.Guards.{IsPlaceOfMutator, IsCell, IsWriting, BeginsRegion}
use Rattle.mutator_core.specs.Epochs.{EpochMayBegin, IsInEpoch, IsOwned, IsMade, IsUnpublished, KnowsItsState}
use Rattle.mutator_core.proofs.Lists.{contains-cases, contains-here, contains-there, with_local, local-cases, mutators-with_birth}
use Rattle.mutator_core.proofs.Places.{place-clear}
use Rattle.mutator_core.proofs.Fills.{fill-small, fill-not-free, fills-cells, owned-kind, owned-class}
use Rattle.mutator_core.proofs.Kept.{Leaves, knows-left, size-left, remembers-left}
use Rattle.object_model.proofs.BitWords as bits
use Rattle.side_meta.proofs.BitWords as single
use Rattle.mutator_core.proofs.Moments.{Holds, one-of}

birth-blank : (n : Name) (refs nums offset : ℕ) → 2 ≤ offset → birth_word n refs nums offset ≡ 0
birth-blank n refs nums zero least = absurd (omega arith)
birth-blank n refs nums (suc zero) least = absurd (omega arith)
birth-blank n refs nums (suc (suc offset)) least = refl

-- an object more that the mutator allocated
more-region : (p : Epoch) (y : Extent) (made : List Extent) (a size : ℕ) → BeginsRegion p made a size → BeginsRegion p (y ∷ made) a size
more-region p y made a size begins = elim begins as (λ _. BeginsRegion p (y ∷ made) a size) [
  | inl cells ↦ inl cells
  | inr other ↦ elim other as (λ _. BeginsRegion p (y ∷ made) a size) [
    | inl hole ↦ inr (inl hole)
    | inr rest ↦ elim rest as (λ _. BeginsRegion p (y ∷ made) a size) [
      | inl free ↦ inr (inr (inl free))
      | inr behind ↦ inr (inr (inr (behind.0, contains-there y made behind.0 behind.1, behind.2, behind.3)))
    ]
  ]
]

module _ (p : Epoch) (ready : EpochMayBegin p) (h : Machine) (i : IdealHeap) (set : ℕ → Type 0) (now : Holds p h i set) (m : ℕ) (known : Contains (numbers_of p.mutators) m)
    (d refs nums : ℕ) (small : d < 16) (some : 0 < (h.locals m).unpublished.address)
    (whole : IsWriting (h.locals m) (h.locals m).unpublished.address refs nums (size_of refs nums)) where
  abbrev s : HeapState
  s = heap_in p h

  abbrev l : Local
  l = h.locals m

  abbrev a : ℕ
  a = (h.locals m).unpublished.address

  abbrev n : Name
  n = next_name (h.locals m)

  order : IsWellFormed s
  order = now.models.order

  abbrev complete : Unpublished
  complete = record { address = (h.locals m).unpublished.address; refs = refs; nums = nums; written = size_of refs nums }

  begun : IsUnpublished p s n l.owned l.made complete
  begun = subst (IsUnpublished p s n l.owned l.made) whole ((now.epoch.knows m).unpublished some)

  place : IsPlaceOfMutator p l.owned a (size_of refs nums)
  place = begun.available.place

  owned : IsOwned p s l.number place.owned
  owned = (now.epoch.knows m).owned place.owned place.among

  kind : HasKind s (block_at s.blocks a) p.rules.fill
  kind = subst (λ (k : ℕ). HasKind s k p.rules.fill) place.here (owned-kind p s l.number place.owned owned)

  class : class_at s (block_at s.blocks a) ≡ place.owned.class
  class = sym (ap (class_at s) place.here) ∙ owned-class p s l.number place.owned owned

  -- the mutator
  state : IsMutatorState (mutator_of l)
  state = all-at IsMutatorState (mutators_in p h) (mutator_of l) now.models.mutators.each (one-of p h i set now m known)

  births-are : i.births l.number ≡ l.births
  births-are = all-at (λ x. i.births x.number ≡ x.births) (mutators_in p h) (mutator_of l) now.models.births.births (one-of p h i set now m known)

  -- the name is new
  fresh : (x : ℕ) → IsHeld s x → name_at s x ≢ n
  fresh x holds same =
      let found = now.models.births.held x holds in
      let y : MutatorState = found.1 in
      let who : l.number ≡ y.number = sym (ap (λ k. k.mutator) same) ∙ found.4.0 in
      let least : l.births + 1 ≤ y.births = subst (λ (k : ℕ). k ≤ y.births) (ap (λ k. k.birth) same) found.4.1 in
      let count : i.births y.number ≡ y.births = all-at (λ z. i.births z.number ≡ z.births) (mutators_in p h) y now.models.births.births (found.0, found.2, found.3) in
      let equal : y.births ≡ l.births = sym count ∙ ap i.births (sym who) ∙ births-are in
      omega arith

  vacant : IsVacant s a n refs nums
  vacant = record {
    address = place.address;
    named = record { least = state.least; most = state.most; born = omega arith; fits = begun.few_births };
    few_refs = begun.few_refs;
    few_nums = begun.few_nums;
    apart = place-clear p ready h now.epoch m a (size_of refs nums) begun.available;
    fresh = fresh;
  }

  lies-in-cell : HasKind s (block_at s.blocks a) kinds.Cells → LiesInCell s a (size_of refs nums)
  lies-in-cell cells =
      let cell : IsCell a (size_of refs nums) s.blocks place.owned.class = place.cell (fills-cells p.rules.fill (one-kind s (block_at s.blocks a) p.rules.fill kinds.Cells kind cells)) in
      record {
        start = subst (λ (q : ℕ). offset_at s.blocks a % cell_words q ≡ 0) (sym class) (ap (λ x. x % cell_words place.owned.class) cell.start ∙ mul-mod_left cell.index (cell_words place.owned.class));
        room = subst (λ (q : ℕ). size_of refs nums ≤ cell_words q) (sym class) (class-room (size_of refs nums) place.owned.class cell.fits);
        within = subst (λ (q : ℕ). offset_at s.blocks a + cell_words q ≤ 4096) (sym class) cell.inside;
      }

  room : IsRoom s a n refs nums
  room = record {
    vacant = vacant;
    small = begun.small;
    place = record {
      address = place.address;
      within = place.inside;
      kind = fill-small s (block_at s.blocks a) p.rules.fill ready.fills kind;
      cell = lies-in-cell;
    };
  }

  abbrev k : ℕ
  k = bit_place p.before.blocks (h.locals m).unpublished.address

  abbrev word : ℕ
  word = word_at (heap_in p h) (bit_word p.before.blocks StartBits (h.locals m).unpublished.address)

  abbrev w : List ℕ
  w = slice_set h.words (bit_word p.before.blocks StartBits (h.locals m).unpublished.address) (with_bit word k)

  abbrev after : HeapState
  after = with_words s w

  fits : with_bit word k < 2 ^ 64
  fits = single.with-fits word k (order.row.words (bit_word p.before.blocks StartBits a)) (omega arith)

  rest : (j : ℕ) → j < 64 → j ≢ bit_place s.blocks a → bit_at (with_bit word k) j ≡ bit_at (word_at s (bit_word s.blocks StartBits a)) j
  rest j less other = single.with-other word k j other

  other : (j : ℕ) → j ≢ bit_word s.blocks StartBits a → word_at after j ≡ word_at s j
  other = bits.word-other s order StartBits a (with_bit word k) place.address (omega arith) fits rest

  before-heap : (bit_word s.blocks StartBits a < heap_of s.blocks) × (18 + 5 * s.blocks ≤ bit_word s.blocks StartBits a)
  before-heap = (bits.word-before s order StartBits a (with_bit word k) place.address (omega arith) fits rest, omega arith)

  heap-word : (j : ℕ) → heap_of s.blocks ≤ j → word_at after j ≡ word_at s j
  heap-word j from = other j (λ e. let before = before-heap.0 in omega arith)

  own-word : (j : ℕ) → j < size_of refs nums → word_at after (a + j) ≡ birth_word n refs nums j
  own-word j less = heap-word (a + j) (let from : heap_of s.blocks ≤ a = place.address.from in omega arith) ∙ begun.words j less

  writes : WritesObject s after a n refs nums
  writes = record {
    blocks = refl;
    number = refl;
    base = refl;
    extent = length-set h.words (bit_word p.before.blocks StartBits a) (with_bit word k);
    words = bits.words-fit s order StartBits a (with_bit word k) place.address (omega arith) fits rest;
    name = ap (word_at after) (sym (add-zero a)) ∙ own-word 0 (omega arith);
    shape = own-word 1 (omega arith);
    blank = λ j least less. own-word j less ∙ birth-blank n refs nums j least;
    start = bits.bit-own s order StartBits a (with_bit word k) place.address (omega arith) fits rest ∙ ap (λ x. nat_eq x 1) (single.with-same word k);
    starts = λ j inside differ. bits.bit-other s order StartBits a (with_bit word k) place.address (omega arith) fits rest j differ;
    others = λ j outside differ. other j differ;
  }

  adds : Adds s w a n refs nums
  adds = births.adds s w a n refs nums writes place.address

  order-after : IsWellFormed after
  order-after = births.order-written s w a n refs nums writes order room

  abbrev joined : ℕ → Type 0
  joined x = set x ⊎ (x ≡ a)

  abbrev l' : Local
  l' = published (h.locals m) d refs nums

  named : name m (i.births m + 1) ≡ n
  named = ap (λ q. name q (i.births q + 1)) (sym (now.epoch.numbers m)) ∙ ap (λ q. name l.number (q + 1)) births-are

  models : RepresentsOn after (mutators_in p (next p h m (e.Perform (c.New d refs nums)))) (step i m (c.New d refs nums)).1 joined
  unfolding step
  models = subst (λ (ms : List MutatorState). RepresentsOn after ms (step i m (c.New d refs nums)).1 joined)
      (mutators-with_birth m d a h.locals l' (numbers_of p.mutators) now.epoch.numbers refl)
      (birth-models s w (mutators_in p h) i set now.models m d a refs nums
      (subst (λ (q : Name). Adds s w a q refs nums) (sym named) adds) (subst (λ (q : Name). IsVacant s a q refs nums) (sym named) vacant) order-after small
      (subst (λ (q : ℕ). Contains (numbers_of (mutators_in p h)) q) (now.epoch.numbers m) (number-among (mutators_in p h) (mutator_of l) (one-of p h i set now m known))))

  leaves : Leaves s w
  leaves = record {
    held = births.held-after s w a n refs nums adds vacant;
    headers = λ x j holds few. heap-word (x + j) (let from : heap_of s.blocks ≤ x = holds.address.from in omega arith);
    owners = λ q there owner. other (first s.blocks BlockWords + q) (λ e. let beyond = before-heap.1 in omega arith);
    unlogs = λ x is. sym (adds.unlogs x) ∙ is;
    lines = births.lines-same s w a n refs nums writes place.address;
  }

  left : (q : ℕ) → KnowsItsState p after (h.locals q)
  left q = knows-left p s w leaves (h.locals q) (λ there j less. let u = (now.epoch.knows q).unpublished there in
      heap-word ((h.locals q).unpublished.address + j) (let from : heap_of p.before.blocks ≤ (h.locals q).unpublished.address = u.available.place.address.from in omega arith)) (now.epoch.knows q)

  abbrev extent : Extent
  extent = record { address = (h.locals m).unpublished.address; size = size_of refs nums }

  no-bit : IsTrue (is_unlogged s a) → ⊥
  no-bit set = births.not-held s w a n refs nums adds vacant (order.objects.marks a (or_right (is_pinned s a) (is_unlogged s a) set))

  made : IsMade p after l.owned extent
  made = record {
    held = births.held-new s w a n refs nums adds vacant;
    same = births.new-size s w a n refs nums adds vacant;
    place = place;
    unclaimed = writes.blank 2 (omega arith) (omega arith);
    unmarked = λ is. no-bit (sym (adds.unlogs a) ∙ is);
  }

  knows : KnowsItsState p after l'
  knows = record {
    owned = (left m).owned;
    objects = λ x there. elim (contains-cases extent l.made x there) as (λ _. IsMade p after l.owned x) [
      | inl e ↦ subst (IsMade p after l.owned) (sym e) made
      | inr before ↦ (left m).objects x before
    ];
    regions = λ x there. more-region p extent l.made x.address x.size (elim (contains-cases extent l.made x there) as (λ _. BeginsRegion p l.made x.address x.size) [
      | inl e ↦ subst (λ (y : Extent). BeginsRegion p l.made y.address y.size) (sym e) begun.region
      | inr before ↦ (left m).regions x before
    ]);
    unpublished = λ nothing. absurd (omega arith);
    header = (left m).header;
    age = (left m).age;
    cleared = (left m).cleared;
  }

  abbrev locals : ℕ → Local
  locals = with_local h.locals m l'

  free : (q : ℕ) → FreeBlockIsClear after q
  free q is =
      let same : (j : ℕ) → j < s.blocks → block_word after j ≡ block_word s j = births.block_words s w a n refs nums writes place.address in
      let before : HasKind s q kinds.Free = HasKind-back s w same q kinds.Free is in
      let inside : offset_at s.blocks a + size_of refs nums ≤ 4096 = place.inside in
      let from : heap_of s.blocks ≤ a = place.address.from in
      births.clear-after s w a n refs nums adds vacant q
      (λ j least less e. fill-not-free s q p.rules.fill ready.fills (let here : block_at s.blocks a ≡ q = omega arith in subst (λ (x : ℕ). HasKind s x p.rules.fill) here kind) before)
      (λ line few. births.lines-same s w a n refs nums writes place.address q line (kind-in s w same q kinds.Free before) few)
      (now.epoch.free q before)

  epoch : IsInEpoch p after locals
  epoch = record {
    numbers = λ q. local-cases (λ j x. x.number ≡ j) h.locals m l' q (λ e. now.epoch.numbers m) (λ differ. now.epoch.numbers q);
    knows = λ q. local-cases (λ j x. KnowsItsState p after x) h.locals m l' q (λ e. knows) (λ differ. left q);
    stays = λ x before. let is = now.epoch.stays x before in (leaves.held x is.0, λ j few. leaves.headers x j is.0 few ∙ is.1 j few);
    births = λ x holds. elim (births.held-cases s w a n refs nums adds vacant x holds) as (λ _. IsHeld p.before x ⊎ ((q : ℕ) × Contains (locals q).made (record { address = x; size = size_at after x }))) [
      | inl e ↦ inr (
        m,
        local-cases (λ j y. j ≡ m → Contains y.made (record { address = x; size = size_at after x })) h.locals m l' m
            (λ own same. subst (λ (z : Extent). Contains (extent ∷ l.made) z) (sym (ap (λ y. record { address = y; size = size_at after y }) e ∙ ap (λ y. record { address = a; size = y }) (births.new-size s w a n refs nums adds vacant)))
            (contains-here extent l.made))
            (λ differ same. absurd (differ same)) refl,
      )
      | inr before ↦ elim (now.epoch.births x before) as (λ _. IsHeld p.before x ⊎ ((q : ℕ) × Contains (locals q).made (record { address = x; size = size_at after x }))) [
        | inl there ↦ inl there
        | inr allocated ↦ inr (
          allocated.0,
          subst (λ (z : ℕ). Contains (locals allocated.0).made (record { address = x; size = z })) (sym (size-left p s w leaves x before))
              (local-cases (λ j y. Contains (h.locals j).made (record { address = x; size = size_at s x }) → Contains y.made (record { address = x; size = size_at s x })) h.locals m l' allocated.0
              (λ e. contains-there extent l.made (record { address = x; size = size_at s x })) (λ differ there. there) allocated.1),
        )
      ]
    ];
    free = free;
    blocks = λ q there. elim (now.epoch.blocks q there) as (λ _. (block_word after q ≡ block_word p.before q) ⊎ ((j : ℕ) × (o : OwnedBlock) × Contains (locals j).owned o × (o.block ≡ q))) [
      | inl same ↦ inl (births.block_words s w a n refs nums writes place.address q there ∙ same)
      | inr own ↦ inr (own.0, own.1, local-cases (λ j x. Contains (h.locals j).owned own.1 → Contains x.owned own.1) h.locals m l' own.0 (λ e there. there) (λ differ there. there) own.2, own.3)
    ];
    lines = λ q line there few. leaves.lines q line there few ∙ now.epoch.lines q line there few;
    unlogs = λ x is. now.epoch.unlogs x (leaves.unlogs x is);
    members = λ q x there. local-cases (λ j y. Contains y.owned x → Contains (numbers_of p.mutators) j) h.locals m l' q (λ e has. known) (λ differ. now.epoch.members q x) there;
    remembers = remembers-left p s w leaves old-object old-bit
        (λ young x j holds less aged unlogged. heap-word (x + 3 + j) (let from : heap_of s.blocks ≤ x = holds.address.from in omega arith)) now.epoch.remembers;
  }
    where
      -- the new object has no unlog bit
      old-bit : (x : ℕ) → IsHeld after x → IsTrue (is_unlogged s x) → IsHeld s x
      old-bit x holds set = elim (births.held-cases s w a n refs nums adds vacant x holds) as (λ _. IsHeld s x) [
        | inr before ↦ before
        | inl e ↦ absurd (no-bit (subst (λ (y : ℕ). IsTrue (is_unlogged s y)) e set))
      ]

      -- the new object is young
      old-object : (x : ℕ) → IsHeld after x → IsTrue (is_old after x) → IsHeld s x
      old-object x holds aged = elim (births.held-cases s w a n refs nums adds vacant x holds) as (λ _. IsHeld s x) [
        | inr before ↦ before
        | inl e ↦ absurd (
            let both = and_parts (nat_lt 0 s.base) (nat_le s.base (word_at after (x + 2) / 2 ^ 24)) aged in
            let some : 0 < s.base = ltb-true 0 s.base both.0 in
            let least : s.base ≤ word_at after (x + 2) / 2 ^ 24 = leb-true s.base (word_at after (x + 2) / 2 ^ 24) both.1 in
            let blank : word_at after (x + 2) ≡ 0 = ap (λ y. word_at after (y + 2)) e ∙ writes.blank 2 (omega arith) (omega arith) in
            omega arith)
      ]

  -- the object that is published
  pub newborn : IsHeld after a × (name_at after a ≡ n) × (refs_at after a ≡ refs) × (nums_at after a ≡ nums)
  newborn = (births.held-new s w a n refs nums adds vacant, births.new-name s w a n refs nums adds vacant, births.new-refs s w a n refs nums adds vacant, births.new-nums s w a n refs nums adds vacant)

  pub starts-in-zone : (18 + 5 * s.blocks ≤ bit_word s.blocks StartBits a) × (bit_word s.blocks StartBits a < first s.blocks PinBits)
  starts-in-zone = let from : heap_of s.blocks ≤ a = place.address.from in let below : a < row_words s.blocks = place.address.below in (omega arith, omega arith)

  pub size-small : size_of refs nums ≤ 2048
  size-small = begun.small

  pub publish : (r.New (next_name (h.locals m)) ≡ (step i m (c.New d refs nums)).0) × Holds p (next p h m (e.Perform (c.New d refs nums))) (step i m (c.New d refs nums)).1 (λ x. set x ⊎ (x ≡ (h.locals m).unpublished.address))
      × Leaves (heap_in p h) (next p h m (e.Perform (c.New d refs nums))).words
  unfolding step
  publish = (ap (λ q. r.New q) (sym named), record { models = models; epoch = epoch }, leaves)
