-- Notes of rooms as a mutator changes one: it allocates in a region, takes a block, or draws a ticket.
use Rattle.std.proofs.Common.{◌≡◌, ◌≢◌, refl, sym, ◌∙◌, ap, subst, ℕ, ◌<◌, ◌≤◌, ◌⊎◌, inl, inr, ⊎_elim, arith, Option, List, ◌∷◌, length, length-set, slice_get}
use Rattle.std.specs.Prelude.{Some, None, slice_set, unwrap_or}
use Rattle.std.specs.List.{Contains}
use Rattle.std.proofs.lemmas.Bool.{cases_eq}
use Rattle.heap_layout.specs.Zones.{block_at}
use Rattle.heap_layout.specs.declared.block.Kind.{Kind}
use Rattle.heap_layout.specs.declared.region.Region.{Region}
use Rattle.object_model.specs.Objects.{HeapState, owner_at}
use Rattle.sessions.specs.Fitting.{HasHole, class_for}
use Rattle.block_regions.specs.Elements.{ChangesAt}
use Rattle.block_regions.proofs.Elements.{set-changes, changes-cases, set-here, set-other, read-some}
use lib.ListN.{get_or}
use Rattle.block_regions.proofs.Lists.{one-element, get-below}
use Rattle.block_regions.specs.declared.block_notes.BlockNote.{BlockNote}
use Rattle.block_regions.specs.declared.block_notes.BlockNote.TheVariants.{Unowned, Owned}
use Rattle.local_allocators.specs.declared.local_seat.LocalSeat.{LocalSeat}
use Rattle.local_allocators.specs.MutatorRegions.{FillsLines, IsBlockFor, cursors_of}
use Rattle.local_allocators.specs.NotedRegions.{region_of, region_noted}
use Rattle.local_allocators.specs.Seats.{block_of}
use Rattle.local_allocators.proofs.BlockReads.{block-there, option-read}
use Rattle.local_allocators.specs.NotedSeats.{HasNotedBlocks, regions_in}
use Rattle.local_allocators.proofs.SeatRegions.{lines-for}
use Rattle.mutator_core.specs.declared.state.Extent.{Extent}
use Rattle.mutator_core.specs.declared.state.OwnedBlock.{OwnedBlock}
use Rattle.mutator_core.specs.Machine.{Epoch}
use Rattle.mutator_core.proofs.Lists.{contains-cases}
use Rattle.racing_rooms.specs.Rooms.{Holdings, HasRoomsIn, AllocatesIn, IsOwnRegion, HasOwnNote, with_object}
use Rattle.racing_rooms.proofs.OwnRegions.{own-beside, own-more}

owned-owner-is : (o o' : ℕ) (r r' : Region) → Owned o r ≡ Owned o' r' → r ≡ r'
owned-owner-is o o' r r' e = cc

pub same-region : (notes : List BlockNote) (k o o' : ℕ) (r r' : Region) → slice_get notes k ≡ Some (Owned o r) → slice_get notes k ≡ Some (Owned o' r') → r ≡ r'
same-region notes k o o' r r' one two = owned-owner-is o o' r r' (one-element (slice_get notes k) (Owned o r) (Owned o' r') one two)

-- a block has a note with a region after block k got one
noted-more : (notes now : List BlockNote) (k owner : ℕ) (region : Region) → ChangesAt notes now k (Owned owner region) → (j : ℕ) → HasOwnNote notes j → HasOwnNote now j
noted-more notes now k owner region changes j has = elim (cases_eq j k) as (λ _. HasOwnNote now j) [
  | inl same ↦ subst (HasOwnNote now) (sym same) (record { owner = owner; region = region; note = changes.here })
  | inr other ↦ record { owner = has.owner; region = has.region; note = changes.others j other ∙ has.note }
]

-- The mutator has a rest of block k in place of its region: it allocated there, or a later hole is its region.
module _ (p : Epoch) (s : HeapState) (h g : Holdings) (notes : List BlockNote) (local : LocalSeat) (allowed : ℕ) (has : HasRoomsIn p s h notes local allowed) (k owner number : ℕ) (region rest : Region) (owned : g.owned ≡ h.owned) (ticket : g.ticket ≡ h.ticket)
    (note : slice_get notes k ≡ Some (Owned owner region)) (beside : (j class : ℕ) (r : Region) → j ≢ k → IsOwnRegion p h j class r → IsOwnRegion p g j class r) (left : (class : ℕ) → IsOwnRegion p h k class region → IsOwnRegion p g k class rest) where
  abbrev later : List BlockNote
  later = slice_set notes k (Owned number rest)

  changes : ChangesAt notes later k (Owned number rest)
  changes = set-changes notes k (Owned number rest) (get-below notes k (Owned owner region) note)

  allocates : (class j : ℕ) → AllocatesIn p h notes class j → AllocatesIn p g later class j
  allocates class j a = elim (cases_eq j k) as (λ _. AllocatesIn p g later class j) [
    | inl same ↦ subst (λ (q : ℕ). AllocatesIn p g later class q) (sym same) (record {
      owner = number;
      region = rest;
      note = changes.here;
      room = left class (subst (λ (r : Region). IsOwnRegion p h k class r) (same-region notes k a.owner owner a.region region (subst (λ (q : ℕ). slice_get notes q ≡ Some (Owned a.owner a.region)) same a.note) note)
          (subst (λ (q : ℕ). IsOwnRegion p h q class a.region) same a.room));
    })
    | inr other ↦ record { owner = a.owner; region = a.region; note = changes.others j other ∙ a.note; room = beside j class a.region other a.room }
  ]

  pub rooms-moved : HasRoomsIn p s g later local allowed
  rooms-moved = record {
    allows = has.allows;
    ticket = has.ticket ∙ sym ticket;
    len = changes.len ∙ has.len;
    unowned = λ j least is. elim (changes-cases notes later k (Owned number rest) changes j (Unowned least) is) as (λ _. (0 < owner_at s j) ⊎ ((at size : ℕ) → least ≤ size → HasHole p.rules.fill p.before j at size → ⊥)) [
      | inl now ↦ absurd (let wrong : Unowned least ≡ Owned number rest = now.1 in cc)
      | inr other ↦ has.unowned j least other.1
    ];
    owned = λ j o r is. elim (changes-cases notes later k (Owned number rest) changes j (Owned o r) is) as (λ _. (class : ℕ) × IsOwnRegion p g j class r) [
      | inl now ↦ (let was = has.owned k owner region note in (was.0, subst (λ (q : Region). IsOwnRegion p g j was.0 q) (sym (owned-owner-is o number r rest now.1)) (subst (λ (q : ℕ). IsOwnRegion p g q was.0 rest) (sym now.0) (left was.0 was.1))))
      | inr other ↦ (let was = has.owned j o r other.1 in (was.0, beside j was.0 r other.0 was.1))
    ];
    noted = λ o among. noted-more notes later k number rest changes o.block (has.noted o (subst (λ (os : List OwnedBlock). Contains os o) owned among));
    classes = has.classes;
    each = λ class j b. allocates class j (has.each class j b);
    over = λ j b. ((has.over j b).0, allocates 0 j (has.over j b).1);
  }

-- an object was allocated at the start of the region of block k, of which this rest is left
pub rooms-advanced : (p : Epoch) (s : HeapState) (h : Holdings) (notes : List BlockNote) (local : LocalSeat) (allowed : ℕ) → HasRoomsIn p s h notes local allowed → (k owner : ℕ) (region rest : Region) (x : Extent)
    → slice_get notes k ≡ Some (Owned owner region) → block_at p.before.blocks x.address ≡ k → ((class : ℕ) → IsOwnRegion p h k class region → IsOwnRegion p (with_object h x) k class rest)
    → HasRoomsIn p s (with_object h x) (slice_set notes k (Owned owner rest)) local allowed
rooms-advanced p s h notes local allowed has k owner region rest x note here left =
    rooms-moved p s h (with_object h x) notes local allowed has k owner owner region rest refl refl note (λ j class r other own. own-beside p h x j class r (λ same. other (sym same ∙ here)) own) left

-- the mutator allocates objects of the class in block k from now on, where it has a region for them
pub rooms-returned : (p : Epoch) (s : HeapState) (h : Holdings) (notes : List BlockNote) (local : LocalSeat) (allowed class k : ℕ) → HasRoomsIn p s h notes local allowed → class < 19 → AllocatesIn p h notes class k
    → HasRoomsIn p s h notes (record { ticket = local.ticket; blocks = slice_set local.blocks class (Some k); over = local.over }) allowed
rooms-returned p s h notes local allowed class k has few here = record {
  allows = has.allows;
  ticket = has.ticket;
  len = has.len;
  unowned = has.unowned;
  owned = has.owned;
  noted = has.noted;
  classes = length-set local.blocks class (Some k) ∙ has.classes;
  each = λ c j is. elim (cases_eq c class) as (λ _. AllocatesIn p h notes c j) [
    | inl same ↦ (
        let e : Some k ≡ Some j = one-element (slice_get (slice_set local.blocks class (Some k)) class) (Some k) (Some j)
        (set-here local.blocks class (Some k) (subst (λ (n : ℕ). class < n) (sym has.classes) few)) (subst (λ (q : ℕ). slice_get (slice_set local.blocks class (Some k)) q ≡ Some (Some j)) same is) in
        let is-k : k ≡ j = cc in
        subst (λ (q : ℕ). AllocatesIn p h notes q j) (sym same) (subst (λ (q : ℕ). AllocatesIn p h notes class q) is-k here))
    | inr other ↦ has.each c j (sym (set-other local.blocks class (Some k) c other) ∙ is)
  ];
  over = has.over;
}

-- the mutator took block k, whose region this is, and perhaps used its ticket
module _ (p : Epoch) (s t : HeapState) (h g : Holdings) (notes : List BlockNote) (local now : LocalSeat) (allowed : ℕ) (has : HasRoomsIn p s h notes local allowed) (k class owner : ℕ) (region : Region)
    (grows : (j : ℕ) → j < p.before.blocks → 0 < owner_at s j → 0 < owner_at t j) (there : k < p.before.blocks) (owned : g.owned ≡ (record { block = k; class = class }) ∷ h.owned) (made : g.made ≡ h.made)
    (ticket : now.ticket ≡ g.ticket) (own : IsOwnRegion p g k class region) (fresh : (o : OwnedBlock) → Contains h.owned o → o.block ≢ k)
    (blocks : (c j : ℕ) → slice_get now.blocks c ≡ Some (Some j) → ((c ≡ class) × (j ≡ k)) ⊎ (slice_get local.blocks c ≡ Some (Some j)))
    (long : length now.blocks ≡ length local.blocks)
    (over : (j : ℕ) → now.over ≡ Some j → (FillsLines p.rules.fill × (class ≡ 0) × (j ≡ k)) ⊎ (local.over ≡ Some j)) where
  abbrev after : List BlockNote
  after = slice_set notes k (Owned owner region)

  noted : ChangesAt notes after k (Owned owner region)
  noted = set-changes notes k (Owned owner region) (subst (λ n. k < n) (sym has.len) there)

  more : (j c : ℕ) (r : Region) → IsOwnRegion p h j c r → IsOwnRegion p g j c r
  more j c r is = own-more p h g (record { block = k; class = class }) j c r owned made is

  keeps : (c j : ℕ) → AllocatesIn p h notes c j → AllocatesIn p g after c j
  keeps c j a = record {
    owner = a.owner;
    region = a.region;
    note = noted.others j (fresh (record { block = j; class = c }) a.room.mine) ∙ a.note;
    room = more j c a.region a.room;
  }

  takes : AllocatesIn p g after class k
  takes = record { owner = owner; region = region; note = noted.here; room = own }

  pub rooms-taken : HasRoomsIn p t g after now allowed
  rooms-taken = record {
    allows = has.allows;
    ticket = ticket;
    len = noted.len ∙ has.len;
    unowned = λ j least is. elim (changes-cases notes after k (Owned owner region) noted j (Unowned least) is) as (λ _. (0 < owner_at t j) ⊎ ((at size : ℕ) → least ≤ size → HasHole p.rules.fill p.before j at size → ⊥)) [
      | inl here ↦ absurd (let wrong : Unowned least ≡ Owned owner region = here.1 in cc)
      | inr other ↦ elim (has.unowned j least other.1) as (λ _. (0 < owner_at t j) ⊎ ((at size : ℕ) → least ≤ size → HasHole p.rules.fill p.before j at size → ⊥)) [
        | inl some ↦ inl (grows j (subst (λ n. j < n) has.len (get-below notes j (Unowned least) other.1)) some)
        | inr none ↦ inr none
      ]
    ];
    owned = λ j o r is. elim (changes-cases notes after k (Owned owner region) noted j (Owned o r) is) as (λ _. (c : ℕ) × IsOwnRegion p g j c r) [
      | inl here ↦ (class, subst (λ (q : Region). IsOwnRegion p g j class q) (sym (owned-owner-is o owner r region here.1)) (subst (λ (q : ℕ). IsOwnRegion p g q class region) (sym here.0) own))
      | inr other ↦ (let was = has.owned j o r other.1 in (was.0, more j was.0 r was.1))
    ];
    noted = λ o among. ⊎_elim
        (λ (same : o ≡ record { block = k; class = class }). subst (HasOwnNote after) (ap (λ (q : OwnedBlock). q.block) (sym same)) (record { owner = owner; region = region; note = noted.here }))
        (λ (old : Contains h.owned o). noted-more notes after k owner region noted o.block (has.noted o old))
        (contains-cases (record { block = k; class = class }) h.owned o (subst (λ (os : List OwnedBlock). Contains os o) owned among));
    classes = long ∙ has.classes;
    each = λ c j b. elim (blocks c j b) as (λ _. AllocatesIn p g after c j) [
      | inl new ↦ subst (λ (q : ℕ). AllocatesIn p g after q j) (sym new.0) (subst (λ (q : ℕ). AllocatesIn p g after class q) (sym new.1) takes)
      | inr old ↦ keeps c j (has.each c j old)
    ];
    over = λ j b. elim (over j b) as (λ _. FillsLines p.rules.fill × AllocatesIn p g after 0 j) [
      | inl new ↦ (new.0, subst (λ (q : ℕ). AllocatesIn p g after q j) new.1 (subst (λ (q : ℕ). AllocatesIn p g after class q) (sym new.2) takes))
      | inr old ↦ ((has.over j old).0, keeps 0 j (has.over j old).1)
    ];
  }

block-read : (xs : List (Option ℕ)) (k b : ℕ) → unwrap_or (slice_get xs k) None ≡ Some b → slice_get xs k ≡ Some (Some b)
block-read xs k b is = block-there xs k b (sym (option-read xs k) ∙ is)

-- what a search reads of the notes
module _ (p : Epoch) (s : HeapState) (h : Holdings) (notes : List BlockNote) (local : LocalSeat) (allowed : ℕ) (has : HasRoomsIn p s h notes local allowed) where
  noted-below : (class k : ℕ) → AllocatesIn p h notes class k → k < length notes
  noted-below class k a = get-below notes k (Owned a.owner a.region) a.note

  pub has-noted : HasNotedBlocks p.rules.fill notes local
  has-noted = record {
    classes = has.classes;
    blocks = λ class k b. noted-below class k (has.each class k b);
    over = λ k lines b. noted-below 0 k (has.over k b).1;
  }

  -- the block of the hole region, or of the class 0
  pub hole-allocates : (k : ℕ) → block_of (Some local) 0 ≡ Some k → AllocatesIn p h notes 0 k
  hole-allocates k b = has.each 0 k (block-read local.blocks 0 k b)

  order-at : (class k : ℕ) → AllocatesIn p h notes class k → (region_of notes (Some k)).next ≤ (region_of notes (Some k)).end
  order-at class k a = subst (λ (o : Option BlockNote). (region_noted o).next ≤ (region_noted o).end) (sym a.note) a.room.order

  order-of : (b : Option ℕ) → ((k : ℕ) → b ≡ Some k → (class : ℕ) × AllocatesIn p h notes class k) → (region_of notes b).next ≤ (region_of notes b).end
  order-of None there = omega arith
  order-of (Some k) there = let is = there k refl in order-at is.0 k is.1

  pub hole-order : (cursors_of (regions_in notes local)).hole.next ≤ (cursors_of (regions_in notes local)).hole.end
  hole-order = order-of (block_of (Some local) 0) (λ k b. (0, has.each 0 k (block-read local.blocks 0 k b)))

  pub over-order : (cursors_of (regions_in notes local)).over.next ≤ (cursors_of (regions_in notes local)).over.end
  over-order = order-of local.over (λ k b. (0, (has.over k b).1))

  -- the block of the region for a size is one that the mutator allocates in, for the size's class
  pub block-allocates : (size k : ℕ) → IsBlockFor p.rules.fill (regions_in notes local) size k → AllocatesIn p h notes (class_for p.rules.fill size) k
  block-allocates size k (inl class) = has.each (class_for p.rules.fill size) k (block-read local.blocks (class_for p.rules.fill size) k class.1)
  block-allocates size k (inr over) = subst (λ (c : ℕ). AllocatesIn p h notes c k) (sym (lines-for p.rules.fill size over.0.lines)) (has.over k over.1).1

-- facts of what was read of a seat
pub as-read : (R : Kind → List BlockNote → LocalSeat → Type 0) (f fill : Kind) (ns notes : List BlockNote) (x local : LocalSeat) → f ≡ fill → ns ≡ notes → x ≡ local → R fill notes local → R f ns x
as-read R f fill ns notes x local kind same seat is = subst (λ (k : Kind). R k ns x) (sym kind) (subst (λ (n : List BlockNote). R fill n x) (sym same) (subst (λ (l : LocalSeat). R fill notes l) (sym seat) is))

-- the block of the region for a size, and its note, as they were read
module _ (p : Epoch) (s : HeapState) (h : Holdings) (notes : List BlockNote) (local : LocalSeat) (allowed : ℕ) (has : HasRoomsIn p s h notes local allowed) (f : Kind) (ns : List BlockNote) (x : LocalSeat) (kind : f ≡ p.rules.fill) (same : ns ≡ notes) (seat : x ≡ local)
    (size size' k : ℕ) (some : IsBlockFor f (regions_in ns x) size k) (size-is : size ≡ size') where
  here-for : IsBlockFor p.rules.fill (regions_in notes local) size k
  here-for = as-read (λ g ms y. IsBlockFor g (regions_in ms y) size k) p.rules.fill f notes ns local x (sym kind) (sym same) (sym seat) some

  here-allocates : AllocatesIn p h notes (class_for p.rules.fill size') k
  here-allocates = subst (λ (n : ℕ). AllocatesIn p h notes (class_for p.rules.fill n) k) size-is (block-allocates p s h notes local allowed has size k here-for)

  pub here-below : k < length notes
  here-below = get-below notes k (Owned here-allocates.owner here-allocates.region) here-allocates.note

  module _ (n : BlockNote) (owner : ℕ) (region : Region) (read : n ≡ get_or ns k n) (is : n ≡ Owned owner region) where
    pub here-note : slice_get notes k ≡ Some (Owned owner region)
    here-note = read-some notes k n here-below (read ∙ (λ j. get_or (same j) k n)) ∙ ap (λ (m : BlockNote). Some m) is

    pub here-own : IsOwnRegion p h k (class_for p.rules.fill size') region
    here-own = subst (λ (r : Region). IsOwnRegion p h k (class_for p.rules.fill size') r) (same-region notes k here-allocates.owner owner here-allocates.region region here-allocates.note here-note) here-allocates.room
