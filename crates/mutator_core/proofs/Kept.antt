-- What a mutator knows stays true if a step leaves the words that it depends on.
use Rattle.std.proofs.Common.{◌≡◌, ◌≢◌, sym, ◌∙◌, ap, subst, ℕ, ◌+◌, ◌/◌, ◌%◌, ◌^◌, ◌<◌, ◌≤◌, ◌⊎◌, inl, inr, arith, ◌&&◌, IsTrue, List, slice_set, nat_lt, nat_le}
use Rattle.std.specs.List.{Contains}
use Rattle.std.proofs.lemmas.Bool.{or_left}
use Rattle.std.proofs.lemmas.List.{get_or-set_other}
use Rattle.heap_layout.specs.Zones.{heap_of}
use Rattle.heap_layout.specs.declared.block.Kind.TheVariants as kinds
use Rattle.object_model.specs.Objects.{HeapState, with_words, word_at, block_word, owner_at, HasKind, line_marked, is_pinned, is_unlogged, IsHeld, IsInExtent, refs_at, ref_at, size_at, size_of, is_reference}
use Rattle.object_model.specs.Ages.{is_old}
use Rattle.object_model.specs.Lawful.{IsWellFormed, FreeBlockIsClear}
use Rattle.object_model.specs.Graphs.{numbers_of}
use Rattle.object_model.specs.Changes.{ObjectsStay}
use Rattle.object_model.proofs.Frames as frames
use Rattle.object_model.proofs.OneKind.{kind-within}
use Rattle.mutator_core.specs.declared.state.Local.{Local}
use Rattle.sessions.specs.Collecting.{Remembers}
use Rattle.mutator_core.specs.declared.state.Extent.{Extent}
use Rattle.mutator_core.specs.declared.state.OwnedBlock.{OwnedBlock}
use Rattle.mutator_core.specs.Machine.{Epoch, Machine, heap_in}
use Rattle.mutator_core.specs.Epochs.{EpochMayBegin, IsInEpoch, IsMade, IsOwned, KnowsItsState}
use Rattle.mutator_core.proofs.Lists.{with_local, local-cases}
use Rattle.mutator_core.proofs.Fills.{owned-owner}
use Rattle.mutator_core.proofs.Places.{place-clear}

-- a step leaves held objects with their headers, the words of blocks that somebody owns, and clear unlog bits
pub record Leaves (s : HeapState) (w : List ℕ) : Type 0 where
  pub held : (a : ℕ) → IsHeld s a → IsHeld (with_words s w) a
  pub headers : (a i : ℕ) → IsHeld s a → i < 3 → word_at (with_words s w) (a + i) ≡ word_at s (a + i)
  pub owners : (k : ℕ) → k < s.blocks → 0 < owner_at s k → block_word (with_words s w) k ≡ block_word s k
  pub unlogs : (a : ℕ) → IsTrue (is_unlogged (with_words s w) a) → IsTrue (is_unlogged s a)
  pub lines : (k line : ℕ) → k < s.blocks → line < 256 → line_marked (with_words s w) k line ≡ line_marked s k line

pub leaves-kept : (s : HeapState) (w : List ℕ) → ObjectsStay s (with_words s w) → Leaves s w
leaves-kept s w keeps = record {
  held = frames.held-after s w keeps;
  headers = keeps.headers;
  owners = λ k there some. keeps.block_words k there;
  unlogs = keeps.unlogs;
  lines = keeps.lines;
}

pub free-kept : (s : HeapState) (w : List ℕ) → ObjectsStay s (with_words s w) → IsWellFormed (with_words s w) → ((k : ℕ) → FreeBlockIsClear s k) → (k : ℕ) → FreeBlockIsClear (with_words s w) k
free-kept s w keeps order free k is =
    let before : HasKind s k kinds.Free = frames.HasKind-back s w keeps.block_words k kinds.Free is in
    frames.clear-after s w keeps (λ a pin. frames.held-before s w keeps a (order.objects.marks a (or_left (is_pinned (with_words s w) a) (is_unlogged (with_words s w) a) pin)))
    k (kind-within s k kinds.Free before) (free k before)

-- the words stored of unpublished objects are unchanged
abbrev pub Untouched : HeapState → (ℕ → Local) → List ℕ → Type 0
Untouched s locals w = (k j : ℕ) → 0 < (locals k).unpublished.address → j < (locals k).unpublished.written
    → word_at (with_words s w) ((locals k).unpublished.address + j) ≡ word_at s ((locals k).unpublished.address + j)

module _ (p : Epoch) (s : HeapState) (w : List ℕ) (leaves : Leaves s w) where
  abbrev after : HeapState
  after = with_words s w

  pub size-left : (a : ℕ) → IsHeld s a → size_at after a ≡ size_at s a
  size-left a holds = ap (λ v. size_of (v % 65536) (v / 65536)) (leaves.headers a 1 holds (omega arith))

  pub owned-left : (number : ℕ) (o : OwnedBlock) → IsOwned p s number o → IsOwned p after number o
  owned-left number o is = record {
    inside = is.inside;
    somebody = is.somebody;
    valid = is.valid;
    word = leaves.owners o.block is.inside (subst (λ (n : ℕ). 0 < n) (sym (owned-owner p s number o is)) is.somebody) ∙ is.word;
    before = is.before;
  }

  pub made-left : (blocks : _) (x : Extent) → IsMade p s blocks x → IsMade p after blocks x
  made-left blocks x is = record {
    held = leaves.held x.address is.held;
    same = size-left x.address is.held ∙ is.same;
    place = is.place;
    unclaimed = leaves.headers x.address 2 is.held (omega arith) ∙ is.unclaimed;
    unmarked = λ set. is.unmarked (leaves.unlogs x.address set);
  }

  pub knows-left : (l : Local) → (0 < l.unpublished.address → (j : ℕ) → j < l.unpublished.written → word_at after (l.unpublished.address + j) ≡ word_at s (l.unpublished.address + j))
      → KnowsItsState p s l → KnowsItsState p after l
  knows-left l untouched knows = record {
    owned = λ o known. owned-left l.number o (knows.owned o known);
    objects = λ x known. made-left l.owned x (knows.objects x known);
    regions = knows.regions;
    unpublished = λ some. let is = knows.unpublished some in record {
      few_births = is.few_births;
      few_refs = is.few_refs;
      few_nums = is.few_nums;
      small = is.small;
      most = is.most;
      available = is.available;
      region = is.region;
      words = λ k less. untouched some k less ∙ is.words k less;
    };
    header = λ some. let is = knows.header some in (leaves.held l.shape.at is.0, leaves.headers l.shape.at 1 is.0 (omega arith) ∙ is.1);
    age = λ some. let is = knows.age some in (leaves.held l.collector.at is.0, leaves.headers l.collector.at 2 is.0 (omega arith) ∙ is.1);
    cleared = λ some set. knows.cleared some (leaves.unlogs l.logged set);
  }

-- the fields of old objects whose unlog bits are set are unchanged
abbrev pub KeepsFields : Epoch → HeapState → List ℕ → Type 0
KeepsFields p s w = IsTrue p.rules.young → (a j : ℕ) → IsHeld s a → j < refs_at s a → IsTrue (is_old s a) → IsTrue (is_unlogged s a) → ref_at (with_words s w) a j ≡ ref_at s a j

-- so references to young objects are remembered, and no young object gets an unlog bit
pub remembers-left : (p : Epoch) (s : HeapState) (w : List ℕ) → Leaves s w → ((a : ℕ) → IsHeld (with_words s w) a → IsTrue (is_old (with_words s w) a) → IsHeld s a)
    → ((a : ℕ) → IsHeld (with_words s w) a → IsTrue (is_unlogged s a) → IsHeld s a) → KeepsFields p s w → Remembers p.rules s → Remembers p.rules (with_words s w)
remembers-left p s w leaves only bits fields old young = record {
  fields = λ a j holds aged unlogged less some. (
      let before : IsHeld s a = only a holds aged in
      let few : j < refs_at s a = subst (λ (v : ℕ). j < v % 65536) (leaves.headers a 1 before (omega arith)) less in
      let was : IsTrue (is_old s a) = sym (old-left a before) ∙ aged in
      let set : IsTrue (is_unlogged s a) = leaves.unlogs a unlogged in
      let same : ref_at (with_words s w) a j ≡ ref_at s a j = fields young a j before few was set in
      let target = (old young).fields a j before was set few (subst (λ (v : ℕ). IsTrue (is_reference v)) same some) in
      subst (λ (v : ℕ). IsHeld (with_words s w) v × IsTrue (is_old (with_words s w) v)) (sym same) (leaves.held (ref_at s a j) target.0, old-left (ref_at s a j) target.0 ∙ target.1));
  marked = λ a holds unlogged. (
      let set : IsTrue (is_unlogged s a) = leaves.unlogs a unlogged in
      let before : IsHeld s a = bits a holds set in
      old-left a before ∙ (old young).marked a before set);
}
  where
    old-left : (x : ℕ) → IsHeld s x → is_old (with_words s w) x ≡ is_old s x
    old-left x there = ap (λ v. nat_lt 0 s.base && nat_le s.base (v / 2 ^ 24)) (leaves.headers x 2 there (omega arith))

-- the invariants hold for another row, if no block is taken
pub epoch-left : (p : Epoch) (h : Machine) (w : List ℕ) → IsInEpoch p (heap_in p h) h.locals → Leaves (heap_in p h) w
    → ((a : ℕ) → IsHeld (with_words (heap_in p h) w) a → IsHeld (heap_in p h) a) → ((k : ℕ) → FreeBlockIsClear (with_words (heap_in p h) w) k)
    → ((k : ℕ) → k < p.before.blocks → block_word (with_words (heap_in p h) w) k ≡ block_word (heap_in p h) k) → KeepsFields p (heap_in p h) w
    → Untouched (heap_in p h) h.locals w → IsInEpoch p (with_words (heap_in p h) w) h.locals
epoch-left p h w now leaves only free words fields untouched = record {
  numbers = now.numbers;
  knows = λ m. knows-left p (heap_in p h) w leaves (h.locals m) (λ some j. untouched m j some) (now.knows m);
  stays = λ a before. let is = now.stays a before in (leaves.held a is.0, λ i few. leaves.headers a i is.0 few ∙ is.1 i few);
  births = λ a holds. let before : IsHeld (heap_in p h) a = only a holds in
      elim (now.births a before) as (λ _. IsHeld p.before a ⊎ ((m : ℕ) × Contains (h.locals m).made (record { address = a; size = size_at (with_words (heap_in p h) w) a }))) [
        | inl there ↦ inl there
        | inr allocated ↦ inr (allocated.0, subst (λ (n : ℕ). Contains (h.locals allocated.0).made (record { address = a; size = n })) (sym (size-left p (heap_in p h) w leaves a before)) allocated.1)
      ];
  free = free;
  blocks = λ k there. elim (now.blocks k there) as (λ _. (block_word (with_words (heap_in p h) w) k ≡ block_word p.before k) ⊎ ((m : ℕ) × (o : OwnedBlock) × Contains (h.locals m).owned o × (o.block ≡ k))) [
    | inl same ↦ inl (words k there ∙ same)
    | inr owned ↦ inr owned
  ];
  lines = λ k line there few. leaves.lines k line there few ∙ now.lines k line there few;
  unlogs = λ a set. now.unlogs a (leaves.unlogs a set);
  remembers = remembers-left p (heap_in p h) w leaves (λ a holds aged. only a holds) (λ a holds set. only a holds) fields now.remembers;
  members = now.members;
}

-- the lists of a mutator's objects and blocks only grow
abbrev pub Grows : Local → Local → Type 0
Grows l l' = ((x : Extent) → Contains l.made x → Contains l'.made x) × ((o : OwnedBlock) → Contains l.owned o → Contains l'.owned o)

pub grown : (l : Local) → Grows l l
grown l = (λ x there. there, λ o there. there)

-- the same with another state of one mutator
pub epoch-with : (p : Epoch) (s : HeapState) (locals : ℕ → Local) (m : ℕ) (l : Local) → IsInEpoch p s locals → Contains (numbers_of p.mutators) m → l.number ≡ m → KnowsItsState p s l
    → Grows (locals m) l → IsInEpoch p s (with_local locals m l)
epoch-with p s locals m l now known number knows grows = record {
  numbers = λ k. local-cases (λ q x. x.number ≡ q) locals m l k (λ e. number) (λ other. now.numbers k);
  knows = λ k. local-cases (λ q x. KnowsItsState p s x) locals m l k (λ e. knows) (λ other. now.knows k);
  stays = now.stays;
  births = λ a holds. elim (now.births a holds) as (λ _. IsHeld p.before a ⊎ ((k : ℕ) × Contains (with_local locals m l k).made (record { address = a; size = size_at s a }))) [
    | inl there ↦ inl there
    | inr allocated ↦ inr (
      allocated.0,
      local-cases (λ q x. Contains (locals q).made (record { address = a; size = size_at s a }) → Contains x.made (record { address = a; size = size_at s a })) locals m l allocated.0
          (λ e. grows.0 (record { address = a; size = size_at s a })) (λ other known. known) allocated.1,
    )
  ];
  free = now.free;
  blocks = λ k there. elim (now.blocks k there) as (λ _. (block_word s k ≡ block_word p.before k) ⊎ ((q : ℕ) × (o : OwnedBlock) × Contains (with_local locals m l q).owned o × (o.block ≡ k))) [
    | inl same ↦ inl same
    | inr owned ↦ inr (owned.0, owned.1, local-cases (λ q x. Contains (locals q).owned owned.1 → Contains x.owned owned.1) locals m l owned.0 (λ e. grows.1 owned.1) (λ other known. known) owned.2, owned.3)
  ];
  lines = now.lines;
  unlogs = now.unlogs;
  remembers = now.remembers;
  members = λ k o there. local-cases (λ q x. Contains x.owned o → Contains (numbers_of p.mutators) q) locals m l k (λ e has. known) (λ other. now.members k o) there;
}

-- one word changes
module _ (p : Epoch) (ready : EpochMayBegin p) (h : Machine) (now : IsInEpoch p (heap_in p h) h.locals) (i v : ℕ) where
  abbrev changed : List ℕ
  changed = slice_set h.words i v

  pub untouched-at : ((k j : ℕ) → 0 < (h.locals k).unpublished.address → j < (h.locals k).unpublished.written → (h.locals k).unpublished.address + j ≢ i)
      → Untouched (heap_in p h) h.locals (slice_set h.words i v)
  untouched-at other k j some less = get_or-set_other h.words i ((h.locals k).unpublished.address + j) v 0 (other k j some less)

  -- a word before the heap
  pub side-word : i < heap_of p.before.blocks → Untouched (heap_in p h) h.locals (slice_set h.words i v)
  side-word before = untouched-at (λ k j some less e.
      let from : heap_of p.before.blocks ≤ (h.locals k).unpublished.address = ((now.knows k).unpublished some).available.place.address.from in omega arith)

  -- a word of a held object
  pub object-word : (x : ℕ) → IsHeld (heap_in p h) x → IsInExtent (heap_in p h) x i → Untouched (heap_in p h) h.locals (slice_set h.words i v)
  object-word x holds inside = untouched-at (λ k j some less e.
      let u = (now.knows k).unpublished some in
      let most : (h.locals k).unpublished.written ≤ size_of (h.locals k).unpublished.refs (h.locals k).unpublished.nums = u.most in
      elim (place-clear p ready h now k (h.locals k).unpublished.address (size_of (h.locals k).unpublished.refs (h.locals k).unpublished.nums) u.available x i holds inside) as (λ _. ⊥) [
        | inl less' ↦ omega arith
        | inr past ↦ omega arith
      ])

  -- a word that is no field of an object
  pub fields-at : ((a j : ℕ) → IsHeld (heap_in p h) a → j < refs_at (heap_in p h) a → a + 3 + j ≢ i) → KeepsFields p (heap_in p h) (slice_set h.words i v)
  fields-at other young a j holds less aged unlogged = get_or-set_other h.words i (a + 3 + j) v 0 (other a j holds less)

  pub side-field : i < heap_of p.before.blocks → KeepsFields p (heap_in p h) (slice_set h.words i v)
  side-field before = fields-at (λ a j holds less e. let from : heap_of p.before.blocks ≤ a = holds.address.from in omega arith)
