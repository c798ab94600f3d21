-- A block is taken.
use Rattle.std.proofs.Common.{◌≡◌, refl, sym, ◌∙◌, ap, subst, ℕ, ◌+◌, ◌/◌, ◌%◌, ◌^◌, ◌<◌, ◌≤◌, ◌⊎◌, inl, inr, arith, Bool, true, false, IsTrue, List, [], ◌∷◌, length, slice_set, nat_eq, eq-eqb}
use Rattle.std.specs.Prelude.{if◌then◌else◌}
use Rattle.std.specs.List.{Contains}
use Rattle.std.proofs.lemmas.Bool.{cases_eq, ne_eqb}
use Rattle.heap_layout.specs.Zones.{BlockWords, first, heap_of, row_words}
use Rattle.heap_layout.specs.Blocks.{kind_code, code_of, IsValidWord}
use Rattle.heap_layout.specs.declared.block.Kind.TheVariants as kinds
use Rattle.heap_layout.proofs.BlockLemmas.{code_parts, valid_most, kind_code_most}
use Rattle.ideal_heap.specs.Ideal.{IdealHeap}
use Rattle.object_model.specs.Objects.{HeapState, with_words, block_word, owner_at, class_at, HasKind, IsHeld, size_at}
use Rattle.object_model.specs.Lawful.{IsWellFormed, FreeBlockIsClear}
use Rattle.object_model.specs.Graphs.{MutatorState, IsMutatorState, numbers_of}
use Rattle.object_model.specs.Agreement.{RepresentsOn}
use Rattle.object_model.proofs.Among.{all-at}
use Rattle.object_model.proofs.Blocks as blocks
use Rattle.object_model.proofs.Blocks.{SameHeap, set_block}
use Rattle.object_model.proofs.TakenBlocks as codes
use Rattle.object_model.proofs.OwnedBlocks as owners
use Rattle.object_model.proofs.OneKind.{kind-from, is_small_code}
use Rattle.mutator_core.specs.declared.state.Local.{Local}
use Rattle.mutator_core.specs.declared.state.Extent.{Extent}
use Rattle.mutator_core.specs.declared.state.OwnedBlock.{OwnedBlock}
use Rattle.mutator_core.specs.declared.state.Event.TheVariants as e
use Rattle.mutator_core.specs.Machine.{Epoch, Machine, heap_in, mutators_in, mutator_of, next, owned_code, found_code, taken}
use Rattle.mutator_core.specs.Guards.{IsPlaceOfMutator}
use Rattle.mutator_core.specs.Epochs.{EpochMayBegin, IsOwned, IsMade, Knows, KnowsItsState}
use Rattle.mutator_core.proofs.Lists.{contains-cases, contains-here, contains-there, with_local, local-cases, mutators-same}
use Rattle.mutator_core.proofs.Fills.{fills-small, fill-not-free}
use Rattle.mutator_core.proofs.Kept as kept
use Rattle.mutator_core.proofs.Kept.{Leaves, Grows, grown, knows-left, size-left, remembers-left}
use Rattle.mutator_core.proofs.Places.{unowned-word}
use Rattle.mutator_core.proofs.Quiet.{loads}
use Rattle.mutator_core.proofs.Moments.{Holds, Moved, machine_with, one-of}

-- a permitted place stays one if the mutator owns one block more
more-place : (p : Epoch) (o : OwnedBlock) (owned : List OwnedBlock) (a size : ℕ) → IsPlaceOfMutator p owned a size → IsPlaceOfMutator p (o ∷ owned) a size
more-place p o owned a size is = record {
  address = is.address;
  inside = is.inside;
  owned = is.owned;
  among = contains-there o owned is.owned is.among;
  here = is.here;
  hole = is.hole;
  cell = is.cell;
}

-- a block with the word of a kind that mutators fill is not Free
pub taken-not-free : (p : Epoch) → EpochMayBegin p → (s : HeapState) (k class number : ℕ) → k < s.blocks → length s.words ≡ row_words s.blocks → IsValidWord (record { kind = p.rules.fill; class = class; owner = number })
    → HasKind (with_words s (set_block s k (code_of (record { kind = p.rules.fill; class = class; owner = number })))) k kinds.Free → ⊥
taken-not-free p ready s k class number there many valid free =
    let v : ℕ = code_of (record { kind = p.rules.fill; class = class; owner = number }) in
    let few = valid_most p.rules.fill class number valid in
    let parts = code_parts (kind_code p.rules.fill) class number v (kind_code_most p.rules.fill) few.0 refl in
    let new : HeapState = with_words s (set_block s k v) in
    let word : block_word new k ≡ v = blocks.block-set s k v there many in
    fill-not-free new k p.rules.fill ready.fills (kind-from new k p.rules.fill there (ap (λ x. x % 256) word ∙ parts.0)) free

module _ (p : Epoch) (ready : EpochMayBegin p) (h : Machine) (i : IdealHeap) (set : ℕ → Type 0) (now : Holds p h i set) (m : ℕ) (known : Contains (numbers_of p.mutators) m)
    (k class : ℕ) (there : k < p.before.blocks) (valid : IsValidWord (record { kind = p.rules.fill; class = class; owner = (h.locals m).number })) where
  abbrev s : HeapState
  s = heap_in p h

  abbrev l : Local
  l = h.locals m

  order : IsWellFormed s
  order = now.models.order

  abbrev v : ℕ
  v = owned_code p (h.locals m) class

  abbrev w : List ℕ
  w = set_block (heap_in p h) k (owned_code p (h.locals m) class)

  abbrev after : HeapState
  after = with_words s w

  abbrev o : OwnedBlock
  o = record { block = k; class = class }

  few : (class ≤ 18) × (l.number ≤ 32)
  few = valid_most p.rules.fill class l.number valid

  parts : (v % 256 ≡ kind_code p.rules.fill) × (v / 256 % 256 ≡ class) × (v / 65536 ≡ l.number)
  parts = code_parts (kind_code p.rules.fill) class l.number v (kind_code_most p.rules.fill) few.0 refl

  fits : v < 2 ^ 64
  fits = codes.fits (record { kind = p.rules.fill; class = class; owner = l.number }) valid

  same : SameHeap s w
  same = blocks.same_heap s k v there

  word : block_word after k ≡ v
  word = blocks.block-set s k v there order.row.extent

  module _ (nobody : owner_at s k ≡ 0) (as_found : (block_word s k ≡ found_code p class true) ⊎ (block_word s k ≡ found_code p class false)) where
    same_word : block_word s k ≡ block_word p.before k
    same_word = unowned-word p h now.epoch k there nobody

    own : IsOwned p after l.number o
    own = record {
      inside = there;
      somebody = (all-at IsMutatorState (mutators_in p h) (mutator_of l) now.models.mutators.each (one-of p h i set now m known)).least;
      valid = valid;
      word = word;
      before = elim as_found as (λ _. (block_word p.before k ≡ found_code p class true) ⊎ (block_word p.before k ≡ found_code p class false)) [
        | inl free ↦ inl (sym same_word ∙ free)
        | inr used ↦ inr (sym same_word ∙ used)
      ];
    }

    leaves : Leaves s w
    leaves = record {
      held = blocks.held-after s w same;
      headers = λ x j holds few. same.words (x + j) (let from : heap_of s.blocks ≤ x = holds.address.from in omega arith);
      owners = λ j inside some. blocks.block-other s k v there j (λ e. let none : owner_at s j ≡ 0 = ap (owner_at s) e ∙ nobody in omega arith);
      unlogs = λ x is. sym (same.unlogs x) ∙ is;
      lines = λ j line inside few. blocks.lines-same s k v there j line;
    }

    left : (q : ℕ) → KnowsItsState p after (h.locals q)
    left q = knows-left p s w leaves (h.locals q) (λ some j. kept.side-word p ready h now.epoch (first s.blocks BlockWords + k) v (omega arith) q j some) (now.epoch.knows q)

    -- one more block is owned, and all else is unchanged
    more : Knows p after l.number l.births (o ∷ l.owned) l.made l.unpublished l.shape l.collector l.logged
    more = let knows : KnowsItsState p after l = left m in record {
      owned = λ q there. elim (contains-cases o l.owned q there) as (λ _. IsOwned p after l.number q) [
        | inl e ↦ subst (IsOwned p after l.number) (sym e) own
        | inr before ↦ knows.owned q before
      ];
      objects = λ x there. let is : IsMade p after l.owned x = knows.objects x there in record {
        held = is.held;
        same = is.same;
        place = more-place p o l.owned x.address x.size is.place;
        unclaimed = is.unclaimed;
        unmarked = is.unmarked;
      };
      regions = knows.regions;
      unpublished = λ some. let is = knows.unpublished some in record {
        few_births = is.few_births;
        few_refs = is.few_refs;
        few_nums = is.few_nums;
        small = is.small;
        most = is.most;
        available = record { place = more-place p o l.owned l.unpublished.address _ is.available.place; beside = is.available.beside };
        region = is.region;
        words = is.words;
      };
      header = knows.header;
      age = knows.age;
      cleared = knows.cleared;
    }

    -- the block had no owner
    took : (l' : Local) → RepresentsOn after (mutators_in p h) i set → ((j : ℕ) → FreeBlockIsClear after j) → mutator_of l' ≡ mutator_of l → KnowsItsState p after l' → Grows l l' → Contains l'.owned o
        → Moved p h (machine_with h w m l') i set
    took l' model free alike knows grows has = record {
      leaves = leaves;
      moment = record {
        models = subst (λ (ms : List MutatorState). RepresentsOn after ms i set) (sym (mutators-same h.locals m l' (numbers_of p.mutators) alike)) model;
        epoch = record {
          numbers = λ q. local-cases (λ j x. x.number ≡ j) h.locals m l' q (λ e. ap (λ x. x.number) alike ∙ now.epoch.numbers m) (λ differ. now.epoch.numbers q);
          knows = λ q. local-cases (λ j x. KnowsItsState p after x) h.locals m l' q (λ e. knows) (λ differ. left q);
          stays = λ x before. let is = now.epoch.stays x before in (leaves.held x is.0, λ j few. leaves.headers x j is.0 few ∙ is.1 j few);
          births = λ x holds. let before : IsHeld s x = blocks.held-before s w same x holds in
              elim (now.epoch.births x before) as (λ _. IsHeld p.before x ⊎ ((q : ℕ) × Contains (with_local h.locals m l' q).made (record { address = x; size = size_at after x }))) [
                | inl there ↦ inl there
                | inr allocated ↦ inr (
                  allocated.0,
                  subst (λ (z : ℕ). Contains (with_local h.locals m l' allocated.0).made (record { address = x; size = z })) (sym (size-left p s w leaves x before))
                      (local-cases (λ j y. Contains (h.locals j).made (record { address = x; size = size_at s x }) → Contains y.made (record { address = x; size = size_at s x })) h.locals m l' allocated.0
                      (λ e. grows.0 (record { address = x; size = size_at s x })) (λ differ there. there) allocated.1),
                )
              ];
          free = free;
          blocks = λ j inside. elim (cases_eq j k) as (λ _. (block_word after j ≡ block_word p.before j) ⊎ ((q : ℕ) × (x : OwnedBlock) × Contains (with_local h.locals m l' q).owned x × (x.block ≡ j))) [
            | inl e ↦ inr (m, o, local-cases (λ q x. q ≡ m → Contains x.owned o) h.locals m l' m (λ own same. has) (λ differ same. absurd (differ same)) refl, sym e)
            | inr other ↦ elim (now.epoch.blocks j inside) as (λ _. (block_word after j ≡ block_word p.before j) ⊎ ((q : ℕ) × (x : OwnedBlock) × Contains (with_local h.locals m l' q).owned x × (x.block ≡ j))) [
              | inl before ↦ inl (blocks.block-other s k v there j other ∙ before)
              | inr owned ↦ inr (owned.0, owned.1, local-cases (λ q x. Contains (h.locals q).owned owned.1 → Contains x.owned owned.1) h.locals m l' owned.0 (λ e. grows.1 owned.1) (λ differ known. known) owned.2, owned.3)
            ]
          ];
          lines = λ j line inside few. leaves.lines j line inside few ∙ now.epoch.lines j line inside few;
          unlogs = λ x set. now.epoch.unlogs x (leaves.unlogs x set);
          remembers = remembers-left p s w leaves (λ x holds aged. blocks.held-before s w same x holds) (λ x holds set. blocks.held-before s w same x holds)
              (λ young x j holds less aged unlogged. same.words (x + 3 + j) (let from : heap_of s.blocks ≤ x = holds.address.from in omega arith)) now.epoch.remembers;
          members = λ q x there. local-cases (λ j y. Contains y.owned x → Contains (numbers_of p.mutators) j) h.locals m l' q (λ e has. known) (λ differ. now.epoch.members q x) there;
        };
      };
    }

  small : IsTrue (is_small_code true (v % 256))
  small = ap (is_small_code true) parts.0 ∙ fills-small p.rules.fill ready.fills

  grows : (granted : List ℕ) → ((x : Extent) → Contains l.made x → Contains l.made x) × ((q : OwnedBlock) → Contains l.owned q → Contains (o ∷ l.owned) q)
  grows granted = (λ x there. there, λ q there. contains-there o l.owned q there)

  -- a Free block
  took-free : block_word s k ≡ found_code p class true → Moved p h (machine_with h w m (taken p l k class true)) i set
  took-free e =
      let is : HasKind s k kinds.Free = kind-from s k kinds.Free there (ap (λ x. x % 256) e) in
      let nobody : owner_at s k ≡ 0 = ap (λ x. x / 65536) e in
      took nobody (inl e) (taken p l k class true) (blocks.models-taken s order k v is (now.epoch.free k is) fits small (mutators_in p h) i set now.models)
      (blocks.free-taken s order k v is (now.epoch.free k is) fits small now.epoch.free) refl (more nobody (inl e)) (grows []) (contains-here o l.owned)

  -- a block of the kind that mutators fill, which keeps its class
  took-used : block_word s k ≡ found_code p class false → Moved p h (machine_with h w m (taken p l k class false)) i set
  took-used e =
      let old = code_parts (kind_code p.rules.fill) class 0 (block_word s k) (kind_code_most p.rules.fill) few.0 (sym e) in
      let kind : v % 256 ≡ block_word s k % 256 = parts.0 ∙ sym old.0 in
      let class_same : v / 256 % 256 ≡ class_at s k = parts.1 ∙ sym old.1 in
      took old.2 (inr e) (taken p l k class false) (owners.models-owned s order k v there fits kind class_same (mutators_in p h) i set now.models)
      (owners.free-owned s order k v there fits kind class_same now.epoch.free) refl (more old.2 (inr e)) (grows []) (contains-here o l.owned)

  abbrev seen : Local
  seen = record l { blocks = (record { at = k; word = block_word s k }) ∷ l.blocks }

  -- by whether the word found was the expected one
  abbrev Result : Bool → Bool → Type 1
  Result free found = Moved p h (machine_with h (slice_set h.words (first s.blocks BlockWords + k) (if found then v else block_word s k)) m (if found then taken p l k class free else seen)) i set

  lost : (free : Bool) → Result free false
  lost free = loads p ready h i set now m known (first s.blocks BlockWords + k) seen refl (λ x. x) (grown l)

  pub take : (free : Bool) → Moved p h (next p h m (e.TakeBlock k class free)) i set
  take true = elim (cases_eq (block_word s k) (found_code p class true)) as (λ _. Result true (nat_eq (block_word s k) (found_code p class true))) [
    | inl e ↦ subst (Result true) (sym (eq-eqb (block_word s k) (found_code p class true) e)) (took-free e)
    | inr other ↦ subst (Result true) (sym (ne_eqb (block_word s k) (found_code p class true) other)) (lost true)
  ]
  take false = elim (cases_eq (block_word s k) (found_code p class false)) as (λ _. Result false (nat_eq (block_word s k) (found_code p class false))) [
    | inl e ↦ subst (Result false) (sym (eq-eqb (block_word s k) (found_code p class false) e)) (took-used e)
    | inr other ↦ subst (Result false) (sym (ne_eqb (block_word s k) (found_code p class false) other)) (lost false)
  ]
