-- One more word of an unpublished object is stored.
use Rattle.std.proofs.Common.{◌≡◌, ◌≢◌, refl, sym, ◌∙◌, ap, subst, ℕ, zero, suc, ◌+◌, ◌*◌, ◌-◌, ◌/◌, ◌%◌, ◌^◌, ◌<◌, ◌≤◌, ◌⊎◌, inl, inr, arith, List, length, slice_set, nat_eq}
use Rattle.std.specs.List.{Contains}
use Rattle.std.specs.Int.{bit_at}
use Rattle.std.proofs.lemmas.Bool.{cases_eq}
use Rattle.std.proofs.lemmas.List.{get_or-set_same, get_or-set_other, length-set}
use Rattle.heap_layout.specs.Zones.{Zone, Globals, BlockWords, LineWords, StartBits, PinBits, UnlogBits, row_words, heap_of, first, address_bit, block_at, offset_at}
use Rattle.ideal_heap.specs.declared.name.Name.{Name}
use Rattle.ideal_heap.specs.Names.{name_code}
use Rattle.ideal_heap.specs.Ideal.{IdealHeap}
use Rattle.object_model.specs.Objects.{HeapState, with_words, word_at, owner_at, IsHeld, IsInExtent, size_at, size_of}
use Rattle.object_model.specs.Lawful.{IsWellFormed}
use Rattle.object_model.specs.Graphs.{IsMutatorState, numbers_of}
use Rattle.object_model.specs.Changes.{ObjectsStay}
use Rattle.object_model.proofs.Among.{all-at}
use Rattle.object_model.proofs.Marks.{mark-same}
use Rattle.object_model.proofs.QuietStores.{quiet-models}
use Rattle.mutator_core.specs.declared.state.Local.{Local}
use Rattle.mutator_core.specs.declared.state.Unpublished.{Unpublished}
use Rattle.mutator_core.specs.declared.state.Event.TheVariants as e
use Rattle.mutator_core.specs.Machine.{Epoch, Machine, heap_in, mutators_in, mutator_of, next, birth_word, next_name}
use Rattle.mutator_core.specs.Guards.{IsPlaceOfMutator, MayInitialize}
use Rattle.mutator_core.specs.Epochs.{EpochMayBegin, IsUnpublished}
use Rattle.mutator_core.proofs.Places.{place-clear, place-owner}
use Rattle.mutator_core.proofs.Kept as kept
use Rattle.mutator_core.proofs.Kept.{Untouched, grown}
use Rattle.mutator_core.proofs.Quiet.{quietly}
use Rattle.mutator_core.proofs.Moments.{Holds, Moved, one-of}

-- the initial words of an object have 64 bits
birth-fits : (n : Name) (refs nums offset : ℕ) → n.mutator ≤ 16 → n.birth < 2 ^ 32 → refs ≤ 1024 → nums ≤ 60000 → birth_word n refs nums offset < 2 ^ 64
birth-fits n refs nums zero few births some more = (let e : name_code n ≡ 32 * n.birth + n.mutator = refl in omega arith)
birth-fits n refs nums (suc zero) few births some more = omega arith
birth-fits n refs nums (suc (suc offset)) few births some more = omega arith

module _ (p : Epoch) (ready : EpochMayBegin p) (h : Machine) (i : IdealHeap) (set : ℕ → Type 0) (now : Holds p h i set) (m : ℕ) (known : Contains (numbers_of p.mutators) m)
    (a refs nums offset : ℕ) (may : MayInitialize p (h.locals m) a refs nums offset) where
  abbrev s : HeapState
  s = heap_in p h

  abbrev l : Local
  l = h.locals m

  order : IsWellFormed s
  order = now.models.order

  -- the object so far
  abbrev so_far : Unpublished
  so_far = record { address = a; refs = refs; nums = nums; written = offset }

  begun : (0 < a) × IsUnpublished p s (next_name l) l.owned l.made so_far
  begun = elim may.1 as (λ _. (0 < a) × IsUnpublished p s (next_name l) l.owned l.made so_far) [
    | inl start ↦ (let begin = start.1 in let from : heap_of p.before.blocks ≤ a = begin.available.place.address.from in let none : offset ≡ 0 = start.0 in (
      omega arith,
      record {
        few_births = begin.few_births;
        few_refs = begin.few_refs;
        few_nums = begin.few_nums;
        small = begin.small;
        most = omega arith;
        available = begin.available;
        region = begin.region;
        words = λ k less. absurd (omega arith);
      },
    ))
    | inr more ↦ (more.1, subst (IsUnpublished p s (next_name l) l.owned l.made) more.2 ((now.epoch.knows m).unpublished (subst (λ (u : Unpublished). 0 < u.address) (sym more.2) more.1)))
  ]

  abbrev size : ℕ
  size = size_of refs nums

  within : offset < size_of refs nums
  within = may.0

  clear : (x j : ℕ) → IsHeld s x → IsInExtent s x j → (j < a) ⊎ (a + size ≤ j)
  clear = place-clear p ready h now.epoch m a size begun.1.available

  abbrev v : ℕ
  v = birth_word (next_name l) refs nums offset

  abbrev w : List ℕ
  w = slice_set h.words (a + offset) (birth_word (next_name l) refs nums offset)

  other : (j : ℕ) → j ≢ a + offset → word_at (with_words s w) j ≡ word_at s j
  other j differ = get_or-set_other h.words (a + offset) j v 0 differ

  pub in-heap : heap_of s.blocks ≤ a + offset
  in-heap = let from : heap_of p.before.blocks ≤ a = begun.1.available.place.address.from in omega arith

  in-row : a + offset < length h.words
  in-row =
      let inside : offset_at p.before.blocks a + size ≤ 4096 = begun.1.available.place.inside in
      let from : heap_of p.before.blocks ≤ a = begun.1.available.place.address.from in
      let below : a < row_words p.before.blocks = begun.1.available.place.address.below in
      let many : length h.words ≡ row_words p.before.blocks = order.row.extent in
      omega arith

  own : word_at (with_words s w) (a + offset) ≡ v
  own = get_or-set_same h.words (a + offset) v 0 in-row

  object-word : (x j : ℕ) → IsHeld s x → j < size_at s x → word_at (with_words s w) (x + j) ≡ word_at s (x + j)
  object-word x j holds less = other (x + j) (λ e. elim (clear x (x + j) holds (record { from = omega arith; below = omega arith })) as (λ _. ⊥) [ inl before ↦ omega arith | inr beyond ↦ omega arith ])

  marks : (z : Zone) (x : ℕ) → first s.blocks z + 64 * s.blocks ≤ heap_of s.blocks → address_bit s.blocks z w x ≡ address_bit s.blocks z s.words x
  marks z x below = mark-same s.blocks z s.words w x (λ there.
      let from : heap_of s.blocks ≤ x = there.from in let end : x < row_words s.blocks = there.below in let base : heap_of s.blocks ≤ a + offset = in-heap in
      ap (λ word. nat_eq (bit_at word ((x - heap_of s.blocks) % 64)) 1) (other (first s.blocks z + (x - heap_of s.blocks) / 64) (λ e. omega arith)))

  keeps : ObjectsStay s (with_words s w)
  keeps = record {
    blocks = refl;
    number = refl;
    base = refl;
    extent = length-set h.words (a + offset) v;
    starts = λ x. marks StartBits x (omega arith);
    unlogs = λ x is. sym (marks UnlogBits x (omega arith)) ∙ is;
    lines = λ k line there few. let base : heap_of s.blocks ≤ a + offset = in-heap in
        ap (λ word. nat_eq (bit_at word ((256 * k + line) % 64)) 1) (other (first s.blocks LineWords + (256 * k + line) / 64) (λ e. omega arith));
    block_words = λ k there. let base : heap_of s.blocks ≤ a + offset = in-heap in other (first s.blocks BlockWords + k) (λ e. omega arith);
    headers = λ x j holds few. object-word x j holds (omega arith);
  }

  few : l.number ≤ 16
  few = (all-at IsMutatorState (mutators_in p h) (mutator_of l) now.models.mutators.each (one-of p h i set now m known)).most

  fits : v < 2 ^ 64
  fits = birth-fits (next_name l) refs nums offset few begun.1.few_births begun.1.few_refs begun.1.few_nums

  words-fit : (j : ℕ) → word_at (with_words s w) j < 2 ^ 64
  words-fit j = elim (cases_eq j (a + offset)) as (λ _. word_at (with_words s w) j < 2 ^ 64) [
    | inl e ↦ subst (λ (x : ℕ). x < 2 ^ 64) (sym (ap (word_at (with_words s w)) e ∙ own)) fits
    | inr differ ↦ subst (λ (x : ℕ). x < 2 ^ 64) (sym (other j differ)) (order.row.words j)
  ]

  -- the place of another mutator is in another block
  away : (k b large j : ℕ) → k ≢ m → IsPlaceOfMutator p (h.locals k).owned b large → j < large → b + j ≢ a + offset
  away k b large j differ place less e =
      let inside : offset_at p.before.blocks b + large ≤ 4096 = place.inside in
      let from : heap_of p.before.blocks ≤ b = place.address.from in
      let inside' : offset_at p.before.blocks a + size ≤ 4096 = begun.1.available.place.inside in
      let from' : heap_of p.before.blocks ≤ a = begun.1.available.place.address.from in
      let here : block_at p.before.blocks b ≡ block_at p.before.blocks a = omega arith in
      differ (sym (place-owner p h now.epoch k b large place).0 ∙ ap (owner_at s) here ∙ (place-owner p h now.epoch m a size begun.1.available.place).0)

  untouched : Untouched s h.locals w
  untouched = kept.untouched-at p ready h now.epoch (a + offset) v (λ k j some less e. elim (cases_eq k m) as (λ _. ⊥) [
    | inl same ↦ own-place (subst (λ (q : ℕ). 0 < (h.locals q).unpublished.address) same some) j (subst (λ (q : ℕ). j < (h.locals q).unpublished.written) same less)
        (subst (λ (q : ℕ). (h.locals q).unpublished.address + j ≡ a + offset) same e)
    | inr differ ↦ (let u = (now.epoch.knows k).unpublished some in
        let most : (h.locals k).unpublished.written ≤ size_of (h.locals k).unpublished.refs (h.locals k).unpublished.nums = u.most in
        away k (h.locals k).unpublished.address (size_of (h.locals k).unpublished.refs (h.locals k).unpublished.nums) j differ u.available.place (omega arith) e)
  ])
    where
      own-place : 0 < l.unpublished.address → (j : ℕ) → j < l.unpublished.written → l.unpublished.address + j ≡ a + offset → ⊥
      own-place some j less e = elim may.1 as (λ _. ⊥) [
        | inl start ↦ (let none : l.unpublished.address ≡ 0 = ap (λ u. u.address) start.1.none in omega arith)
        | inr more ↦ (let address : l.unpublished.address ≡ a = ap (λ u. u.address) more.2 in let written : l.unpublished.written ≡ offset = ap (λ u. u.written) more.2 in omega arith)
      ]

  abbrev longer : Unpublished
  longer = record { address = a; refs = refs; nums = nums; written = offset + 1 }

  pub initialize : Moved p h (next p h m (e.Initialize a refs nums offset)) i set
  initialize = quietly p ready h i set now m known w (record l { unpublished = longer }) keeps
      (quiet-models s w keeps order words-fit (λ x. marks PinBits x (omega arith))
      (λ g small. other (first s.blocks Globals + g) (λ e. let base : heap_of s.blocks ≤ a + offset = in-heap in omega arith)) object-word (mutators_in p h) i set now.models)
      refl (λ knows. record {
        owned = knows.owned;
        objects = knows.objects;
        regions = knows.regions;
        header = knows.header;
        age = knows.age;
        cleared = knows.cleared;
        unpublished = λ some. record {
          few_births = begun.1.few_births;
          few_refs = begun.1.few_refs;
          few_nums = begun.1.few_nums;
          small = begun.1.small;
          most = (let less : offset < size = within in omega arith);
          available = begun.1.available;
          region = begun.1.region;
          words = λ k less. elim (cases_eq k offset) as (λ _. word_at (with_words s w) (a + k) ≡ birth_word (next_name l) refs nums k) [
            | inl same ↦ subst (λ (q : ℕ). word_at (with_words s w) (a + q) ≡ birth_word (next_name l) refs nums q) (sym same) own
            | inr differ ↦ other (a + k) (λ e. differ (omega arith)) ∙ begun.1.words k (omega arith)
          ];
        };
      }) (grown l) (kept.fields-at p ready h now.epoch (a + offset) v (λ x j holds less e.
      elim (clear x (x + 3 + j) holds (record { from = omega arith; below = omega arith })) as (λ _. ⊥) [ inl before ↦ omega arith | inr beyond ↦ omega arith ])) untouched
