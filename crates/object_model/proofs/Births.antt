-- A new object is written where no object is: the heap stays well formed, and lawful.
use Rattle.std.proofs.Common.{◌≡◌, ◌≢◌, refl, sym, ◌∙◌, ap, subst, ℕ, ◌+◌, ◌*◌, ◌-◌, ◌/◌, ◌%◌, ◌^◌, ◌<◌, ◌≤◌, ◌⊎◌, inl, inr, arith, ◌||◌, IsTrue, List, length, nat_eq, add-zero}
use Rattle.std.specs.Int.{bit_at}
use Rattle.std.proofs.Math.Logic.{∥∥₁_map}
use Rattle.std.proofs.lemmas.Bool.{cases_eq, true≢false}
use Rattle.heap_layout.specs.Zones.{Zone, StartBits, PinBits, UnlogBits, LineWords, BlockWords, Globals, row_words, heap_of, first, bit_of, block_at, offset_at, block_start, IsAddress}
use Rattle.heap_layout.specs.Blocks.{is_block_code}
use Rattle.heap_layout.specs.declared.block.Kind.TheVariants as kinds
use Rattle.ideal_heap.specs.declared.name.Name.{Name}
use Rattle.ideal_heap.specs.Names.{IsName, name_code, name_of}
use Rattle.ideal_heap.proofs.NameLemmas.{name-code}
use Rattle.object_model.specs.Objects.{HeapState, with_words, word_at, global_at, block_word, HasKind, is_start, is_pinned, is_unlogged, line_marked, IsHeld, IsInExtent, name_at, refs_at, nums_at, size_at, ref_at, size_of, shape_code}
use Rattle.object_model.specs.Lawful.{IsLawful, IsLawfulButLines, IsWellFormed, HasHeader, Lies, IsRefField, IsRoot, IsClear, FreeBlockIsClear, IsTouched, LineBitsAreExact, is_in_run}
use Rattle.object_model.specs.Changes.{WritesObject}
use Rattle.object_model.specs.Births.{IsVacant, IsRoom}
use Rattle.object_model.specs.Lines.{TouchesLine}
use Rattle.object_model.proofs.Blocks.{SameHeap}
use Rattle.object_model.proofs.ObjectParts.{AreObjectsRight, ArePlacesRight, objects-of, places-of, together}
use Rattle.object_model.proofs.Lines.{touched-as, touched-block}
use Rattle.object_model.proofs.UsedBlocks as used
use Rattle.object_model.proofs.Marks.{mark-same, mark-from}
use Rattle.object_model.proofs.References.{refers-some}
use Rattle.object_model.proofs.OneKind.{kind-within, one-kind, has_small-free}
use Rattle.object_model.proofs.Frames.{HasKind-back, kind-in}

-- a heap has one object more; the words and bits of all others are unchanged
pub record Adds (s : HeapState) (w : List ℕ) (a : ℕ) (n : Name) (refs nums : ℕ) : Type 0 where
  pub name : word_at (with_words s w) a ≡ name_code n
  pub shape : word_at (with_words s w) (a + 1) ≡ shape_code refs nums
  pub blank : (i : ℕ) → 2 ≤ i → i < size_of refs nums → word_at (with_words s w) (a + i) ≡ 0
  pub start : IsTrue (is_start (with_words s w) a)
  pub starts : (x : ℕ) → x ≢ a → is_start (with_words s w) x ≡ is_start s x
  pub pins : (x : ℕ) → is_pinned (with_words s w) x ≡ is_pinned s x
  pub unlogs : (x : ℕ) → is_unlogged (with_words s w) x ≡ is_unlogged s x
  pub globals : (g : ℕ) → g < 16 → global_at (with_words s w) g ≡ global_at s g
  pub others : (i : ℕ) → heap_of s.blocks ≤ i → (i < a) ⊎ (a + size_of refs nums ≤ i) → word_at (with_words s w) i ≡ word_at s i

-- words of no object and bits of no address may change before and after
pub adds-from : (s : HeapState) (w1 w2 : List ℕ) (a : ℕ) (n : Name) (refs nums : ℕ) → SameHeap s w1 → Adds (with_words s w1) w2 a n refs nums → Adds s w2 a n refs nums
adds-from s w1 w2 a n refs nums before adds = record {
  name = adds.name;
  shape = adds.shape;
  blank = adds.blank;
  start = adds.start;
  starts = λ x other. adds.starts x other ∙ before.starts x;
  pins = λ x. adds.pins x ∙ before.pins x;
  unlogs = λ x. adds.unlogs x ∙ before.unlogs x;
  globals = λ g small. adds.globals g small ∙ before.globals g small;
  others = λ i above outside. adds.others i above outside ∙ before.words i above;
}

pub adds-to : (s : HeapState) (w1 w2 : List ℕ) (a : ℕ) (n : Name) (refs nums : ℕ) → IsAddress s.blocks a → Adds s w1 a n refs nums → SameHeap (with_words s w1) w2 → Adds s w2 a n refs nums
adds-to s w1 w2 a n refs nums address adds past = record {
  name = past.words a address.from ∙ adds.name;
  shape = past.words (a + 1) (let from : heap_of s.blocks ≤ a = address.from in omega arith) ∙ adds.shape;
  blank = λ i least less. past.words (a + i) (let from : heap_of s.blocks ≤ a = address.from in omega arith) ∙ adds.blank i least less;
  start = past.starts a ∙ adds.start;
  starts = λ x other. past.starts x ∙ adds.starts x other;
  pins = λ x. past.pins x ∙ adds.pins x;
  unlogs = λ x. past.unlogs x ∙ adds.unlogs x;
  globals = λ g small. past.globals g small ∙ adds.globals g small;
  others = λ i above outside. past.words i above ∙ adds.others i above outside;
}

-- what writing an object changes
module _ (s : HeapState) (w : List ℕ) (a : ℕ) (n : Name) (refs nums : ℕ) (writes : WritesObject s (with_words s w) a n refs nums) (address : IsAddress s.blocks a) where
  abbrev written : HeapState
  written = with_words s w

  abbrev pub start_word : ℕ
  start_word = first s.blocks StartBits + (a - heap_of s.blocks) / 64

  pub start-in-zone : (start_word < heap_of s.blocks) × (first s.blocks StartBits ≤ start_word) × (start_word < first s.blocks PinBits)
  start-in-zone =
      let from : heap_of s.blocks ≤ a = address.from in let below : a < row_words s.blocks = address.below in
      (omega arith, omega arith, omega arith)

  -- words before the heap, but for the one with the start bit
  pub zone-word : (i : ℕ) → i < heap_of s.blocks → i ≢ start_word → word_at written i ≡ word_at s i
  zone-word i before other = writes.others i (inl (let from : heap_of s.blocks ≤ a = address.from in omega arith)) other

  pub block_words : (k : ℕ) → k < s.blocks → block_word written k ≡ block_word s k
  block_words k there = zone-word (first s.blocks BlockWords + k) (omega arith) (λ e. let zone = start-in-zone.1 in omega arith)

  bit-same : (z : Zone) (k : ℕ) → first s.blocks z + k / 64 < heap_of s.blocks → first s.blocks z + k / 64 ≢ start_word → bit_of s.blocks z written.words k ≡ bit_of s.blocks z s.words k
  bit-same z k below other = ap (λ word. nat_eq (bit_at word (k % 64)) 1) (zone-word (first s.blocks z + k / 64) below other)

  pub lines-same : (k line : ℕ) → k < s.blocks → line < 256 → line_marked written k line ≡ line_marked s k line
  lines-same k line there small = bit-same LineWords (256 * k + line) (omega arith) (λ e. let zone = start-in-zone.1 in omega arith)

  pub adds : Adds s w a n refs nums
  adds = record {
    name = writes.name;
    shape = writes.shape;
    blank = writes.blank;
    start = mark-from s.blocks StartBits written.words a address writes.start;
    starts = λ x other. mark-same s.blocks StartBits s.words written.words x (λ there.
        let from : heap_of s.blocks ≤ x = there.from in let end : x < row_words s.blocks = there.below in
        let base : heap_of s.blocks ≤ a = address.from in
        writes.starts (x - heap_of s.blocks) (omega arith) (λ e. other (omega arith)));
    pins = λ x. mark-same s.blocks PinBits s.words written.words x (λ there.
        let from : heap_of s.blocks ≤ x = there.from in let end : x < row_words s.blocks = there.below in
        bit-same PinBits (x - heap_of s.blocks) (omega arith) (λ e. let zone = start-in-zone.2 in omega arith));
    unlogs = λ x. mark-same s.blocks UnlogBits s.words written.words x (λ there.
        let from : heap_of s.blocks ≤ x = there.from in let end : x < row_words s.blocks = there.below in
        bit-same UnlogBits (x - heap_of s.blocks) (omega arith) (λ e. let zone = start-in-zone.2 in omega arith));
    globals = λ g small. zone-word (first s.blocks Globals + g) (omega arith) (λ e. let zone = start-in-zone.1 in omega arith);
    others = λ i above outside. writes.others i outside (λ e. let zone = start-in-zone.0 in omega arith);
  }

-- the heap with one object more
module _ (s : HeapState) (w : List ℕ) (a : ℕ) (n : Name) (refs nums : ℕ) (adds : Adds s w a n refs nums) (vacant : IsVacant s a n refs nums) where
  abbrev pub after : HeapState
  after = with_words s w

  -- the words of an object that was held
  pub object-word : (x i : ℕ) → IsHeld s x → i < size_at s x → word_at after (x + i) ≡ word_at s (x + i)
  object-word x i holds within = adds.others (x + i) (let from : heap_of s.blocks ≤ x = holds.address.from in omega arith)
      (vacant.apart x (x + i) holds (record { from = omega arith; below = omega arith }))

  pub held-new : IsHeld after a
  held-new = record { address = vacant.address; start = adds.start }

  pub not-held : IsHeld s a → ⊥
  not-held holds = elim (vacant.apart a a holds (record { from = omega arith; below = omega arith })) as (λ _. ⊥) [ inl h ↦ omega arith | inr h ↦ omega arith ]

  pub held-after : (x : ℕ) → IsHeld s x → IsHeld after x
  held-after x holds = record { address = holds.address; start = adds.starts x (λ e. not-held (subst (IsHeld s) e holds)) ∙ holds.start }

  pub held-before : (x : ℕ) → x ≢ a → IsHeld after x → IsHeld s x
  held-before x other holds = record { address = holds.address; start = sym (adds.starts x other) ∙ holds.start }

  pub held-cases : (x : ℕ) → IsHeld after x → (x ≡ a) ⊎ IsHeld s x
  held-cases x holds = elim (cases_eq x a) as (λ _. (x ≡ a) ⊎ IsHeld s x) [ inl e ↦ inl e | inr other ↦ inr (held-before x other holds) ]

  -- the parts of the new object
  pub new-name : name_at after a ≡ n
  new-name = ap name_of adds.name ∙ name-code n vacant.named

  pub new-refs : refs_at after a ≡ refs
  new-refs = ap (λ v. v % 65536) adds.shape ∙ (let few : refs ≤ 1024 = vacant.few_refs in let e : (refs + 65536 * nums) % 65536 ≡ refs = omega arith in e)

  pub new-nums : nums_at after a ≡ nums
  new-nums = ap (λ v. v / 65536) adds.shape ∙ (let few : refs ≤ 1024 = vacant.few_refs in let e : (refs + 65536 * nums) / 65536 ≡ nums = omega arith in e)

  pub new-size : size_at after a ≡ size_of refs nums
  new-size = ap (λ r. size_of r (nums_at after a)) new-refs ∙ ap (λ q. size_of refs q) new-nums

  -- the parts of the others
  shape-same : (x : ℕ) → IsHeld s x → word_at after (x + 1) ≡ word_at s (x + 1)
  shape-same x holds = object-word x 1 holds (omega arith)

  pub refs-same : (x : ℕ) → IsHeld s x → refs_at after x ≡ refs_at s x
  refs-same x holds = ap (λ v. v % 65536) (shape-same x holds)

  pub nums-same : (x : ℕ) → IsHeld s x → nums_at after x ≡ nums_at s x
  nums-same x holds = ap (λ v. v / 65536) (shape-same x holds)

  pub size-same : (x : ℕ) → IsHeld s x → size_at after x ≡ size_at s x
  size-same x holds = ap (λ v. size_of (v % 65536) (v / 65536)) (shape-same x holds)

  pub name-same : (x : ℕ) → IsHeld s x → name_at after x ≡ name_at s x
  name-same x holds = ap name_of (ap (word_at after) (sym (add-zero x)) ∙ object-word x 0 holds (omega arith) ∙ ap (word_at s) (add-zero x))

  pub ref-same : (x i : ℕ) → IsHeld s x → i < refs_at s x → ref_at after x i ≡ ref_at s x i
  ref-same x i holds less = let e : x + 3 + i ≡ x + (3 + i) = omega arith in
      ap (word_at after) e ∙ object-word x (3 + i) holds (omega arith) ∙ ap (word_at s) (sym e)

  pub new-ref : (i : ℕ) → i < refs → ref_at after a i ≡ 0
  new-ref i less = let e : a + 3 + i ≡ a + (3 + i) = omega arith in ap (word_at after) e ∙ adds.blank (3 + i) (omega arith) (omega arith)

  extent-before : (x i : ℕ) → IsHeld s x → IsInExtent after x i → IsInExtent s x i
  extent-before x i holds inside = record { from = inside.from; below = subst (λ (k : ℕ). i < x + k) (size-same x holds) inside.below }

  reference-after : (v : ℕ) → IsRefField s v → IsRefField after v
  reference-after v reference some = held-after v (reference some)

  root-after : (v : ℕ) → IsRoot s v → IsRoot after v
  root-after v root some = held-after v (root some)

  new-header : HasHeader after a
  new-header =
      let blank : word_at after (a + 2) ≡ 0 = adds.blank 2 (omega arith) (omega arith) in
      record {
        object = record {
          name = subst IsName (sym new-name) vacant.named;
          refs = subst (λ (k : ℕ). k ≤ 1024) (sym new-refs) vacant.few_refs;
          nums = subst (λ (k : ℕ). k ≤ 60000) (sym new-nums) vacant.few_nums;
        };
        number = subst (λ (v : ℕ). v / 2 ^ 24 ≤ s.number) (sym blank) (omega arith);
        target = subst (λ (v : ℕ). 0 < v / 2 ^ 24 → v % 2 ^ 24 ≡ a) (sym blank) (λ some. absurd (omega arith));
      }

  old-header : (x : ℕ) → IsHeld s x → HasHeader s x → HasHeader after x
  old-header x holds old =
      let collector : word_at after (x + 2) ≡ word_at s (x + 2) = object-word x 2 holds (omega arith) in
      record {
        object = record {
          name = subst IsName (sym (name-same x holds)) old.object.name;
          refs = subst (λ (k : ℕ). k ≤ 1024) (sym (refs-same x holds)) old.object.refs;
          nums = subst (λ (k : ℕ). k ≤ 60000) (sym (nums-same x holds)) old.object.nums;
        };
        number = subst (λ (v : ℕ). v / 2 ^ 24 ≤ s.number) (sym collector) old.number;
        target = subst (λ (v : ℕ). 0 < v / 2 ^ 24 → v % 2 ^ 24 ≡ x) (sym collector) old.target;
      }

  -- what holds of the new object and of each that was held holds of each that is held now
  pub either : (P : ℕ → Type 0) → P a → ((x : ℕ) → IsHeld s x → P x) → (x : ℕ) → IsHeld after x → P x
  either P new old x holds = elim (held-cases x holds) as (λ _. P x) [ inl e ↦ subst P (sym e) new | inr before ↦ old x before ]

  -- a word of the new object does not belong to one that was held
  not-both : (x i : ℕ) → IsHeld s x → IsInExtent s x i → IsInExtent after a i → ⊥
  not-both x i holds inside new =
      let below : i < a + size_of refs nums = subst (λ (k : ℕ). i < a + k) new-size new.below in
      let from : a ≤ i = new.from in
      elim (vacant.apart x i holds inside) as (λ _. ⊥) [ inl h ↦ omega arith | inr h ↦ omega arith ]

  apart-after : AreObjectsRight s → (x y i : ℕ) → IsHeld after x → IsHeld after y → IsInExtent after x i → IsInExtent after y i → x ≡ y
  apart-after old x y i hx hy ix iy = elim (held-cases x hx) as (λ _. x ≡ y) [
    | inl ex ↦ elim (held-cases y hy) as (λ _. x ≡ y) [
      | inl ey ↦ ex ∙ sym ey
      | inr by ↦ absurd (not-both y i by (extent-before y i by iy) (subst (λ (k : ℕ). IsInExtent after k i) ex ix))
    ]
    | inr bx ↦ elim (held-cases y hy) as (λ _. x ≡ y) [
      | inl ey ↦ absurd (not-both x i bx (extent-before x i bx ix) (subst (λ (k : ℕ). IsInExtent after k i) ey iy))
      | inr by ↦ old.apart x y i bx by (extent-before x i bx ix) (extent-before y i by iy)
    ]
  ]

  names-after : AreObjectsRight s → (x y : ℕ) → IsHeld after x → IsHeld after y → name_at after x ≡ name_at after y → x ≡ y
  names-after old x y hx hy e = elim (held-cases x hx) as (λ _. x ≡ y) [
    | inl ex ↦ elim (held-cases y hy) as (λ _. x ≡ y) [
      | inl ey ↦ ex ∙ sym ey
      | inr by ↦ absurd (vacant.fresh y by (sym (name-same y by) ∙ sym e ∙ ap (name_at after) ex ∙ new-name))
    ]
    | inr bx ↦ elim (held-cases y hy) as (λ _. x ≡ y) [
      | inl ey ↦ absurd (vacant.fresh x bx (sym (name-same x bx) ∙ e ∙ ap (name_at after) ey ∙ new-name))
      | inr by ↦ old.names x y bx by (sym (name-same x bx) ∙ e ∙ name-same y by)
    ]
  ]

  -- what holds of objects by themselves
  pub objects-after : AreObjectsRight s → AreObjectsRight after
  objects-after old = record {
    headers = either (HasHeader after) new-header (λ x holds. old-header x holds (old.headers x holds));
    marks = λ x h. held-after x (old.marks x (sym (ap (λ t. t || is_unlogged after x) (adds.pins x) ∙ ap (λ t. is_pinned s x || t) (adds.unlogs x)) ∙ h));
    apart = apart-after old;
    references = λ x i holds. either (λ y. i < refs_at after y → IsRefField after (ref_at after y i))
        (λ less. subst (IsRefField after) (sym (new-ref i (subst (λ (k : ℕ). i < k) new-refs less))) (λ some. absurd (refers-some 0 some refl)))
        (λ y before less. let few : i < refs_at s y = subst (λ (k : ℕ). i < k) (refs-same y before) less in
        subst (IsRefField after) (sym (ref-same y i before few)) (reference-after _ (old.references y i before few)))
        x holds;
    globals = λ g small. subst (IsRoot after) (sym (adds.globals g small)) (root-after _ (old.globals g small));
    names = names-after old;
  }

  -- and where they lie, if blocks in use keep their words, and those that were Free are in no run but the new object's
  pub places-after : ((k : ℕ) → k < s.blocks → (HasKind s k kinds.Free → ⊥) → block_word after k ≡ block_word s k)
      → Lies after a (size_of refs nums)
      → ((k : ℕ) → HasKind s k kinds.Free → HasKind after k kinds.LargeHead → (block_start s.blocks k ≡ a) × (2048 < size_of refs nums))
      → ((k : ℕ) → HasKind s k kinds.Free → HasKind after k kinds.LargeTail → IsTrue (is_in_run after k))
      → ArePlacesRight s → ArePlacesRight after
  places-after kept lies heads tails old = record {
    lies = either (λ x. Lies after x (size_at after x)) (subst (Lies after a) (sym new-size) lies)
        (λ x holds. subst (Lies after x) (sym (size-same x holds)) (used.lies-kept s w kept x (size_at s x) (old.lies x holds)));
    heads = λ k now. elim (used.kind-before s w kept k kinds.LargeHead now) as (λ _. IsHeld after (block_start s.blocks k) × (2048 < size_at after (block_start s.blocks k))) [
      | inl is ↦ (let here = old.heads k is in (held-after _ here.0, subst (λ (q : ℕ). 2048 < q) (sym (size-same _ here.0)) here.1))
      | inr free ↦ (let here = heads k free now in
          subst (λ (x : ℕ). IsHeld after x × (2048 < size_at after x)) (sym here.0) (held-new, subst (λ (q : ℕ). 2048 < q) (sym new-size) here.1))
    ];
    tails = λ k now. elim (used.kind-before s w kept k kinds.LargeTail now) as (λ _. IsTrue (is_in_run after k)) [
      | inl is ↦ used.in_run-kept s w kept k (old.tails k is)
      | inr free ↦ tails k free now
    ];
  }

  new-inside : (i : ℕ) → IsInExtent after a i → i < a + size_of refs nums
  new-inside i inside = subst (λ (k : ℕ). i < a + k) new-size inside.below

  -- a block without a word of the new object stays clear, if its line bits are unchanged
  pub clear-after : (k : ℕ) → ((i : ℕ) → a ≤ i → i < a + size_of refs nums → block_at s.blocks i ≢ k)
      → ((line : ℕ) → line < 256 → line_marked after k line ≡ line_marked s k line) → IsClear s k → IsClear after k
  clear-after k away lines old = record {
    empty = λ x i holds. either (λ y. IsInExtent after y i → block_at s.blocks i ≢ k)
        (λ inside. away i inside.from (new-inside i inside)) (λ y before inside. old.empty y i before (extent-before y i before inside)) x holds;
    lines = λ line small marked. old.lines line small (sym (lines line small) ∙ marked);
    marks = λ x in_block h. old.marks x in_block
        (let other : x ≢ a = λ e. away a (omega arith) (omega arith) (ap (block_at s.blocks) (sym e) ∙ in_block) in
        sym (ap (λ t. t || is_pinned after x || is_unlogged after x) (adds.starts x other) ∙ ap (λ t. is_start s x || t || is_unlogged after x) (adds.pins x)
        ∙ ap (λ t. is_start s x || is_pinned s x || t) (adds.unlogs x)) ∙ h);
  }

  -- the line bits of a block are exact, if those of the new object's lines are set as well
  pub lines-after : (k : ℕ) → (HasKind after k kinds.Immix → HasKind s k kinds.Immix)
      → ((line : ℕ) → line < 256 → IsTrue (line_marked s k line) → IsTrue (line_marked after k line))
      → ((line : ℕ) → line < 256 → IsTrue (line_marked after k line) → IsTrue (line_marked s k line) ⊎ TouchesLine s.blocks a (size_of refs nums) (256 * k + line))
      → ((line : ℕ) → line < 256 → TouchesLine s.blocks a (size_of refs nums) (256 * k + line) → IsTrue (line_marked after k line))
      → LineBitsAreExact s k → LineBitsAreExact after k
  lines-after k before stay grown covered old = record {
    marked = λ line now small marked. elim (grown line small marked) as (λ _. ∥ IsTouched after k line ∥₁) [
      | inl was ↦ ∥∥₁_map (old.marked line (before now) small was) (λ t. touched-as s after k line t refl (held-after t.object t.held) (size-same t.object t.held))
      | inr here ↦ ∣ record { object = a; held = held-new; touches = subst (λ (q : ℕ). TouchesLine s.blocks a q (256 * k + line)) (sym new-size) here } ∣₁
    ];
    touched = λ line now small t. elim (held-cases t.object t.held) as (λ _. IsTrue (line_marked after k line)) [
      | inl e ↦ covered line small (subst (λ (q : ℕ). TouchesLine s.blocks a q (256 * k + line)) new-size
          (subst (λ (x : ℕ). TouchesLine s.blocks x (size_at after x) (256 * k + line)) e t.touches))
      | inr holds ↦ stay line small (old.touched line (before now) small (touched-as after s k line t refl holds (sym (size-same t.object holds))))
    ];
  }

-- a small or medium object: no block word changes
module _ (s : HeapState) (w : List ℕ) (a : ℕ) (n : Name) (refs nums : ℕ) (one_more : Adds s w a n refs nums)
    (same_words : (k : ℕ) → k < s.blocks → block_word (with_words s w) k ≡ block_word s k) (order : IsWellFormed s) (room : IsRoom s a n refs nums) where
  abbrev born : HeapState
  born = with_words s w

  -- the object's words lie in one block, which is not Free
  pub in-block : (i : ℕ) → a ≤ i → i < a + size_of refs nums → block_at s.blocks i ≡ block_at s.blocks a
  in-block i from below =
      let base : heap_of s.blocks ≤ a = room.vacant.address.from in
      let end : offset_at s.blocks a + size_of refs nums ≤ 4096 = room.place.within in
      omega arith

  block-not-free : HasKind s (block_at s.blocks a) kinds.Free → ⊥
  block-not-free is = true≢false (sym room.place.kind ∙ has_small-free s (block_at s.blocks a) is)

  pub order-born : length w ≡ length s.words → ((i : ℕ) → word_at born i < 2 ^ 64) → IsWellFormed born
  order-born extent fits = record {
    row = record { least = order.row.least; most = order.row.most; extent = extent ∙ order.row.extent; words = fits; base = order.row.base };
    objects = together born (objects-after s w a n refs nums one_more room.vacant (objects-of s order.objects))
        (places-after s w a n refs nums one_more room.vacant (λ k there used. same_words k there) new-lies
        (λ k free now. absurd (let e = one-kind s k kinds.Free kinds.LargeHead free (HasKind-back s w same_words k kinds.LargeHead now) in omega arith))
        (λ k free now. absurd (let e = one-kind s k kinds.Free kinds.LargeTail free (HasKind-back s w same_words k kinds.LargeTail now) in omega arith))
        (places-of s order.objects));
  }
    where
      new-lies : Lies born a (size_of refs nums)
      new-lies = used.lies-kept s w (λ k there in_use. same_words k there) a (size_of refs nums)
          (record { small = λ fits. room.place; large = λ large. absurd (let fits : size_of refs nums ≤ 2048 = room.small in omega arith) })

  -- if the line bits of other blocks are unchanged
  free-born : ((k line : ℕ) → k < s.blocks → line < 256 → k ≢ block_at s.blocks a → line_marked born k line ≡ line_marked s k line)
      → ((k : ℕ) → FreeBlockIsClear s k) → (k : ℕ) → FreeBlockIsClear born k
  free-born lines old k now =
      let is : HasKind s k kinds.Free = HasKind-back s w same_words k kinds.Free now in
      let away : k ≢ block_at s.blocks a = λ e. block-not-free (subst (λ (q : ℕ). HasKind s q kinds.Free) e is) in
      clear-after s w a n refs nums one_more room.vacant k (λ i from below e. away (sym e ∙ in-block i from below))
      (λ line small. lines k line (kind-in s w same_words k kinds.Free is) small away) (old k is)

  pub but_lines-born : IsWellFormed born → ((k line : ℕ) → k < s.blocks → line < 256 → k ≢ block_at s.blocks a → line_marked born k line ≡ line_marked s k line)
      → IsLawfulButLines s → IsLawfulButLines born
  but_lines-born ordered lines old = record {
    order = ordered;
    blocks = λ k there. record {
      code = subst (λ (v : ℕ). IsTrue (is_block_code v)) (sym (same_words k there)) (old.blocks k there).code;
      owner = ap (λ v. v / 65536) (same_words k there) ∙ (old.blocks k there).owner;
    };
    free = free-born lines old.free;
  }

  -- if the line bits of the object's lines are set as well
  pub lines-born : (k : ℕ)
      → ((line : ℕ) → HasKind s k kinds.Immix → line < 256 → IsTrue (line_marked s k line) → IsTrue (line_marked born k line))
      → ((line : ℕ) → HasKind s k kinds.Immix → line < 256 → IsTrue (line_marked born k line) → IsTrue (line_marked s k line) ⊎ TouchesLine s.blocks a (size_of refs nums) (256 * k + line))
      → ((line : ℕ) → HasKind s k kinds.Immix → line < 256 → TouchesLine s.blocks a (size_of refs nums) (256 * k + line) → IsTrue (line_marked born k line))
      → LineBitsAreExact s k → LineBitsAreExact born k
  lines-born k stay grown covered old = record { marked = λ line now. (right now).marked line now; touched = λ line now. (right now).touched line now }
    where
      right : HasKind born k kinds.Immix → LineBitsAreExact born k
      right now =
          let is : HasKind s k kinds.Immix = HasKind-back s w same_words k kinds.Immix now in
          lines-after s w a n refs nums one_more room.vacant k (λ again. is) (λ line. stay line is) (λ line. grown line is) (λ line. covered line is) old

  -- a line that the object touches belongs to the object's block
  pub covered-block : (k line : ℕ) → line < 256 → TouchesLine s.blocks a (size_of refs nums) (256 * k + line) → k ≡ block_at s.blocks a
  covered-block k line small here = sym (touched-block s.blocks a (size_of refs nums) k line room.vacant.address.from room.place.within small here)

-- A small or medium object is written: its block is not an Immix block, or its lines are marked.
module _ (s : HeapState) (w : List ℕ) (a : ℕ) (n : Name) (refs nums : ℕ) (writes : WritesObject s (with_words s w) a n refs nums)
    (order : IsWellFormed s) (room : IsRoom s a n refs nums) where
  one_more : Adds s w a n refs nums
  one_more = adds s w a n refs nums writes room.vacant.address

  same_words : (k : ℕ) → k < s.blocks → block_word (with_words s w) k ≡ block_word s k
  same_words = block_words s w a n refs nums writes room.vacant.address

  same_lines : (k line : ℕ) → k < s.blocks → line < 256 → line_marked (with_words s w) k line ≡ line_marked s k line
  same_lines = lines-same s w a n refs nums writes room.vacant.address

  pub order-written : IsWellFormed (with_words s w)
  order-written = order-born s w a n refs nums one_more same_words order room writes.extent writes.words

  pub but_lines-written : IsLawfulButLines s → IsLawfulButLines (with_words s w)
  but_lines-written = but_lines-born s w a n refs nums one_more same_words order room order-written (λ k line there small away. same_lines k line there small)

  pub lawful-written : ((line : ℕ) → HasKind s (block_at s.blocks a) kinds.Immix → line < 256 → TouchesLine s.blocks a (size_of refs nums) (256 * block_at s.blocks a + line) → IsTrue (line_marked s (block_at s.blocks a) line))
      → IsLawful s → IsLawful (with_words s w)
  lawful-written marked lawful = record {
    but_lines = but_lines-written lawful.but_lines;
    lines = λ k. lines-born s w a n refs nums one_more same_words order room k
        (λ line is small was. same_lines k line (kind-within s k kinds.Immix is) small ∙ was)
        (λ line is small set. inl (sym (same_lines k line (kind-within s k kinds.Immix is) small) ∙ set))
        (λ line is small here. same_lines k line (kind-within s k kinds.Immix is) small ∙ own k line is small here)
        (lawful.lines k);
  }
    where
      own : (k line : ℕ) → HasKind s k kinds.Immix → line < 256 → TouchesLine s.blocks a (size_of refs nums) (256 * k + line) → IsTrue (line_marked s k line)
      own k line is small here =
          let e : k ≡ block_at s.blocks a = covered-block s w a n refs nums one_more same_words order room k line small here in
          subst (λ (q : ℕ). IsTrue (line_marked s q line)) (sym e)
          (marked line (subst (λ (q : ℕ). HasKind s q kinds.Immix) e is) small (subst (λ (q : ℕ). TouchesLine s.blocks a (size_of refs nums) (256 * q + line)) e here))
