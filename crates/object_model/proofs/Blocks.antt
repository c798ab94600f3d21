-- A Free block becomes one for small objects: no object is touched.
use Rattle.std.proofs.Common.{◌≡◌, ◌≢◌, refl, sym, ◌∙◌, ap, subst, ℕ, ◌+◌, ◌*◌, ◌-◌, ◌/◌, ◌%◌, ◌^◌, ◌<◌, ◌≤◌, ◌⊎◌, inl, inr, arith, Bool, true, false, ◌||◌, IsTrue, List, [], ◌∷◌, length, Some, None, Option, map, nat_eq, slice_set, ◌↔◌}
use Rattle.std.specs.Int.{bit_at}
use Rattle.std.specs.List.{AllByRecursion, Any, range_with_len}
use Rattle.std.proofs.Math.Logic.{∥∥₁_map}
use Rattle.std.proofs.lemmas.Bool.{cases_eq, true≢false}
use Rattle.std.proofs.lemmas.List.{get_or-set_same, get_or-set_other, length-set}
use Rattle.heap_layout.specs.Zones.{Zone, StartBits, PinBits, UnlogBits, LineWords, BlockWords, Globals, row_words, heap_of, first, address_bit, block_start}
use Rattle.heap_layout.specs.Blocks.{is_block_code, kind_code}
use Rattle.heap_layout.specs.declared.block.Kind.{Kind}
use Rattle.heap_layout.specs.declared.block.Kind.TheVariants as kinds
use Rattle.ideal_heap.specs.declared.name.Name.{Name}
use Rattle.ideal_heap.specs.Names.{IsName, name_of}
use Rattle.ideal_heap.specs.Ideal.{IdealHeap, Nil, At}
use Rattle.object_model.specs.Objects.{HeapState, with_words, word_at, global_at, block_word, HasKind, is_start, is_pinned, is_unlogged, line_marked, IsHeld, IsInExtent, name_at, refs_at, nums_at, size_at, ref_at, num_at, record_at, field_of_word, size_of, is_reference}
use Rattle.object_model.specs.Lawful.{IsLawful, IsLawfulButLines, IsWellFormed, HasHeader, Lies, IsRefField, IsRoot, IsClear, FreeBlockIsClear, IsTouched, LineBitsAreExact, is_in_run}
use Rattle.object_model.specs.Graphs.{MutatorState, PointsTo, register_at}
use Rattle.object_model.specs.Agreement.{RepresentsOn}
use Rattle.object_model.proofs.Marks.{mark-same}
use Rattle.object_model.proofs.References.{refers-cases}
use Rattle.object_model.proofs.OneKind.{kind-code, kind-within, kind-from, one-kind, is_small_code}
use Rattle.object_model.proofs.ObjectParts.{AreObjectsRight, ArePlacesRight, objects-of, places-of, together}
use Rattle.object_model.proofs.Lines.{held-block_word, touched-as}
use Rattle.object_model.proofs.UsedBlocks as used
use Rattle.object_model.proofs.Records.{record-parts, fields_at, numbers_at}
use Rattle.object_model.proofs.Representation.{word-named, nil-word}
use Rattle.object_model.proofs.Updates.{map-range-same}

-- the words of the heap, and the bits of addresses and lines, are the same
pub record SameHeap (s : HeapState) (w : List ℕ) : Type 0 where
  pub words : (i : ℕ) → heap_of s.blocks ≤ i → word_at (with_words s w) i ≡ word_at s i
  pub globals : (g : ℕ) → g < 16 → global_at (with_words s w) g ≡ global_at s g
  pub starts : (x : ℕ) → is_start (with_words s w) x ≡ is_start s x
  pub pins : (x : ℕ) → is_pinned (with_words s w) x ≡ is_pinned s x
  pub unlogs : (x : ℕ) → is_unlogged (with_words s w) x ≡ is_unlogged s x

module _ (s : HeapState) (w : List ℕ) (same : SameHeap s w) where
  abbrev after : HeapState
  after = with_words s w

  pub held-after : (x : ℕ) → IsHeld s x → IsHeld after x
  held-after x holds = record { address = holds.address; start = same.starts x ∙ holds.start }

  pub held-before : (x : ℕ) → IsHeld after x → IsHeld s x
  held-before x holds = record { address = holds.address; start = sym (same.starts x) ∙ holds.start }

  pub at : (x i : ℕ) → IsHeld s x → word_at after (x + i) ≡ word_at s (x + i)
  at x i holds = same.words (x + i) (let from : heap_of s.blocks ≤ x = holds.address.from in omega arith)

  pub name-same : (x : ℕ) → IsHeld s x → name_at after x ≡ name_at s x
  name-same x holds = ap name_of (same.words x holds.address.from)

  pub refs-same : (x : ℕ) → IsHeld s x → refs_at after x ≡ refs_at s x
  refs-same x holds = ap (λ v. v % 65536) (at x 1 holds)

  pub nums-same : (x : ℕ) → IsHeld s x → nums_at after x ≡ nums_at s x
  nums-same x holds = ap (λ v. v / 65536) (at x 1 holds)

  pub size-same : (x : ℕ) → IsHeld s x → size_at after x ≡ size_at s x
  size-same x holds = ap (λ v. size_of (v % 65536) (v / 65536)) (at x 1 holds)

  pub ref-same : (x i : ℕ) → IsHeld s x → ref_at after x i ≡ ref_at s x i
  ref-same x i holds = same.words (x + 3 + i) (let from : heap_of s.blocks ≤ x = holds.address.from in omega arith)

  pub reference-after : (v : ℕ) → IsRefField s v → IsRefField after v
  reference-after v reference some = held-after v (reference some)

  pub root-after : (v : ℕ) → IsRoot s v → IsRoot after v
  root-after v root some = held-after v (root some)

  pub extent-before : (x i : ℕ) → IsHeld s x → IsInExtent after x i → IsInExtent s x i
  extent-before x i holds inside = record { from = inside.from; below = subst (λ (n : ℕ). i < x + n) (size-same x holds) inside.below }

  extent-after : (x i : ℕ) → IsHeld s x → IsInExtent s x i → IsInExtent after x i
  extent-after x i holds inside = record { from = inside.from; below = subst (λ (n : ℕ). i < x + n) (sym (size-same x holds)) inside.below }

  header-after : (x : ℕ) → IsHeld s x → HasHeader s x → HasHeader after x
  header-after x holds old =
      let collector : word_at after (x + 2) ≡ word_at s (x + 2) = at x 2 holds in
      record {
        object = record {
          name = subst IsName (sym (name-same x holds)) old.object.name;
          refs = subst (λ (n : ℕ). n ≤ 1024) (sym (refs-same x holds)) old.object.refs;
          nums = subst (λ (n : ℕ). n ≤ 60000) (sym (nums-same x holds)) old.object.nums;
        };
        number = subst (λ (v : ℕ). v / 2 ^ 24 ≤ s.number) (sym collector) old.number;
        target = subst (λ (v : ℕ). 0 < v / 2 ^ 24 → v % 2 ^ 24 ≡ x) (sym collector) old.target;
      }

  -- the invariant of each object's own words
  pub objects-after : AreObjectsRight s → AreObjectsRight after
  objects-after old = record {
    headers = λ x holds. let before = held-before x holds in header-after x before (old.headers x before);
    marks = λ x h. held-after x (old.marks x (sym (ap (λ t. t || is_unlogged after x) (same.pins x) ∙ ap (λ t. is_pinned s x || t) (same.unlogs x)) ∙ h));
    apart = λ x y i hx hy ix iy. let bx = held-before x hx in let by = held-before y hy in
        old.apart x y i bx by (extent-before x i bx ix) (extent-before y i by iy);
    references = λ x i holds less. let before = held-before x holds in
        subst (IsRefField after) (sym (ref-same x i before)) (reference-after _ (old.references x i before (subst (λ (n : ℕ). i < n) (refs-same x before) less)));
    globals = λ g small. subst (IsRoot after) (sym (same.globals g small)) (root-after _ (old.globals g small));
    names = λ x y hx hy e. let bx = held-before x hx in let by = held-before y hy in
        old.names x y bx by (sym (name-same x bx) ∙ e ∙ name-same y by);
  }

  -- and where they lie, if blocks in use keep their words and none that was Free is in a run
  pub places-after : ((k : ℕ) → k < s.blocks → (HasKind s k kinds.Free → ⊥) → block_word after k ≡ block_word s k)
      → ((k : ℕ) → HasKind s k kinds.Free → (HasKind after k kinds.LargeHead → ⊥) × (HasKind after k kinds.LargeTail → ⊥))
      → ArePlacesRight s → ArePlacesRight after
  places-after kept plain old = record {
    lies = λ x holds. let before = held-before x holds in subst (Lies after x) (sym (size-same x before)) (used.lies-kept s w kept x (size_at s x) (old.lies x before));
    heads = λ k now. elim (used.kind-before s w kept k kinds.LargeHead now) as (λ _. IsHeld after (block_start s.blocks k) × (2048 < size_at after (block_start s.blocks k))) [
      | inl is ↦ (let here = old.heads k is in (held-after _ here.0, subst (λ (n : ℕ). 2048 < n) (sym (size-same _ here.0)) here.1))
      | inr free ↦ absurd ((plain k free).0 now)
    ];
    tails = λ k now. elim (used.kind-before s w kept k kinds.LargeTail now) as (λ _. IsTrue (is_in_run after k)) [
      | inl is ↦ used.in_run-kept s w kept k (old.tails k is)
      | inr free ↦ absurd ((plain k free).1 now)
    ];
  }

  -- a block is clear if its line bits are unchanged as well
  pub clear-after : (k : ℕ) → ((line : ℕ) → line < 256 → line_marked after k line ≡ line_marked s k line) → IsClear s k → IsClear after k
  clear-after k lines old = record {
    empty = λ x i holds inside. let before = held-before x holds in old.empty x i before (extent-before x i before inside);
    lines = λ line small marked. old.lines line small (sym (lines line small) ∙ marked);
    marks = λ x in_block h. old.marks x in_block
        (sym (ap (λ t. t || is_pinned after x || is_unlogged after x) (same.starts x) ∙ ap (λ t. is_start s x || t || is_unlogged after x) (same.pins x) ∙ ap (λ t. is_start s x || is_pinned s x || t) (same.unlogs x)) ∙ h);
  }

  pub touched-after : (k line : ℕ) → IsTouched s k line → IsTouched after k line
  touched-after k line t = touched-as s after k line t refl (held-after t.object t.held) (size-same t.object t.held)

  pub touched-before : (k line : ℕ) → IsTouched after k line → IsTouched s k line
  touched-before k line t = let before = held-before t.object t.held in touched-as after s k line t refl before (sym (size-same t.object before))

  pub points-after : (v : ℕ) (o : Option Name) → PointsTo s v o → PointsTo after v o
  points-after v None p = p
  points-after v (Some n) p = (p.0, held-after v p.1, name-same v p.1 ∙ p.2)

  registers-after : (h : IdealHeap) (ms : List MutatorState) → AllByRecursion (λ m. (d : ℕ) → d < 16 → PointsTo s (register_at m d) (h.registers m.number d)) ms
      → AllByRecursion (λ m. (d : ℕ) → d < 16 → PointsTo after (register_at m d) (h.registers m.number d)) ms
  registers-after h [] all = tt
  registers-after h (m ∷ ms) all = (λ d small. points-after (register_at m d) (h.registers m.number d) (all.0 d small), registers-after h ms all.1)

  record-same : IsWellFormed s → (x : ℕ) → IsHeld s x → record_at after x ≡ record_at s x
  record-same order x holds = record-parts (fields_at after x) (fields_at s x) (numbers_at after x) (numbers_at s x) fields numbers
    where
      field : (i : ℕ) → i < refs_at s x → field_of_word after (ref_at after x i) ≡ field_of_word s (ref_at s x i)
      field i less = ap (field_of_word after) (ref-same x i holds)
          ∙ elim (refers-cases (ref_at s x i)) as (λ _. field_of_word after (ref_at s x i) ≡ field_of_word s (ref_at s x i)) [
            | inl nil ↦ nil-word after (ref_at s x i) nil ∙ sym (nil-word s (ref_at s x i) nil)
            | inr some ↦ word-named after (ref_at s x i) some
                ∙ ap (λ n. At n) (name-same (ref_at s x i) (order.objects.references x i holds less some))
                ∙ sym (word-named s (ref_at s x i) some)
          ]

      fields : fields_at after x ≡ fields_at s x
      fields = ap (λ k. map (λ i. field_of_word after (ref_at after x i)) (range_with_len 0 k)) (refs-same x holds)
          ∙ map-range-same Nil (λ i. field_of_word after (ref_at after x i)) (λ i. field_of_word s (ref_at s x i)) (refs_at s x) field

      number : (j : ℕ) → j < nums_at s x → num_at after x j ≡ num_at s x j
      number j less = ap (λ k. word_at after (x + 3 + k + j)) (refs-same x holds)
          ∙ same.words (x + 3 + refs_at s x + j) (let from : heap_of s.blocks ≤ x = holds.address.from in omega arith)

      numbers : numbers_at after x ≡ numbers_at s x
      numbers = ap (λ k. map (λ j. num_at after x j) (range_with_len 0 k)) (nums-same x holds)
          ∙ map-range-same 0 (λ j. num_at after x j) (λ j. num_at s x j) (nums_at s x) number

  pub models-after : (ms : List MutatorState) (h : IdealHeap) (set : ℕ → Type 0) → RepresentsOn s ms h set → IsWellFormed after → RepresentsOn after ms h set
  models-after ms h set model order = record {
    order = order;
    mutators = model.mutators;
    pointers = record {
      registers = registers-after h ms model.pointers.registers;
      globals = λ g small. subst (λ (v : ℕ). PointsTo after v (h.globals g)) (sym (same.globals g small)) (points-after (global_at s g) (h.globals g) (model.pointers.globals g small));
      confined = model.pointers.confined;
    };
    births = record {
      births = model.births.births;
      held = λ a there. let before = held-before a there in
          subst (λ (k : Name). Any (λ m. (k.mutator ≡ m.number) × (k.birth ≤ m.births)) ms) (sym (name-same a before)) (model.births.held a before);
      pinned = model.births.pinned;
    };
    mirrors = record {
      held = λ a there. held-after a (model.mirrors.held a there);
      fields = λ a i there less some. let holds = model.mirrors.held a there in
          subst set (sym (ref-same a i holds)) (model.mirrors.fields a i there (subst (λ (k : ℕ). i < k) (refs-same a holds) less) (subst (λ (y : ℕ). IsTrue (is_reference y)) (ref-same a i holds) some));
      registers = model.mirrors.registers;
      globals = λ g small some. subst set (sym (same.globals g small)) (model.mirrors.globals g small (λ nil. some (same.globals g small ∙ nil)));
      records = λ a there. let holds = model.mirrors.held a there in
          ap h.records (name-same a holds) ∙ model.mirrors.records a there ∙ ap (λ r. Some r) (sym (record-same model.order a holds));
      pins = λ a there. let holds = model.mirrors.held a there in
          subst (λ (k : Name). IsTrue (is_pinned after a) ↔ IsTrue (h.pinned k)) (sym (name-same a holds))
          (subst (λ (b : Bool). IsTrue b ↔ IsTrue (h.pinned (name_at s a))) (sym (same.pins a)) (model.mirrors.pins a there));
    };
  }

-- block k has this word, and all else is unchanged
abbrev pub set_block : HeapState → ℕ → ℕ → List ℕ
set_block s k v = slice_set s.words (first s.blocks BlockWords + k) v

module _ (s : HeapState) (k v : ℕ) (there : k < s.blocks) where
  abbrev set : HeapState
  set = with_words s (set_block s k v)

  abbrev place : ℕ
  place = first s.blocks BlockWords + k

  pub word-other : (i : ℕ) → i ≢ place → word_at set i ≡ word_at s i
  word-other i other = get_or-set_other s.words place i v 0 other

  pub block-set : length s.words ≡ row_words s.blocks → block_word set k ≡ v
  block-set many = get_or-set_same s.words place v 0 (omega arith)

  pub block-other : (j : ℕ) → j ≢ k → block_word set j ≡ block_word s j
  block-other j other = word-other (first s.blocks BlockWords + j) (λ e. other (omega arith))

  pub kind-own : length s.words ≡ row_words s.blocks → (kind : Kind) → v % 256 ≡ kind_code kind → HasKind set k kind
  kind-own many kind code = kind-from set k kind there (ap (λ x. x % 256) (block-set many) ∙ code)

  pub kind-other : (j : ℕ) (kind : Kind) → j ≢ k → HasKind s j kind → HasKind set j kind
  kind-other j kind away is = kind-from set j kind (kind-within s j kind is) (ap (λ x. x % 256) (block-other j away) ∙ kind-code s j kind is)

  marks : (z : Zone) (x : ℕ) → first s.blocks BlockWords + s.blocks ≤ first s.blocks z → address_bit s.blocks z set.words x ≡ address_bit s.blocks z s.words x
  marks z x above = mark-same s.blocks z s.words set.words x (λ here. ap (λ word. nat_eq (bit_at word ((x - heap_of s.blocks) % 64)) 1)
      (word-other (first s.blocks z + (x - heap_of s.blocks) / 64) (λ e. omega arith)))

  pub same_heap : SameHeap s (set_block s k v)
  same_heap = record {
    words = λ i above. word-other i (λ e. omega arith);
    globals = λ g small. word-other (first s.blocks Globals + g) (λ e. omega arith);
    starts = λ x. marks StartBits x (omega arith);
    pins = λ x. marks PinBits x (omega arith);
    unlogs = λ x. marks UnlogBits x (omega arith);
  }

  pub lines-same : (j line : ℕ) → line_marked set j line ≡ line_marked s j line
  lines-same j line = ap (λ word. nat_eq (bit_at word ((256 * j + line) % 64)) 1)
      (word-other (first s.blocks LineWords + (256 * j + line) / 64) (λ e. omega arith))

  pub words-fit : v < 2 ^ 64 → length s.words ≡ row_words s.blocks → ((i : ℕ) → word_at s i < 2 ^ 64) → (i : ℕ) → word_at set i < 2 ^ 64
  words-fit fits many old i = elim (cases_eq i place) as (λ _. word_at set i < 2 ^ 64) [
    | inl e ↦ subst (λ (x : ℕ). x < 2 ^ 64) (sym (ap (word_at set) e ∙ block-set many)) fits
    | inr other ↦ subst (λ (x : ℕ). x < 2 ^ 64) (sym (word-other i other)) (old i)
  ]

-- A Free block that is clear is taken: its word is now that of a block for small objects.
module _ (s : HeapState) (order : IsWellFormed s) (k v : ℕ) (is : HasKind s k kinds.Free) (clear : IsClear s k) (fits : v < 2 ^ 64)
    (small : IsTrue (is_small_code true (v % 256))) where
  pub there : k < s.blocks
  there = kind-within s k kinds.Free is

  abbrev w : List ℕ
  w = set_block s k v

  abbrev taken : HeapState
  taken = with_words s (set_block s k v)

  same : SameHeap s (set_block s k v)
  same = same_heap s k v there

  block-taken : block_word taken k ≡ v
  block-taken = block-set s k v there order.row.extent

  kept : (j : ℕ) → j < s.blocks → (HasKind s j kinds.Free → ⊥) → block_word taken j ≡ block_word s j
  kept j here used = block-other s k v there j (λ e. used (subst (λ (q : ℕ). HasKind s q kinds.Free) (sym e) is))

  -- a block whose kind is not for small objects is another block, and has its old kind
  pub kind-before : (j : ℕ) (kind : Kind) → is_small_code true (kind_code kind) ≡ false → HasKind taken j kind → (j ≢ k) × HasKind s j kind
  kind-before j kind plain now =
      let away : j ≢ k = λ e. true≢false (sym small ∙ ap (is_small_code true) (ap (λ x. x % 256) (sym block-taken) ∙ ap (λ q. block_word taken q % 256) (sym e) ∙ kind-code taken j kind now) ∙ plain) in
      (away, kind-from s j kind (kind-within taken j kind now) (ap (λ x. x % 256) (sym (block-other s k v there j away)) ∙ kind-code taken j kind now))

  pub order-taken : IsWellFormed taken
  order-taken = record {
    row = record {
      least = order.row.least;
      most = order.row.most;
      extent = length-set s.words (first s.blocks BlockWords + k) v ∙ order.row.extent;
      words = words-fit s k v there fits order.row.extent order.row.words;
      base = order.row.base;
    };
    objects = together taken (objects-after s w same (objects-of s order.objects)) (places-after s w same kept plain (places-of s order.objects));
  }
    where
      plain : (j : ℕ) → HasKind s j kinds.Free → (HasKind taken j kinds.LargeHead → ⊥) × (HasKind taken j kinds.LargeTail → ⊥)
      plain j free = (
        λ now. let old = (kind-before j kinds.LargeHead refl now).1 in let e = one-kind s j kinds.LargeHead kinds.Free old free in omega arith,
        λ now. let old = (kind-before j kinds.LargeTail refl now).1 in let e = one-kind s j kinds.LargeTail kinds.Free old free in omega arith,
      )

  -- no line of the block is touched
  none-touched : (line : ℕ) → line < 256 → IsTouched s k line → ⊥
  none-touched line few t = let word = held-block_word s k line few t in clear.empty t.object word.0 t.held word.1 word.2

  pub lines-taken : ((j : ℕ) → LineBitsAreExact s j) → (j : ℕ) → LineBitsAreExact taken j
  lines-taken old j = record {
    marked = λ line now few marked. elim (before j now) as (λ _. ∥ IsTouched taken j line ∥₁) [
      | inl e ↦ absurd (clear.lines line few (subst (λ (q : ℕ). IsTrue (line_marked s q line)) e (sym (lines-same s k v there j line) ∙ marked)))
      | inr immix ↦ ∥∥₁_map ((old j).marked line immix few (sym (lines-same s k v there j line) ∙ marked)) (touched-after s w same j line)
    ];
    touched = λ line now few t. let t' = touched-before s w same j line t in elim (before j now) as (λ _. IsTrue (line_marked taken j line)) [
      | inl e ↦ absurd (none-touched line few (subst (λ (q : ℕ). IsTouched s q line) e t'))
      | inr immix ↦ lines-same s k v there j line ∙ (old j).touched line immix few t'
    ];
  }
    where
      before : (j : ℕ) → HasKind taken j kinds.Immix → (j ≡ k) ⊎ HasKind s j kinds.Immix
      before j now = elim (cases_eq j k) as (λ _. (j ≡ k) ⊎ HasKind s j kinds.Immix) [
        | inl e ↦ inl e
        | inr away ↦ inr (kind-from s j kinds.Immix (kind-within taken j kinds.Immix now) (ap (λ x. x % 256) (sym (block-other s k v there j away)) ∙ kind-code taken j kinds.Immix now))
      ]

  pub free-taken : ((j : ℕ) → FreeBlockIsClear s j) → (j : ℕ) → FreeBlockIsClear taken j
  free-taken old j now = clear-after s w same j (λ line few. lines-same s k v there j line) (old j (kind-before j kinds.Free refl now).1)

  -- the invariant of each block's word
  each-word : (P : ℕ → Type 0) → P v → ((j : ℕ) → j < s.blocks → P (block_word s j)) → (j : ℕ) → j < s.blocks → P (block_word taken j)
  each-word P new old j here = elim (cases_eq j k) as (λ _. P (block_word taken j)) [
    | inl e ↦ subst P (sym (ap (block_word taken) e ∙ block-taken)) new
    | inr away ↦ subst P (sym (block-other s k v there j away)) (old j here)
  ]

  pub but_lines-taken : IsTrue (is_block_code v) → v / 65536 ≡ 0 → IsLawfulButLines s → IsLawfulButLines taken
  but_lines-taken code nobody old = record {
    order = order-taken;
    blocks = λ j here. record {
      code = each-word (λ x. IsTrue (is_block_code x)) code (λ i inside. (old.blocks i inside).code) j here;
      owner = each-word (λ x. x / 65536 ≡ 0) nobody (λ i inside. (old.blocks i inside).owner) j here;
    };
    free = free-taken old.free;
  }

  pub lawful-taken : IsTrue (is_block_code v) → v / 65536 ≡ 0 → IsLawful s → IsLawful taken
  lawful-taken code nobody lawful = record { but_lines = but_lines-taken code nobody lawful.but_lines; lines = lines-taken lawful.lines }

  pub models-taken : (ms : List MutatorState) (h : IdealHeap) (set : ℕ → Type 0) → RepresentsOn s ms h set → RepresentsOn taken ms h set
  models-taken ms h set model = models-after s w same ms h set model order-taken
