-- A global is set, in the heap and in the ideal heap.
use Rattle.std.proofs.Common.{◌≡◌, ◌≢◌, refl, sym, ◌∙◌, ap, subst, ℕ, ◌+◌, ◌*◌, ◌-◌, ◌/◌, ◌%◌, ◌^◌, ◌<◌, ◌≤◌, inl, inr, arith, Bool, IsTrue, List, length, Some, Option, nat_eq, slice_set, ◌↔◌}
use Rattle.std.specs.Int.{bit_at}
use Rattle.std.specs.List.{Any}
use Rattle.std.proofs.lemmas.Bool.{cases_eq, or_left}
use Rattle.std.proofs.lemmas.List.{get_or-set_same, get_or-set_other, length-set}
use Rattle.heap_layout.specs.Zones.{Zone, StartBits, PinBits, UnlogBits, LineWords, BlockWords, Globals, row_words, heap_of, first, bit_of, address_bit}
use Rattle.ideal_heap.specs.declared.name.Name.{Name}
use Rattle.ideal_heap.specs.Ideal.{IdealHeap, set_global, at_number}
use Rattle.ideal_heap.proofs.UpdateLemmas.{at_number-other}
use Rattle.object_model.specs.Objects.{HeapState, with_words, word_at, global_at, is_pinned, is_unlogged, IsHeld, name_at, refs_at, ref_at, record_at, field_of_word, is_reference}
use Rattle.object_model.specs.Lawful.{IsWellFormed, IsRefField, IsRoot}
use Rattle.object_model.specs.Graphs.{MutatorState, PointsTo}
use Rattle.object_model.specs.Agreement.{RepresentsOn}
use Rattle.object_model.specs.Changes.{ObjectsStay}
use Rattle.object_model.proofs.Representation.{points-reference}
use Rattle.object_model.proofs.Marks.{mark-same}
use Rattle.object_model.proofs.Frames.{orderly-after, held-after, held-before, refs-after, name-after}
use Rattle.object_model.proofs.Records.{record-same, field-same, number-place}
use Rattle.object_model.proofs.Numbers.{points-after, registers-after}
use Rattle.object_model.proofs.Updates.{at_number-same}

-- nil and addresses fit 64 bits
pub root-fits : (s : HeapState) → IsWellFormed s → (v : ℕ) → IsRoot s v → v < 2 ^ 64
root-fits s order v reference = elim (cases_eq v 0) as (λ _. v < 2 ^ 64) [
  | inl nil ↦ omega arith
  | inr some ↦ let below : v < row_words s.blocks = (reference some).address.below in let most : s.blocks ≤ 1024 = order.row.most in omega arith
]

module _ (s : HeapState) (g v : ℕ) (small : g < 16) where
  abbrev pub shared : HeapState
  shared = with_words s (slice_set s.words (first s.blocks Globals + g) v)

  pub word-past : (i : ℕ) → 18 ≤ i → word_at shared i ≡ word_at s i
  word-past i past = get_or-set_other s.words (first s.blocks Globals + g) i v 0 (λ same. omega arith)

  bit-past : (z : Zone) (n : ℕ) → 18 ≤ first s.blocks z → bit_of s.blocks z shared.words n ≡ bit_of s.blocks z s.words n
  bit-past z n past = ap (λ word. nat_eq (bit_at word (n % 64)) 1) (word-past (first s.blocks z + n / 64) (omega arith))

  marks : (z : Zone) (x : ℕ) → 18 ≤ first s.blocks z → address_bit s.blocks z shared.words x ≡ address_bit s.blocks z s.words x
  marks z x past = mark-same s.blocks z s.words shared.words x (λ there. bit-past z (x - heap_of s.blocks) past)

  pub keeps : ObjectsStay s shared
  keeps = record {
    blocks = refl;
    number = refl;
    base = refl;
    extent = length-set s.words (first s.blocks Globals + g) v;
    starts = λ x. marks StartBits x (omega arith);
    unlogs = λ x set. sym (marks UnlogBits x (omega arith)) ∙ set;
    lines = λ k line there few. bit-past LineWords (256 * k + line) (omega arith);
    block_words = λ k there. word-past (first s.blocks BlockWords + k) (omega arith);
    headers = λ x i holds few. word-past (x + i) (let from : heap_of s.blocks ≤ x = holds.address.from in omega arith);
  }

  pub pins-same : (x : ℕ) → is_pinned shared x ≡ is_pinned s x
  pins-same x = marks PinBits x (omega arith)

  pub global-other : (k : ℕ) → k ≢ g → global_at shared k ≡ global_at s k
  global-other k other = get_or-set_other s.words (first s.blocks Globals + g) (first s.blocks Globals + k) v 0 (λ same. other (omega arith))

  pub global-own : IsWellFormed s → (k : ℕ) → k ≡ g → global_at shared k ≡ v
  global-own order k same = ap (global_at shared) same
      ∙ get_or-set_same s.words (first s.blocks Globals + g) v 0 (let many : length s.words ≡ row_words s.blocks = order.row.extent in omega arith)

  pub words-fit : IsWellFormed s → v < 2 ^ 64 → (i : ℕ) → word_at shared i < 2 ^ 64
  words-fit order fits i = elim (cases_eq i (first s.blocks Globals + g)) as (λ _. word_at shared i < 2 ^ 64) [
    | inl same ↦ subst (λ (x : ℕ). x < 2 ^ 64)
        (sym (ap (word_at shared) same ∙ get_or-set_same s.words (first s.blocks Globals + g) v 0 (let many : length s.words ≡ row_words s.blocks = order.row.extent in omega arith))) fits
    | inr other ↦ subst (λ (x : ℕ). x < 2 ^ 64) (sym (get_or-set_other s.words (first s.blocks Globals + g) i v 0 other)) (order.row.words i)
  ]

module _ (s : HeapState) (ms : List MutatorState) (h : IdealHeap) (set : ℕ → Type 0) (model : RepresentsOn s ms h set)
    (g v : ℕ) (o : Option Name) (small : g < 16) (points : PointsTo s v o) (inset : v ≢ 0 → set v) where
  abbrev w : List ℕ
  w = slice_set s.words (first s.blocks Globals + g) v

  abbrev after : HeapState
  after = with_words s w

  kept : ObjectsStay s after
  kept = keeps s g v small

  by-global : (P : ℕ → ℕ → Type 0) (k : ℕ) → (k ≡ g → P k v) → (k ≢ g → P k (global_at s k)) → P k (global_at after k)
  by-global P k own other = elim (cases_eq k g) as (λ _. P k (global_at after k)) [
    | inl same ↦ subst (P k) (sym (global-own s g v small model.order k same)) (own same)
    | inr differ ↦ subst (P k) (sym (global-other s g v small k differ)) (other differ)
  ]

  ref-kept : (x i : ℕ) → IsHeld s x → ref_at after x i ≡ ref_at s x i
  ref-kept x i holds = word-past s g v small (x + 3 + i) (let from : heap_of s.blocks ≤ x = holds.address.from in omega arith)

  record-kept : (x : ℕ) → IsHeld s x → record_at after x ≡ record_at s x
  record-kept x holds = record-same s w kept x holds
      (λ i less. ap (field_of_word after) (ref-kept x i holds) ∙ field-same s w kept (ref_at s x i) (model.order.objects.references x i holds less))
      (λ j less. number-place s w kept x j holds
      ∙ word-past s g v small (x + 3 + refs_at s x + j) (let from : heap_of s.blocks ≤ x = holds.address.from in omega arith))

  pub global-set : RepresentsOn after ms (set_global h g o) set
  global-set = record {
    order = orderly-after s w kept model.order
        (words-fit s g v small model.order (root-fits s model.order v (points-reference s v o points)))
        (λ a pin. model.order.objects.marks a (or_left (is_pinned s a) (is_unlogged s a) (sym (pins-same s g v small a) ∙ pin)))
        (λ a i holds less. subst (IsRefField s) (sym (ref-kept a i holds)) (model.order.objects.references a i holds less))
        (λ k few. by-global (λ q. IsRoot s) k (λ same. points-reference s v o points) (λ other. model.order.objects.globals k few));
    mutators = model.mutators;
    pointers = record {
      registers = registers-after s w kept h ms model.pointers.registers;
      globals = λ k few. by-global (λ q x. PointsTo after x (at_number h.globals g o q)) k
          (λ same. subst (PointsTo after v) (sym (at_number-same h.globals g o k same)) (points-after s w kept v o points))
          (λ other. subst (PointsTo after (global_at s k)) (sym (at_number-other h.globals g o k other)) (points-after s w kept (global_at s k) (h.globals k) (model.pointers.globals k few)));
      confined = record {
        registers = model.pointers.confined.registers;
        globals = λ k n is. elim (cases_eq k g) as (λ _. k < 16) [
          | inl same ↦ omega arith
          | inr other ↦ model.pointers.confined.globals k n (sym (at_number-other h.globals g o k other) ∙ is)
        ];
      };
    };
    births = record {
      births = model.births.births;
      held = λ a there. let before = held-before s w kept a there in
          subst (λ (k : Name). Any (λ m. (k.mutator ≡ m.number) × (k.birth ≤ m.births)) ms) (sym (name-after s w kept a before)) (model.births.held a before);
      pinned = model.births.pinned;
    };
    mirrors = record {
      held = λ a there. held-after s w kept a (model.mirrors.held a there);
      fields = λ a i there less some. let holds = model.mirrors.held a there in
          subst set (sym (ref-kept a i holds)) (model.mirrors.fields a i there (subst (λ (k : ℕ). i < k) (refs-after s w kept a holds) less) (subst (λ (y : ℕ). IsTrue (is_reference y)) (ref-kept a i holds) some));
      registers = model.mirrors.registers;
      globals = λ k few. by-global (λ q x. x ≢ 0 → set x) k (λ same. inset) (λ other. model.mirrors.globals k few);
      records = λ a there. let holds = model.mirrors.held a there in
          ap h.records (name-after s w kept a holds) ∙ model.mirrors.records a there ∙ ap (λ x. Some x) (sym (record-kept a holds));
      pins = λ a there. let e : name_at after a ≡ name_at s a = name-after s w kept a (model.mirrors.held a there) in
          subst (λ (k : Name). IsTrue (is_pinned after a) ↔ IsTrue (h.pinned k)) (sym e)
          (subst (λ (b : Bool). IsTrue b ↔ IsTrue (h.pinned (name_at s a))) (sym (pins-same s g v small a)) (model.mirrors.pins a there));
    };
  }
