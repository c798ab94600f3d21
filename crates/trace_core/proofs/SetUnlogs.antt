-- A heap with the unlog bits of some held objects set is lawful but for lines, as it was.
use Rattle.std.proofs.Common.{◌≡◌, ◌≢◌, ℕ, ◌+◌, ◌*◌, ◌-◌, ◌/◌, ◌%◌, ◌^◌, ◌<◌, ◌≤◌, ◌⊎◌, inl, inr, ◌||◌, IsTrue, nat_eq, List, [], ◌∷◌, length, slice_index, slice_set, refl, sym, ap, ◌∙◌, subst, arith}
use Rattle.std.specs.Int.{bit_at}
use Rattle.std.proofs.Math.Logic.{∥∥₁_map}
use Rattle.std.proofs.lemmas.Bool.{cases_eq, or_cases, or_left, or_right, eq-eqb, ne_eqb}
use Rattle.std.proofs.lemmas.List.{get_or-set_same, get_or-set_other, length-set}
use Rattle.heap_layout.specs.Zones.{Zone, Globals, BlockWords, LineWords, StartBits, PinBits, UnlogBits, first, heap_of, row_words, address_bit, IsAddress}
use Rattle.ideal_heap.specs.Names.{IsName}
use Rattle.heap_layout.specs.Blocks.{is_block_code}
use Rattle.heap_layout.specs.declared.block.Kind.{Kind}
use Rattle.heap_layout.specs.declared.block.Kind.TheVariants as kinds
use Rattle.side_meta.specs.BitWords.{with_bit}
use Rattle.side_meta.proofs.BitWords.{with-same, with-other, with-fits}
use Rattle.object_model.specs.BitWords.{bit_word, bit_place}
use Rattle.object_model.specs.Times.{one_if, times}
use Rattle.object_model.specs.Objects.{HeapState, with_words, word_at, block_word, line_marked, HasKind, is_start, is_pinned, is_unlogged, IsHeld, IsInExtent, size_at}
use Rattle.object_model.specs.Lawful.{IsLawfulButLines, HasLawfulObjects, HasHeader, Lies, IsRefField, IsRoot, IsClear, LineBitsAreExact}
use Rattle.object_model.specs.Lines.{TouchesLine}
use Rattle.object_model.proofs.BitWords.{at-side, own-mark, other-mark}
use Rattle.object_model.proofs.Frames.{HasKind-back}
use Rattle.object_model.proofs.Marks.{mark-same}
use Rattle.object_model.proofs.OneKind.{kind-within}
use Rattle.object_model.proofs.UsedBlocks as used
use Rattle.trace_core.specs.Runs.{set_unlogs, with_unlogs}
use Rattle.trace_core.proofs.CountedRights.{times-cons}
use Rattle.trace_core.proofs.SameObjects.{SameObjects, held-after, held-before, at, name-same, refs-same, nums-same, size-same, ref-same}

-- the words with the unlog bits of these addresses set
pub record MarksObjects (b : ℕ) (objects old new : List ℕ) : Type 0 where
  pub long : length new ≡ length old
  pub rest : (i : ℕ) → (i < first b UnlogBits) ⊎ (heap_of b ≤ i) → slice_index new i ≡ slice_index old i
  pub fits : ((i : ℕ) → slice_index old i < 2 ^ 64) → (i : ℕ) → slice_index new i < 2 ^ 64
  pub from : (x : ℕ) → IsTrue (address_bit b UnlogBits new x) → IsTrue (address_bit b UnlogBits old x) ⊎ (0 < times x objects)
  pub kept : (x : ℕ) → IsTrue (address_bit b UnlogBits old x) → IsTrue (address_bit b UnlogBits new x)
  pub done : (x : ℕ) → 0 < times x objects → IsTrue (address_bit b UnlogBits new x)

module _ (b : ℕ) (ws : List ℕ) (long : length ws ≡ row_words b) (a : ℕ) (there : IsAddress b a) where
  abbrev at-word : ℕ
  at-word = bit_word b UnlogBits a

  abbrev n : ℕ
  n = slice_index ws (bit_word b UnlogBits a)

  abbrev v : ℕ
  v = with_bit (slice_index ws (bit_word b UnlogBits a)) (bit_place b a)

  abbrev one : List ℕ
  one = slice_set ws (bit_word b UnlogBits a) (with_bit (slice_index ws (bit_word b UnlogBits a)) (bit_place b a))

  other-bits : (i : ℕ) → i < 64 → i ≢ bit_place b a → bit_at v i ≡ bit_at n i
  other-bits i small ne = with-other n (bit_place b a) i ne

  here : IsTrue (address_bit b UnlogBits one a)
  here = own-mark b ws long UnlogBits a v there (omega arith) other-bits ∙ ap (λ x. nat_eq x 1) (with-same n (bit_place b a))

  same : (x : ℕ) → x ≢ a → address_bit b UnlogBits one x ≡ address_bit b UnlogBits ws x
  same = other-mark b ws long UnlogBits a v there (omega arith) other-bits

  fits-one : ((i : ℕ) → slice_index ws i < 2 ^ 64) → (i : ℕ) → slice_index one i < 2 ^ 64
  fits-one old i = elim (cases_eq i at-word) as (λ _. slice_index one i < 2 ^ 64) [
    | inl e ↦ subst (λ (x : ℕ). x < 2 ^ 64)
        (sym (ap (slice_index one) e ∙ get_or-set_same ws at-word v 0
        (let many : length ws ≡ row_words b = long in let before : at-word < heap_of b = at-side b ws long UnlogBits a v there (omega arith) other-bits in omega arith)))
        (with-fits n (bit_place b a) (old at-word) (omega arith))
    | inr ne ↦ subst (λ (x : ℕ). x < 2 ^ 64) (sym (get_or-set_other ws at-word i v 0 ne)) (old i)
  ]

  rest-one : (i : ℕ) → (i < first b UnlogBits) ⊎ (heap_of b ≤ i) → slice_index one i ≡ slice_index ws i
  rest-one i outside = get_or-set_other ws at-word i v 0 (λ e.
      let before : at-word < heap_of b = at-side b ws long UnlogBits a v there (omega arith) other-bits in
      elim outside as (λ _. ⊥) [ inl h ↦ omega arith | inr h ↦ omega arith ])

  -- and then those of more objects
  pub and-more : (objects new : List ℕ) → MarksObjects b objects one new → MarksObjects b (a ∷ objects) ws new
  and-more objects new more = record {
    long = more.long ∙ length-set ws at-word v;
    rest = λ i outside. more.rest i outside ∙ rest-one i outside;
    fits = λ old. more.fits (fits-one old);
    from = λ x set. elim (more.from x set) as (λ _. IsTrue (address_bit b UnlogBits ws x) ⊎ (0 < times x (a ∷ objects))) [
      | inl was ↦ elim (cases_eq x a) as (λ _. IsTrue (address_bit b UnlogBits ws x) ⊎ (0 < times x (a ∷ objects))) [
        | inl e ↦ inr (let c = times-cons a objects x in let one : one_if (nat_eq x a) ≡ 1 = ap one_if (eq-eqb x a e) in omega (arith, c, one))
        | inr ne ↦ inl (sym (same x ne) ∙ was)
      ]
      | inr some ↦ inr (let c = times-cons a objects x in omega (arith, c, some))
    ];
    kept = λ x was. more.kept x (elim (cases_eq x a) as (λ _. IsTrue (address_bit b UnlogBits one x)) [
      | inl e ↦ subst (λ y. IsTrue (address_bit b UnlogBits one y)) (sym e) here
      | inr ne ↦ same x ne ∙ was
    ]);
    done = λ x some. elim (cases_eq x a) as (λ _. IsTrue (address_bit b UnlogBits new x)) [
      | inl e ↦ more.kept x (subst (λ y. IsTrue (address_bit b UnlogBits one y)) (sym e) here)
      | inr ne ↦ more.done x (let c = times-cons a objects x in let none : one_if (nat_eq x a) ≡ 0 = ap one_if (ne_eqb x a ne) in omega (arith, c, none, some))
    ];
  }

pub marks-objects : (b : ℕ) (objects ws : List ℕ) → length ws ≡ row_words b → ((x : ℕ) → 0 < times x objects → IsAddress b x)
    → MarksObjects b objects ws (set_unlogs b objects ws)
marks-objects b [] ws long are = record {
  long = refl;
  rest = λ i outside. refl;
  fits = λ old. old;
  from = λ x set. inl set;
  kept = λ x was. was;
  done = λ x some. absurd (omega (arith, some));
}
marks-objects b (a ∷ objects) ws long are =
    let there : IsAddress b a = are a (let c = times-cons a objects a in let one : one_if (nat_eq a a) ≡ 1 = ap one_if (eq-eqb a a refl) in omega (arith, c, one)) in
    and-more b ws long a there objects _
    (marks-objects b objects _ (length-set ws _ _ ∙ long) (λ x some. are x (let c = times-cons a objects x in omega (arith, c, some))))

-- the heap with the unlog bits of these addresses set
module _ (s : HeapState) (long : length s.words ≡ row_words s.blocks) (objects : List ℕ) (are : (x : ℕ) → 0 < times x objects → IsAddress s.blocks x) where
  abbrev w : List ℕ
  w = set_unlogs s.blocks objects s.words

  abbrev marked : HeapState
  marked = with_words s (set_unlogs s.blocks objects s.words)

  pub marks : MarksObjects s.blocks objects s.words (set_unlogs s.blocks objects s.words)
  marks = marks-objects s.blocks objects s.words long are

  mark-below : (z : Zone) (x : ℕ) → first s.blocks z + 64 * s.blocks ≤ first s.blocks UnlogBits → address_bit s.blocks z w x ≡ address_bit s.blocks z s.words x
  mark-below z x below = mark-same s.blocks z s.words w x (λ there. ap (λ word. nat_eq (bit_at word ((x - heap_of s.blocks) % 64)) 1)
      (marks.rest (first s.blocks z + (x - heap_of s.blocks) / 64)
      (let from : heap_of s.blocks ≤ x = there.from in let end : x < row_words s.blocks = there.below in inl (omega arith))))

  pub same-objects : SameObjects s (set_unlogs s.blocks objects s.words)
  same-objects = record {
    words = λ i above. marks.rest i (inr above);
    globals = λ g few. marks.rest (first s.blocks Globals + g) (inl (omega arith));
    starts = λ x. mark-below StartBits x (omega arith);
    pins = λ x. mark-below PinBits x (omega arith);
  }

  pub block-same : (k : ℕ) → k < s.blocks → block_word (with_unlogs s objects) k ≡ block_word s k
  block-same k there = marks.rest (first s.blocks BlockWords + k) (inl (omega arith))

  line-same : (k line : ℕ) → k < s.blocks → line < 256 → line_marked marked k line ≡ line_marked s k line
  line-same k line there few = ap (λ word. nat_eq (bit_at word ((256 * k + line) % 64)) 1)
      (marks.rest (first s.blocks LineWords + (256 * k + line) / 64) (inl (omega arith)))

-- these are held objects, so it is lawful but for lines
module _ (s : HeapState) (lawful : IsLawfulButLines s) (objects : List ℕ) (are : (x : ℕ) → 0 < times x objects → IsHeld s x) where
  abbrev ws : List ℕ
  ws = set_unlogs s.blocks objects s.words

  abbrev after : HeapState
  after = with_words s (set_unlogs s.blocks objects s.words)

  pub sets : MarksObjects s.blocks objects s.words (set_unlogs s.blocks objects s.words)
  sets = marks s lawful.order.row.extent objects (λ x some. (are x some).address)

  pub alike : SameObjects s (set_unlogs s.blocks objects s.words)
  alike = same-objects s lawful.order.row.extent objects (λ x some. (are x some).address)

  pub word-same : (k : ℕ) → k < s.blocks → block_word (with_unlogs s objects) k ≡ block_word s k
  word-same = block-same s lawful.order.row.extent objects (λ x some. (are x some).address)

  before : (x : ℕ) → IsHeld after x → IsHeld s x
  before = held-before s ws alike

  now : (x : ℕ) → IsHeld s x → IsHeld after x
  now = held-after s ws alike

  within : (x i : ℕ) → IsHeld s x → IsInExtent after x i → IsInExtent s x i
  within x i there inside = record { from = inside.from; below = subst (λ n. i < x + n) (size-same s ws alike x there) inside.below }

  header : (x : ℕ) → IsHeld s x → HasHeader s x → HasHeader after x
  header x there old =
      let collector : word_at after (x + 2) ≡ word_at s (x + 2) = at s ws alike x 2 there in
      record {
        object = record {
          name = subst IsName (sym (name-same s ws alike x there)) old.object.name;
          refs = subst (λ (n : ℕ). n ≤ 1024) (sym (refs-same s ws alike x there)) old.object.refs;
          nums = subst (λ (n : ℕ). n ≤ 60000) (sym (nums-same s ws alike x there)) old.object.nums;
        };
        number = subst (λ (v : ℕ). v / 2 ^ 24 ≤ s.number) (sym collector) old.number;
        target = subst (λ (v : ℕ). 0 < v / 2 ^ 24 → v % 2 ^ 24 ≡ x) (sym collector) old.target;
      }

  bit-held : (x : ℕ) → IsTrue (is_pinned after x || is_unlogged after x) → IsHeld s x
  bit-held x either = elim (or_cases (is_pinned after x) (is_unlogged after x) either) as (λ _. IsHeld s x) [
    | inl pin ↦ lawful.order.objects.marks x (or_left (is_pinned s x) (is_unlogged s x) (sym (alike.pins x) ∙ pin))
    | inr unlog ↦ elim (sets.from x unlog) as (λ _. IsHeld s x) [
      | inl was ↦ lawful.order.objects.marks x (or_right (is_pinned s x) (is_unlogged s x) was)
      | inr some ↦ are x some
    ]
  ]

  kind-before : (k : ℕ) (kind : Kind) → HasKind after k kind → HasKind s k kind
  kind-before = HasKind-back s ws word-same

  objects-after : HasLawfulObjects after
  objects-after = let old = lawful.order.objects in record {
    headers = λ x h. header x (before x h) (old.headers x (before x h));
    marks = λ x either. now x (bit-held x either);
    lies = λ x h. let was = before x h in
        subst (Lies after x) (sym (size-same s ws alike x was)) (used.lies-kept s ws (λ k there in_use. word-same k there) x (size_at s x) (old.lies x was));
    apart = λ x y i hx hy ix iy. let bx = before x hx in let by = before y hy in old.apart x y i bx by (within x i bx ix) (within y i by iy);
    heads = λ k is. let was = old.heads k (kind-before k kinds.LargeHead is) in
        (now _ was.0, subst (λ (n : ℕ). 2048 < n) (sym (size-same s ws alike _ was.0)) was.1);
    tails = λ k is. used.in_run-kept s ws (λ j there in_use. word-same j there) k (old.tails k (kind-before k kinds.LargeTail is));
    references = λ x i h less. let was = before x h in
        subst (IsRefField after) (sym (ref-same s ws alike x i was)) (λ some. now _ (old.references x i was (subst (λ (n : ℕ). i < n) (refs-same s ws alike x was) less) some));
    globals = λ g small. subst (IsRoot after) (sym (alike.globals g small)) (λ some. now _ (old.globals g small some));
    names = λ x y hx hy e. let bx = before x hx in let by = before y hy in
        old.names x y bx by (sym (name-same s ws alike x bx) ∙ e ∙ name-same s ws alike y by);
  }

  -- a block without objects has no bit set
  clear-after : (k : ℕ) → k < s.blocks → IsClear s k → IsClear after k
  clear-after k there old = record {
    empty = λ x i h inside. let was = before x h in old.empty x i was (within x i was inside);
    lines = λ line small set. old.lines line small (sym (line-same s lawful.order.row.extent objects (λ x some. (are x some).address) k line there small) ∙ set);
    marks = λ x in_block either. old.marks x in_block (or_left (is_start s x || is_pinned s x) (is_unlogged s x) (or_left (is_start s x) (is_pinned s x)
        (elim (or_cases (is_start after x || is_pinned after x) (is_unlogged after x) either) as (λ _. IsTrue (is_start s x)) [
          | inl first ↦ elim (or_cases (is_start after x) (is_pinned after x) first) as (λ _. IsTrue (is_start s x)) [
            | inl start ↦ sym (alike.starts x) ∙ start
            | inr pin ↦ (bit-held x (or_left (is_pinned after x) (is_unlogged after x) pin)).start
          ]
          | inr unlog ↦ (bit-held x (or_right (is_pinned after x) (is_unlogged after x) unlog)).start
        ])));
  }

  pub with_unlogs-lawful : IsLawfulButLines (with_unlogs s objects)
  with_unlogs-lawful = record {
    order = record {
      row = record {
        least = lawful.order.row.least;
        most = lawful.order.row.most;
        extent = sets.long ∙ lawful.order.row.extent;
        words = sets.fits lawful.order.row.words;
        base = lawful.order.row.base;
      };
      objects = objects-after;
    };
    blocks = λ k there. let old = lawful.blocks k there in record {
      code = subst (λ v. IsTrue (is_block_code v)) (sym (word-same k there)) old.code;
      owner = ap (λ v. v / 65536) (word-same k there) ∙ old.owner;
    };
    free = λ k is. let free = kind-before k kinds.Free is in clear-after k (kind-within s k kinds.Free free) (lawful.free k free);
  }

  -- exact line bits stay exact
  pub lines-exact : (k : ℕ) → k < s.blocks → LineBitsAreExact s k → LineBitsAreExact after k
  lines-exact k there exact =
      let same : (line : ℕ) → line < 256 → line_marked after k line ≡ line_marked s k line = (λ line few. line-same s lawful.order.row.extent objects (λ x some. (are x some).address) k line there few) in record {
        marked = λ line is few set. ∥∥₁_map (exact.marked line (kind-before k kinds.Immix is) few (sym (same line few) ∙ set)) (λ t. record {
          object = t.object;
          held = now t.object t.held;
          touches = subst (λ n. TouchesLine s.blocks t.object n (256 * k + line)) (sym (size-same s ws alike t.object t.held)) t.touches;
        });
        touched = λ line is few t. same line few ∙ exact.touched line (kind-before k kinds.Immix is) few (record {
          object = t.object;
          held = before t.object t.held;
          touches = subst (λ n. TouchesLine s.blocks t.object n (256 * k + line)) (size-same s ws alike t.object (before t.object t.held)) t.touches;
        });
      }
