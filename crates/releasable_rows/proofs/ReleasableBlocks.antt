-- When a block may be released, by its kind.
use Rattle.std.proofs.Common.{◌≡◌, ◌≢◌, sym, ap, ◌∙◌, subst, ℕ, ◌+◌, ◌-◌, ◌%◌, ◌<◌, ◌≤◌, ◌⊎◌, inl, inr, true, true≢false, ◌||◌, ◌↔◌, IsTrue, arith}
use Rattle.std.proofs.lemmas.Bool.{cases_eq, cases_lt, or_cases, or_left, or_right}
use Rattle.heap_layout.specs.Zones.{block_at, offset_at, block_start, IsAddress, StartBits, PinBits, UnlogBits}
use Rattle.heap_layout.specs.declared.block.Kind.{Kind}
use Rattle.heap_layout.specs.declared.block.Kind.TheVariants as kinds
use Rattle.heap_layout.specs.declared.block.BlockWord.{BlockWord}
use Rattle.heap_layout.specs.Blocks.{kind_code, code_of, IsValidWord, is_block_code}
use Rattle.heap_layout.proofs.BlockLemmas.{code_parts, kind_code_most, valid_most, is_block_code-code_of}
use Rattle.heap_layout.proofs.MarkLemmas.{is-address_from_mark}
use Rattle.object_model.specs.Objects.{HeapState, HasKind, IsHeld, block_word, class_at, is_start, is_pinned, is_unlogged, size_at, cell_words, blocks_for}
use Rattle.object_model.specs.Lawful.{HasObject, Lies, has_small}
use Rattle.object_model.specs.Releasing.{IsReleasable, InSpan}
use Rattle.object_model.proofs.ObjectReads.{place_of_address}
use Rattle.object_model.proofs.WordReads.{has-shown}
use Rattle.object_model.proofs.OneKind.{one-kind, is_small_code, has_small-code}
use Rattle.object_model.proofs.Marks.{held}
use Rattle.block_sweeps.proofs.RunSpans as spans
use Rattle.releasable_rows.specs.BlockTests.{word_in_block, HasNoMark, HasNoLine, HoldsSmall, AreInCells, HoldsLarge}

-- the kind and class of a block with this word
module _ (s : HeapState) (k : ℕ) (there : k < s.blocks) (w : BlockWord) (valid : IsValidWord w) (is : code_of w ≡ block_word s k) where
  pub word-code : IsTrue (is_block_code (block_word s k))
  word-code = is_block_code-code_of w (block_word s k) valid is

  pub word-kind : HasKind s k w.kind
  word-kind = has-shown s k w there valid is

  pub word-class : class_at s k ≡ w.class
  word-class = (code_parts (kind_code w.kind) w.class w.owner (block_word s k) (kind_code_most w.kind) (valid_most w.kind w.class w.owner valid).0 is).1

-- an address with a bit
marked-address : (s : HeapState) (a : ℕ) → IsTrue (is_start s a || is_pinned s a || is_unlogged s a) → IsAddress s.blocks a
marked-address s a marked = elim (or_cases (is_start s a || is_pinned s a) (is_unlogged s a) marked) as (λ _. IsAddress s.blocks a) [
  | inl first ↦ elim (or_cases (is_start s a) (is_pinned s a) first) as (λ _. IsAddress s.blocks a) [
    | inl start ↦ is-address_from_mark s.blocks StartBits s.words a start
    | inr pin ↦ is-address_from_mark s.blocks PinBits s.words a pin
  ]
  | inr unlog ↦ is-address_from_mark s.blocks UnlogBits s.words a unlog
]

start-marks : (s : HeapState) (a : ℕ) → IsTrue (is_start s a) → IsTrue (is_start s a || is_pinned s a || is_unlogged s a)
start-marks s a start = or_left (is_start s a || is_pinned s a) (is_unlogged s a) (or_left (is_start s a) (is_pinned s a) start)

others-mark : (s : HeapState) (a : ℕ) → IsTrue (is_pinned s a || is_unlogged s a) → IsTrue (is_start s a || is_pinned s a || is_unlogged s a)
others-mark s a marked = elim (or_cases (is_pinned s a) (is_unlogged s a) marked) as (λ _. IsTrue (is_start s a || is_pinned s a || is_unlogged s a)) [
  | inl pin ↦ or_left (is_start s a || is_pinned s a) (is_unlogged s a) (or_right (is_start s a) (is_pinned s a) pin)
  | inr unlog ↦ or_right (is_start s a || is_pinned s a) (is_unlogged s a) unlog
]

-- of a block that may be released only objects have bits
marked-held : (s : HeapState) (k a : ℕ) → IsReleasable s k → InSpan s k a → IsTrue (is_start s a || is_pinned s a || is_unlogged s a) → IsHeld s a
marked-held s k a can span marked = elim (or_cases (is_start s a || is_pinned s a) (is_unlogged s a) marked) as (λ _. IsHeld s a) [
  | inl first ↦ elim (or_cases (is_start s a) (is_pinned s a) first) as (λ _. IsHeld s a) [
    | inl start ↦ held s a start
    | inr pin ↦ can.marks a span (or_left (is_pinned s a) (is_unlogged s a) pin)
  ]
  | inr unlog ↦ can.marks a span (or_right (is_pinned s a) (is_unlogged s a) unlog)
]

-- a block that begins no run
module _ (s : HeapState) (k : ℕ) (there : k < s.blocks) (no-head : HasKind s k kinds.LargeHead → ⊥) where
  only-here : (a : ℕ) → InSpan s k a → block_at s.blocks a ≡ k
  only-here a span = elim span.block as (λ _. block_at s.blocks a ≡ k) [
    | inl same ↦ same
    | inr later ↦ absurd (no-head later.0)
  ]

  span-at : (o : ℕ) → o < 4096 → InSpan s k (word_in_block s k o)
  span-at o below = record { address = record { from = omega arith; below = omega arith }; block = inl (omega arith) }

  -- with no bit set
  module _ (none : HasNoMark s (block_start s.blocks k) (block_start s.blocks k + 4096)) where
    no-mark : (a : ℕ) → block_at s.blocks a ≡ k → IsTrue (is_start s a || is_pinned s a || is_unlogged s a) → ⊥
    no-mark a here marked = (let place = place_of_address s.blocks a (marked-address s a marked) in none a (omega arith) (omega arith) marked)

    pub empty-releasable : IsTrue (is_block_code (block_word s k)) → (HasKind s k kinds.Free → HasNoLine s k) → IsReleasable s k
    empty-releasable code lines = record {
      code = code;
      objects = λ a span holds. absurd (no-mark a (only-here a span) (start-marks s a holds.start));
      apart = λ a x i span _ holds _ _ _. absurd (no-mark a (only-here a span) (start-marks s a holds.start));
      marks = λ a span marked. absurd (no-mark a (only-here a span) (others-mark s a marked));
      bits = λ _. no-mark;
      lines = lines;
      head = λ begins. absurd (no-head begins);
    }

  -- with small and medium objects
  module _ (no-free : HasKind s k kinds.Free → ⊥) (smalls : has_small s k ≡ true) where
    at-offset : (a : ℕ) → InSpan s k a → word_in_block s k (offset_at s.blocks a) ≡ a
    at-offset a span = (let place = place_of_address s.blocks a span.address in let here = only-here a span in omega arith)

    offset-below : (a : ℕ) → InSpan s k a → offset_at s.blocks a < 4096
    offset-below a span = (place_of_address s.blocks a span.address).1

    module _ (holds : HoldsSmall s k 4096 4096) where
      start-at : (a : ℕ) → InSpan s k a → IsHeld s a → IsTrue (is_start s (word_in_block s k (offset_at s.blocks a)))
      start-at a span object = ap (is_start s) (at-offset a span) ∙ object.start

      -- it ends before each object that begins after it
      before : (a x : ℕ) → InSpan s k a → InSpan s k x → IsHeld s a → IsHeld s x → a < x → a + size_at s a ≤ x
      before a x span other object next =
          λ less.
          let here = at-offset a span in
          let there = at-offset x other in
          let size : size_at s (word_in_block s k (offset_at s.blocks a)) ≡ size_at s a = ap (size_at s) here in
          let apart = holds.apart (offset_at s.blocks a) (offset_at s.blocks x) (omega arith) (offset-below x other) (start-at a span object) (start-at x other next) in
          omega arith

      pub small-releasable : IsTrue (is_block_code (block_word s k)) → (HasKind s k kinds.Cells → AreInCells s k (cell_words (class_at s k)) 4096) → IsReleasable s k
      small-releasable code cells = record {
        code = code;
        objects = λ a span object.
            let o : ℕ = offset_at s.blocks a in
            let below = offset-below a span in
            let start = start-at a span object in
            let size : size_at s (word_in_block s k o) ≡ size_at s a = ap (size_at s) (at-offset a span) in (
              subst (HasObject s) (at-offset a span) (holds.object o below start),
              record {
                small = λ _. record {
                  address = span.address;
                  within = (let ends = holds.ends o below start in omega arith);
                  kind = ap (has_small s) (only-here a span) ∙ smalls;
                  cell = λ is.
                      let cell : ℕ = cell_words (class_at s k) in
                      let same : cell ≡ cell_words (class_at s (block_at s.blocks a)) = ap (λ j. cell_words (class_at s j)) (sym (only-here a span)) in
                      let fits = cells (subst (λ j. HasKind s j kinds.Cells) (only-here a span) is) o below start in
                      record {
                        start = ap (λ c. o % c) (sym same) ∙ fits.start;
                        room = (let room = fits.room in omega arith);
                        within = (let within = fits.within in omega arith);
                      };
                };
                large = λ large. absurd (let small = holds.small o below start in omega arith);
              },
            );
        apart = λ a x i span other object next first second.
            let from = first.from in
            let ends = first.below in
            let begins = second.from in
            let stops = second.below in
            elim (cases_lt a x) as (λ _. a ≡ x) [
              | inl less ↦ absurd (let e = before a x span other object next less in omega arith)
              | inr most ↦ elim (cases_lt x a) as (λ _. a ≡ x) [
                | inl more ↦ absurd (let e = before x a other span next object more in omega arith)
                | inr least ↦ omega arith
              ]
            ];
        marks = λ a span marked.
            let here = at-offset a span in
            let start = holds.marks (offset_at s.blocks a) (offset-below a span) (subst (λ y. IsTrue (is_pinned s y || is_unlogged s y)) (sym here) marked) in
            held s a (subst (λ y. IsTrue (is_start s y)) here start);
        bits = λ free. absurd (no-free free);
        lines = λ free. absurd (no-free free);
        head = λ begins. absurd (no-head begins);
      }

    module _ (can : IsReleasable s k) where
      lies-at : (o : ℕ) → o < 4096 → IsTrue (is_start s (word_in_block s k o)) → HasObject s (word_in_block s k o) × Lies s (word_in_block s k o) (size_at s (word_in_block s k o))
      lies-at o below start = can.objects (word_in_block s k o) (span-at o below) (held s (word_in_block s k o) start)

      is-small : (o : ℕ) → o < 4096 → IsTrue (is_start s (word_in_block s k o)) → size_at s (word_in_block s k o) ≤ 2048
      is-small o below start = elim (cases_lt 2048 (size_at s (word_in_block s k o))) as (λ _. size_at s (word_in_block s k o) ≤ 2048) [
        | inl large ↦ absurd (no-head (let here : block_at s.blocks (word_in_block s k o) ≡ k = omega arith in subst (λ j. HasKind s j kinds.LargeHead) here ((lies-at o below start).1.large large).run.head))
        | inr small ↦ small
      ]

      pub releasable-small : HoldsSmall s k 4096 4096
      releasable-small = record {
        object = λ o below start. (lies-at o below start).0;
        small = is-small;
        ends = λ o below start. (let within = ((lies-at o below start).1.small (is-small o below start)).within in omega arith);
        apart = λ o p less below first second. elim (cases_lt p (o + size_at s (word_in_block s k o))) as (λ _. o + size_at s (word_in_block s k o) ≤ p) [
          | inl inside ↦
              let before : o < 4096 = omega arith in
              let same : word_in_block s k o ≡ word_in_block s k p = can.apart (word_in_block s k o) (word_in_block s k p) (word_in_block s k p) (span-at o before) (span-at p below)
              (held s (word_in_block s k o) first) (held s (word_in_block s k p) second)
              (record { from = omega arith; below = omega arith }) (record { from = omega arith; below = omega arith }) in
              omega arith
          | inr apart ↦ apart
        ];
        marks = λ o below marked. (can.marks (word_in_block s k o) (span-at o below) marked).start;
        inside = omega arith;
      }

      pub releasable-cells : HasKind s k kinds.Cells → AreInCells s k (cell_words (class_at s k)) 4096
      releasable-cells cells o below start =
          let a : ℕ = word_in_block s k o in
          let here : block_at s.blocks a ≡ k = omega arith in
          let at : offset_at s.blocks a ≡ o = omega arith in
          let same : cell_words (class_at s (block_at s.blocks a)) ≡ cell_words (class_at s k) = ap (λ j. cell_words (class_at s j)) here in
          let fits = ((lies-at o below start).1.small (is-small o below start)).cell (subst (λ j. HasKind s j kinds.Cells) (sym here) cells) in
          record {
            start = ap (λ c. o % c) (sym same) ∙ ap (λ x. x % cell_words (class_at s (block_at s.blocks a))) (sym at) ∙ fits.start;
            room = (let room = fits.room in omega arith);
            within = (let within = fits.within in omega arith);
          }

-- no bit of a Free block is set
pub releasable-free : (s : HeapState) (k : ℕ) → HasKind s k kinds.Free → IsReleasable s k → HasNoMark s (block_start s.blocks k) (block_start s.blocks k + 4096) × HasNoLine s k
releasable-free s k free can = (λ a from below. can.bits free a (omega arith), can.lines free)

-- no object begins in a later block of a run
pub releasable-tail : (s : HeapState) (k : ℕ) → k < s.blocks → HasKind s k kinds.LargeTail → IsReleasable s k → HasNoMark s (block_start s.blocks k) (block_start s.blocks k + 4096)
releasable-tail s k there tail can a from below marked =
    let here : block_at s.blocks a ≡ k = omega arith in
    let span : InSpan s k a = record { address = marked-address s a marked; block = inl here } in
    let lies = (can.objects a span (marked-held s k a can span marked)).1 in
    elim (cases_lt 2048 (size_at s a)) [
      | inl large ↦ (let wrong = one-kind s (block_at s.blocks a) kinds.LargeHead kinds.LargeTail (lies.large large).run.head (subst (λ j. HasKind s j kinds.LargeTail) (sym here) tail) in omega arith)
      | inr small ↦ true≢false (sym (lies.small small).kind ∙ ap (has_small s) here ∙ has_small-code s k kinds.LargeTail tail)
    ]

-- the head of a run
module _ (s : HeapState) (k n : ℕ) (there : k < s.blocks) (head : HasKind s k kinds.LargeHead) (class : class_at s k ≡ n) where
  abbrev object : ℕ
  object = block_start s.blocks k

  module _ (holds : HoldsLarge s k n) where
    some : 1 ≤ n
    some = (let large = holds.large in let class = holds.class in omega arith)

    alone : (a : ℕ) → InSpan s k a → IsTrue (is_start s a || is_pinned s a || is_unlogged s a) → a ≡ object
    alone a span marked = elim (cases_eq a object) as (λ _. a ≡ object) [
      | inl same ↦ same
      | inr other ↦
          let place = place_of_address s.blocks a span.address in
          let range : (k ≤ block_at s.blocks a) × (block_at s.blocks a < k + n) = elim span.block as (λ _. (k ≤ block_at s.blocks a) × (block_at s.blocks a < k + n)) [
            | inl same ↦ (let least = some in (omega arith, omega arith))
            | inr later ↦ (let after : k < block_at s.blocks a = later.1 in let before : block_at s.blocks a < k + class_at s k = later.2 in (omega arith, omega arith))
          ] in
          let from : k ≤ block_at s.blocks a = range.0 in
          let below : block_at s.blocks a < k + n = range.1 in
          absurd (holds.rest a (omega arith) (omega arith) marked)
    ]

    pub large-releasable : IsTrue (is_block_code (block_word s k)) → IsReleasable s k
    large-releasable code = record {
      code = code;
      objects = λ a span holding.
          let same : object ≡ a = sym (alone a span (start-marks s a holding.start)) in
          subst (λ x. HasObject s x × Lies s x (size_at s x)) same (
            holds.object,
            record {
              small = λ small. absurd (let large = holds.large in omega arith);
              large = λ _.
                  let here : block_at s.blocks object ≡ k = omega arith in
                  let inside = holds.inside in
                  record {
                    address = record { from = omega arith; below = omega arith };
                    start = omega arith;
                    run = record {
                      head = subst (λ j. HasKind s j kinds.LargeHead) (sym here) head;
                      class = ap (class_at s) here ∙ class ∙ sym holds.class;
                      inside = (let is = holds.class in omega arith);
                      tails = λ j after below. (let is = holds.class in
                          subst (λ i. HasKind s (i + j) kinds.LargeTail) (sym here) (holds.tails (k + j) (omega arith) (omega arith)));
                    };
                  };
            },
          );
      apart = λ a x i span other first second _ _. alone a span (start-marks s a first.start) ∙ sym (alone x other (start-marks s x second.start));
      marks = λ a span marked. held s a (subst (λ x. IsTrue (is_start s x)) (sym (alone a span (others-mark s a marked))) holds.start);
      bits = λ free. absurd (let wrong = one-kind s k kinds.Free kinds.LargeHead free head in omega arith);
      lines = λ free. absurd (let wrong = one-kind s k kinds.Free kinds.LargeHead free head in omega arith);
      head = λ _. (held s object holds.start, holds.large);
    }

  pub releasable-large : IsReleasable s k → HoldsLarge s k n
  releasable-large can =
      let run = spans.run s k can head in
      let of-size : blocks_for (size_at s object) ≡ n = sym run.class ∙ class in
      let inside = run.inside in record {
        inside = omega arith;
        start = (can.head head).0.start;
        object = (can.objects object (spans.object-span s k can head) (can.head head).0).0;
        large = (can.head head).1;
        class = of-size;
        tails = λ j after below.
            let at : k + (j - k) ≡ j = omega arith in
            subst (λ i. HasKind s i kinds.LargeTail) at (run.tails (j - k) (omega arith) (omega arith));
        rest = λ a from below marked.
            let span : InSpan s k a = record {
              address = marked-address s a marked;
              block = elim (cases_eq (block_at s.blocks a) k) as (λ _. (block_at s.blocks a ≡ k) ⊎ (HasKind s k kinds.LargeHead × (k < block_at s.blocks a) × (block_at s.blocks a < k + class_at s k))) [
                | inl same ↦ inl same
                | inr other ↦ inr (head, omega arith, omega arith)
              ];
            } in
            let same : a ≡ object = spans.only-object s k can head a span (marked-held s k a can span marked) in
            omega arith;
      }

-- a block of a kind that holds small and medium objects, without cells
module _ (s : HeapState) (k : ℕ) (there : k < s.blocks) (w : BlockWord) (valid : IsValidWord w) (is : code_of w ≡ block_word s k) where
  pub plain-releasable : (kind : Kind) → is_small_code true (kind_code kind) ≡ true → kind_code kind ≢ 5 → w.kind ≡ kind → HoldsSmall s k 4096 4096 ↔ IsReleasable s k
  plain-releasable kind smalls no-cells of-kind =
      let has : HasKind s k kind = subst (HasKind s k) of-kind (word-kind s k there w valid is) in
      let small : has_small s k ≡ true = has_small-code s k kind has ∙ smalls in
      let no-head : HasKind s k kinds.LargeHead → ⊥ = λ head. true≢false (sym small ∙ has_small-code s k kinds.LargeHead head) in
      let no-free : HasKind s k kinds.Free → ⊥ = λ free. true≢false (sym small ∙ has_small-code s k kinds.Free free) in (
        λ holds. small-releasable s k there no-head no-free small holds (word-code s k there w valid is) (λ cells. absurd (no-cells (one-kind s k kind kinds.Cells has cells))),
        releasable-small s k there no-head no-free small,
      )
