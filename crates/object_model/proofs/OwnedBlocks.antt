-- Blocks get other owners: what lies where it may lie lies there as before.
use Rattle.std.proofs.Common.{◌≡◌, sym, ◌∙◌, ap, subst, ℕ, ◌+◌, ◌/◌, ◌%◌, ◌^◌, ◌<◌, ◌≤◌, inl, inr, ◌&&◌, ◌||◌, false, List, length, nat_eq, nat_lt}
use Rattle.std.specs.List.{range_with_len, list_any}
use Rattle.std.proofs.Math.Path.{fun_ext}
use Rattle.std.proofs.lemmas.Bool.{cases_eq, cases_lt, and_left, le-ltb}
use Rattle.std.proofs.lemmas.List.{length-set}
use Rattle.heap_layout.specs.Zones.{BlockWords, first, block_at, offset_at}
use Rattle.heap_layout.specs.declared.block.Kind.{Kind}
use Rattle.heap_layout.specs.declared.block.Kind.TheVariants as kinds
use Rattle.heap_layout.specs.Blocks.{kind_code}
use Rattle.ideal_heap.specs.Ideal.{IdealHeap}
use Rattle.object_model.specs.Objects.{HeapState, with_words, word_at, block_word, has_kind, HasKind, class_at, size_at, blocks_for, cell_words}
use Rattle.object_model.specs.Lawful.{IsWellFormed, Lies, LiesInCell, IsRunOfBlocks, FreeBlockIsClear, has_small, is_in_run}
use Rattle.object_model.specs.Graphs.{MutatorState}
use Rattle.object_model.specs.Agreement.{RepresentsOn}
use Rattle.object_model.proofs.Blocks as blocks
use Rattle.object_model.proofs.Blocks.{SameHeap, set_block}
use Rattle.object_model.proofs.OneKind.{kind-within}
use Rattle.object_model.proofs.ObjectParts.{ArePlacesRight, objects-of, places-of, together}

-- the words of the heap are the same, and each block has its kind and class
module _ (s : HeapState) (w : List ℕ) (same : SameHeap s w) (kind-same : (j : ℕ) (kind : Kind) → has_kind (with_words s w) j kind ≡ has_kind s j kind)
    (class-same : (j : ℕ) → j < s.blocks → class_at (with_words s w) j ≡ class_at s j) where
  abbrev after : HeapState
  after = with_words s w

  kind-after : (j : ℕ) (kind : Kind) → HasKind s j kind → HasKind after j kind
  kind-after j q is = kind-same j q ∙ is

  pub kind-before : (j : ℕ) (kind : Kind) → HasKind after j kind → HasKind s j kind
  kind-before j q is = sym (kind-same j q) ∙ is

  small-same : (j : ℕ) → has_small after j ≡ has_small s j
  small-same j = ap (λ f. f kinds.Bump || f kinds.Young || f kinds.Mature || f kinds.Immix || f kinds.Cells || f kinds.Kept) (fun_ext (kind-same j))

  beyond : (x : HeapState) (q j : ℕ) → x.blocks ≤ q → (has_kind x q kinds.LargeHead && nat_lt j (q + class_at x q)) ≡ false
  beyond x q j past = and_left (has_kind x q kinds.LargeHead) _ (and_left (nat_lt q x.blocks) _ (le-ltb q x.blocks past))

  in_run-same : (j : ℕ) → is_in_run after j ≡ is_in_run s j
  in_run-same j = ap (λ f. list_any f (range_with_len 0 j)) (fun_ext (λ q. elim (cases_lt q s.blocks) as
      (λ _. (has_kind after q kinds.LargeHead && nat_lt j (q + class_at after q)) ≡ (has_kind s q kinds.LargeHead && nat_lt j (q + class_at s q))) [
        | inl inside ↦ ap (λ b. b && nat_lt j (q + class_at after q)) (kind-same q kinds.LargeHead) ∙ ap (λ c. has_kind s q kinds.LargeHead && nat_lt j (q + c)) (class-same q inside)
        | inr past ↦ beyond after q j past ∙ sym (beyond s q j past)
      ]))

  run-after : (j n : ℕ) → IsRunOfBlocks s j n → IsRunOfBlocks after j n
  run-after j n run = record {
    head = kind-after j kinds.LargeHead run.head;
    class = class-same j (kind-within s j kinds.LargeHead run.head) ∙ run.class;
    inside = run.inside;
    tails = λ q some less. kind-after (j + q) kinds.LargeTail (run.tails q some less);
  }

  cell-after : (a size : ℕ) → block_at s.blocks a < s.blocks → LiesInCell s a size → LiesInCell after a size
  cell-after a size there cell =
      let e : class_at s (block_at s.blocks a) ≡ class_at after (block_at s.blocks a) = sym (class-same (block_at s.blocks a) there) in
      record {
        start = subst (λ (c : ℕ). offset_at s.blocks a % cell_words c ≡ 0) e cell.start;
        room = subst (λ (c : ℕ). size ≤ cell_words c) e cell.room;
        within = subst (λ (c : ℕ). offset_at s.blocks a + cell_words c ≤ 4096) e cell.within;
      }

  lies-after : (a size : ℕ) → Lies s a size → Lies after a size
  lies-after a size lies = record {
    small = λ few. let old = lies.small few in record {
      address = old.address;
      within = old.within;
      kind = small-same (block_at s.blocks a) ∙ old.kind;
      cell = λ is. let before : HasKind s (block_at s.blocks a) kinds.Cells = kind-before (block_at s.blocks a) kinds.Cells is in
          cell-after a size (kind-within s (block_at s.blocks a) kinds.Cells before) (old.cell before);
    };
    large = λ many. let old = lies.large many in record { address = old.address; start = old.start; run = run-after (block_at s.blocks a) (blocks_for size) old.run };
  }

  places-same : ArePlacesRight s → ArePlacesRight after
  places-same old = record {
    lies = λ a holds. let before = blocks.held-before s w same a holds in
        subst (Lies after a) (sym (blocks.size-same s w same a before)) (lies-after a (size_at s a) (old.lies a before));
    heads = λ j is. let before = old.heads j (kind-before j kinds.LargeHead is) in
        (blocks.held-after s w same _ before.0, subst (λ (n : ℕ). 2048 < n) (sym (blocks.size-same s w same _ before.0)) before.1);
    tails = λ j is. in_run-same j ∙ old.tails j (kind-before j kinds.LargeTail is);
  }

  pub order-same : IsWellFormed s → length w ≡ length s.words → ((i : ℕ) → word_at after i < 2 ^ 64) → IsWellFormed after
  order-same order extent fits = record {
    row = record { least = order.row.least; most = order.row.most; extent = extent ∙ order.row.extent; words = fits; base = order.row.base };
    objects = together after (blocks.objects-after s w same (objects-of s order.objects)) (places-same (places-of s order.objects));
  }

-- one block gets another word, of the same kind and class
module _ (s : HeapState) (order : IsWellFormed s) (k v : ℕ) (there : k < s.blocks) (fits : v < 2 ^ 64)
    (kind : v % 256 ≡ block_word s k % 256) (class : v / 256 % 256 ≡ class_at s k) where
  abbrev pub owned : HeapState
  owned = with_words s (set_block s k v)

  same : SameHeap s (set_block s k v)
  same = blocks.same_heap s k v there

  -- what the word of a block says is the same of what the two words have in common
  by-word : {X : Type 0} (f : ℕ → X) → f v ≡ f (block_word s k) → (j : ℕ) → f (block_word owned j) ≡ f (block_word s j)
  by-word f own j = elim (cases_eq j k) as (λ _. f (block_word owned j) ≡ f (block_word s j)) [
    | inl e ↦ ap f (ap (block_word owned) e ∙ blocks.block-set s k v there order.row.extent) ∙ own ∙ ap (λ q. f (block_word s q)) (sym e)
    | inr other ↦ ap f (blocks.block-other s k v there j other)
  ]

  kinds-kept : (j : ℕ) (kind : Kind) → has_kind owned j kind ≡ has_kind s j kind
  kinds-kept j q = by-word (λ x. nat_lt j s.blocks && nat_eq (x % 256) (kind_code q)) (ap (λ x. nat_lt j s.blocks && nat_eq x (kind_code q)) kind) j

  classes-kept : (j : ℕ) → j < s.blocks → class_at owned j ≡ class_at s j
  classes-kept j inside = by-word (λ x. x / 256 % 256) class j

  pub order-owned : IsWellFormed owned
  order-owned = order-same s (set_block s k v) same kinds-kept classes-kept order (length-set s.words (first s.blocks BlockWords + k) v)
      (blocks.words-fit s k v there fits order.row.extent order.row.words)

  pub free-owned : ((j : ℕ) → FreeBlockIsClear s j) → (j : ℕ) → FreeBlockIsClear owned j
  free-owned old j is = blocks.clear-after s (set_block s k v) same j (λ line few. blocks.lines-same s k v there j line)
      (old j (kind-before s (set_block s k v) same kinds-kept classes-kept j kinds.Free is))

  pub models-owned : (ms : List MutatorState) (h : IdealHeap) (set : ℕ → Type 0) → RepresentsOn s ms h set → RepresentsOn owned ms h set
  models-owned ms h set model = blocks.models-after s (set_block s k v) same ms h set model order-owned
