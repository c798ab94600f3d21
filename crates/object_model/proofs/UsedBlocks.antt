-- Each block that is not Free keeps its word, so objects in such blocks lie there as before.
use Rattle.std.proofs.Common.{◌≡◌, ◌≢◌, sym, ◌∙◌, ap, subst, ℕ, ◌+◌, ◌/◌, ◌%◌, ◌<◌, ◌≤◌, ◌⊎◌, inl, inr, arith, ◌&&◌, IsTrue, List, nat_lt}
use Rattle.std.specs.List.{range_with_len}
use Rattle.std.proofs.lemmas.List.Folds.{Any-from_list_any, list_any-from_Any}
use Rattle.std.proofs.lemmas.Bool.{cases_Bool, cases_lt, and_parts, and_from, le-ltb, true≢false}
use Rattle.heap_layout.specs.Zones.{block_at, offset_at}
use Rattle.heap_layout.specs.Blocks.{kind_code}
use Rattle.heap_layout.specs.declared.block.Kind.{Kind}
use Rattle.heap_layout.specs.declared.block.Kind.TheVariants as kinds
use Rattle.object_model.specs.Objects.{HeapState, with_words, block_word, has_kind, HasKind, class_at, blocks_for, cell_words}
use Rattle.object_model.specs.Lawful.{Lies, LiesInCell, IsRunOfBlocks, has_small, is_in_run}
use Rattle.object_model.proofs.OneKind.{kind-code, kind-within, kind-from, one-kind, has_small-free, is_small_code}

-- the object begins a cell of this class that is large enough
record LiesInCellOf (s : HeapState) (a size class : ℕ) : Type 0 where
  pub start : offset_at s.blocks a % cell_words class ≡ 0
  pub room : size ≤ cell_words class
  pub within : offset_at s.blocks a + cell_words class ≤ 4096

module _ (s : HeapState) (w : List ℕ) (kept : (k : ℕ) → k < s.blocks → (HasKind s k kinds.Free → ⊥) → block_word (with_words s w) k ≡ block_word s k) where
  abbrev after : HeapState
  after = with_words s w

  pub word-kept : (k : ℕ) (kind : Kind) → kind_code kind ≢ 0 → HasKind s k kind → block_word after k ≡ block_word s k
  word-kept k kind some is = kept k (kind-within s k kind is) (λ free. some (one-kind s k kind kinds.Free is free))

  pub kind-kept : (k : ℕ) (kind : Kind) → kind_code kind ≢ 0 → HasKind s k kind → HasKind after k kind
  kind-kept k kind some is = kind-from after k kind (kind-within s k kind is) (ap (λ v. v % 256) (word-kept k kind some is) ∙ kind-code s k kind is)

  -- a block has the kind that it had, or was Free
  pub kind-before : (k : ℕ) (kind : Kind) → HasKind after k kind → HasKind s k kind ⊎ HasKind s k kinds.Free
  kind-before k kind now = elim (cases_Bool (has_kind s k kinds.Free)) as (λ _. HasKind s k kind ⊎ HasKind s k kinds.Free) [
    | inl free ↦ inr free
    | inr other ↦ inl (let there : k < s.blocks = kind-within after k kind now in
        kind-from s k kind there (ap (λ v. v % 256) (sym (kept k there (λ free. true≢false (sym free ∙ other)))) ∙ kind-code after k kind now))
  ]

  small-not-free : (k : ℕ) → IsTrue (has_small s k) → HasKind s k kinds.Free → ⊥
  small-not-free k small free = true≢false (sym small ∙ has_small-free s k free)

  small-word : (k : ℕ) → IsTrue (has_small s k) → block_word after k ≡ block_word s k
  small-word k small = elim (cases_lt k s.blocks) as (λ _. block_word after k ≡ block_word s k) [
    | inl there ↦ kept k there (small-not-free k small)
    | inr past ↦ absurd (true≢false (sym small ∙ ap (λ there. is_small_code there (block_word s k % 256)) (le-ltb k s.blocks past)))
  ]

  pub small-kept : (k : ℕ) → IsTrue (has_small s k) → IsTrue (has_small after k)
  small-kept k small = ap (λ v. is_small_code (nat_lt k s.blocks) (v % 256)) (small-word k small) ∙ small

  run-kept : (k n : ℕ) → IsRunOfBlocks s k n → IsRunOfBlocks after k n
  run-kept k n run = record {
    head = kind-kept k kinds.LargeHead (λ e. omega arith) run.head;
    class = ap (λ v. v / 256 % 256) (word-kept k kinds.LargeHead (λ e. omega arith) run.head) ∙ run.class;
    inside = run.inside;
    tails = λ j some less. kind-kept (k + j) kinds.LargeTail (λ e. omega arith) (run.tails j some less);
  }

  cell-kept : (a size : ℕ) → IsTrue (has_small s (block_at s.blocks a)) → (HasKind s (block_at s.blocks a) kinds.Cells → LiesInCell s a size)
      → HasKind after (block_at s.blocks a) kinds.Cells → LiesInCell after a size
  cell-kept a size small old now =
      let k : ℕ = block_at s.blocks a in
      let is : HasKind s k kinds.Cells = elim (kind-before k kinds.Cells now) as (λ _. HasKind s k kinds.Cells) [ inl before ↦ before | inr free ↦ absurd (small-not-free k small free) ] in
      let cell = old is in
      let same : class_at after k ≡ class_at s k = ap (λ v. v / 256 % 256) (small-word k small) in
      let moved : LiesInCellOf s a size (class_at after k) = subst (LiesInCellOf s a size) (sym same) (record { start = cell.start; room = cell.room; within = cell.within }) in
      record { start = moved.start; room = moved.room; within = moved.within }

  pub lies-kept : (a size : ℕ) → Lies s a size → Lies after a size
  lies-kept a size lies = record {
    small = λ small. let old = lies.small small in
        record { address = old.address; within = old.within; kind = small-kept (block_at s.blocks a) old.kind; cell = cell-kept a size old.kind old.cell };
    large = λ large. let old = lies.large large in record { address = old.address; start = old.start; run = run-kept (block_at s.blocks a) (blocks_for size) old.run };
  }

  pub in_run-kept : (k : ℕ) → IsTrue (is_in_run s k) → IsTrue (is_in_run after k)
  in_run-kept k inside =
      let some = Any-from_list_any (λ h. has_kind s h kinds.LargeHead && nat_lt k (h + class_at s h)) (range_with_len 0 k) inside in
      let h : ℕ = some.1 in
      let both = and_parts (has_kind s h kinds.LargeHead) (nat_lt k (h + class_at s h)) some.4 in
      let same : class_at after h ≡ class_at s h = ap (λ v. v / 256 % 256) (word-kept h kinds.LargeHead (λ e. omega arith) both.0) in
      list_any-from_Any (λ j. has_kind after j kinds.LargeHead && nat_lt k (j + class_at after j)) (range_with_len 0 k)
      (some.0, h, some.2, some.3, and_from (has_kind after h kinds.LargeHead) _ (kind-kept h kinds.LargeHead (λ e. omega arith) both.0) (ap (λ c. nat_lt k (h + c)) same ∙ both.1))
