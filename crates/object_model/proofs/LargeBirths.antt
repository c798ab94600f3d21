-- A large object is written at the start of a run of blocks that were Free.
use Rattle.std.proofs.Common.{◌≡◌, ◌≢◌, refl, sym, ◌∙◌, ap, subst, ℕ, ◌+◌, ◌*◌, ◌-◌, ◌/◌, ◌%◌, ◌<◌, ◌≤◌, ◌⊎◌, inl, inr, arith, ◌&&◌, IsTrue, List, length, nat_eq, nat_le, nat_lt, get_or}
use Rattle.std.specs.Int.{bit_at}
use Rattle.std.specs.List.{range_with_len}
use Rattle.std.proofs.lemmas.Bool.{cases_lt, cases_eq, and_from, lt-ltb, le-leb}
use Rattle.std.proofs.lemmas.List.Folds.{list_any_at}
use Rattle.std.proofs.lemmas.List.FromFn.{get_or-range_with_len, length-range_with_len}
use Rattle.heap_layout.specs.Zones.{Zone, StartBits, PinBits, UnlogBits, LineWords, BlockWords, Globals, heap_of, first, address_bit, block_at, block_start, IsAddress}
use Rattle.heap_layout.specs.Blocks.{is_block_code, kind_code}
use Rattle.heap_layout.specs.declared.block.Kind.{Kind}
use Rattle.heap_layout.specs.declared.block.Kind.TheVariants as kinds
use Rattle.heap_layout.proofs.BlockLemmas.{is_block_code-code_of}
use Rattle.ideal_heap.specs.declared.name.Name.{Name}
use Rattle.object_model.specs.Objects.{HeapState, with_words, block_word, has_kind, HasKind, class_at, line_marked, size_of, blocks_for}
use Rattle.object_model.specs.Lawful.{IsLawful, IsLawfulButLines, IsWellFormed, IsUnowned, Lies, IsRunOfBlocks, LineBitsAreExact, is_in_run}
use Rattle.object_model.specs.Changes.{WritesObject}
use Rattle.object_model.specs.Births.{IsVacant, IsLargeRoom, MakesRun}
use Rattle.object_model.proofs.Blocks.{SameHeap}
use Rattle.object_model.proofs.Births as births
use Rattle.object_model.proofs.Births.{Adds}
use Rattle.object_model.proofs.ObjectParts.{objects-of, places-of, together}
use Rattle.object_model.proofs.Lines.{touched-block_word}
use Rattle.object_model.proofs.Marks.{mark-same}
use Rattle.object_model.proofs.OneKind.{kind-code, kind-within, kind-from, one-kind}

-- the block words of a run are not words of the heap
pub run-same : (s : HeapState) (w : List ℕ) (k n : ℕ) → k + n ≤ s.blocks → MakesRun s (with_words s w) k n → SameHeap s w
run-same s w k n inside makes = record {
  words = λ i above. makes.others i (inr (omega arith));
  globals = λ g small. makes.others (first s.blocks Globals + g) (inl (omega arith));
  starts = λ x. bits StartBits x (omega arith);
  pins = λ x. bits PinBits x (omega arith);
  unlogs = λ x. bits UnlogBits x (omega arith);
}
  where
    bits : (z : Zone) (x : ℕ) → first s.blocks LineWords ≤ first s.blocks z → address_bit s.blocks z w x ≡ address_bit s.blocks z s.words x
    bits z x above = mark-same s.blocks z s.words w x (λ there. ap (λ word. nat_eq (bit_at word ((x - heap_of s.blocks) % 64)) 1)
        (makes.others (first s.blocks z + (x - heap_of s.blocks) / 64) (inr (omega arith))))

module _ (s : HeapState) (w1 w2 : List ℕ) (k : ℕ) (n : Name) (refs nums : ℕ) (order : IsWellFormed s) (room : IsLargeRoom s k n refs nums)
    (makes : MakesRun s (with_words s w1) k (blocks_for (size_of refs nums))) (writes : WritesObject (with_words s w1) (with_words s w2) (block_start s.blocks k) n refs nums) where
  abbrev size : ℕ
  size = size_of refs nums

  abbrev run : ℕ
  run = blocks_for (size_of refs nums)

  abbrev a : ℕ
  a = block_start s.blocks k

  abbrev between : HeapState
  between = with_words s w1

  abbrev after : HeapState
  after = with_words s w2

  large : 2048 < size
  large = room.large

  inside : k + run ≤ s.blocks
  inside = room.inside

  few_fields : (refs ≤ 1024) × (nums ≤ 60000)
  few_fields = (room.few_refs, room.few_nums)

  least : 1 ≤ run
  least = let more : 2048 < size = large in omega arith

  most : run ≤ 15
  most = let few = few_fields.0 in let some = few_fields.1 in omega arith

  pub there : k < s.blocks
  there = let some : 1 ≤ run = least in let upto : k + run ≤ s.blocks = inside in omega arith

  pub address : IsAddress s.blocks a
  address = record { from = omega arith; below = omega arith }

  block-is : block_at s.blocks a ≡ k
  block-is = omega arith

  -- a block is the head, one of the tails, or not in the run
  data Place (j : ℕ) : Type 0 where
    head : j ≡ k → Place j
    tail : (i : ℕ) → 0 < i → i < run → j ≡ k + i → Place j
    outside : (j < k) ⊎ (k + run ≤ j) → Place j

  place : (j : ℕ) → Place j
  place j = elim (cases_eq j k) as (λ _. Place j) [
    | inl e ↦ head e
    | inr other ↦ elim (cases_lt j k) as (λ _. Place j) [
      | inl before ↦ outside (inl before)
      | inr from ↦ elim (cases_lt j (k + run)) as (λ _. Place j) [
        | inl below ↦ tail (j - k) (omega arith) (omega arith) (omega arith)
        | inr past ↦ outside (inr past)
      ]
    ]
  ]

  pub same_words : (j : ℕ) → j < s.blocks → block_word after j ≡ block_word between j
  same_words = births.block_words between w2 a n refs nums writes address

  head-word : block_word after k ≡ 6 + 256 * run
  head-word = same_words k (omega arith) ∙ makes.head ∙ (omega arith)

  tail-word : (i : ℕ) → 0 < i → i < run → block_word after (k + i) ≡ 7
  tail-word i some less = same_words (k + i) (omega arith) ∙ makes.tails i some less

  pub other-word : (j : ℕ) → j < s.blocks → (j < k) ⊎ (k + run ≤ j) → block_word after j ≡ block_word s j
  other-word j there away = same_words j there ∙ makes.others (first s.blocks BlockWords + j)
      (elim away as (λ _. (first s.blocks BlockWords + j < first s.blocks BlockWords + k) ⊎ (first s.blocks BlockWords + k + run ≤ first s.blocks BlockWords + j)) [ inl before ↦ inl (omega arith) | inr past ↦ inr (omega arith) ])

  head-kind : HasKind after k kinds.LargeHead
  head-kind = kind-from after k kinds.LargeHead (omega arith) (ap (λ v. v % 256) head-word ∙ (omega arith))

  head-class : class_at after k ≡ run
  head-class = ap (λ v. v / 256 % 256) head-word ∙ (omega arith)

  tail-kind : (i : ℕ) → 0 < i → i < run → HasKind after (k + i) kinds.LargeTail
  tail-kind i some less = kind-from after (k + i) kinds.LargeTail (omega arith) (ap (λ v. v % 256) (tail-word i some less))

  -- a block whose kind is neither LargeHead nor LargeTail is not in the run, and its word is unchanged
  before : (j : ℕ) (kind : Kind) → kind_code kind ≢ 6 → kind_code kind ≢ 7 → HasKind after j kind → HasKind s j kind × ((j < k) ⊎ (k + run ≤ j))
  before j kind no_head no_tail now = elim (place j) as (λ _. HasKind s j kind × ((j < k) ⊎ (k + run ≤ j))) [
    | head e ↦ absurd (no_head (one-kind after k kind kinds.LargeHead (subst (λ (q : ℕ). HasKind after q kind) e now) head-kind))
    | tail i some less e ↦ absurd (no_tail (one-kind after (k + i) kind kinds.LargeTail (subst (λ (q : ℕ). HasKind after q kind) e now) (tail-kind i some less)))
    | outside away ↦ (kind-outside j kind away now, away)
  ]
    where
      kind-outside : (j : ℕ) (kind : Kind) → (j < k) ⊎ (k + run ≤ j) → HasKind after j kind → HasKind s j kind
      kind-outside j kind away now = let there : j < s.blocks = kind-within after j kind now in
          kind-from s j kind there (ap (λ v. v % 256) (sym (other-word j there away)) ∙ kind-code after j kind now)

  kept : (j : ℕ) → j < s.blocks → (HasKind s j kinds.Free → ⊥) → block_word after j ≡ block_word s j
  kept j there used = elim (place j) as (λ _. block_word after j ≡ block_word s j) [
    | head e ↦ absurd (used (subst (λ (q : ℕ). HasKind s q kinds.Free) (let same : k + 0 ≡ j = omega arith in same) (room.free 0 (omega arith))))
    | tail i some less e ↦ absurd (used (subst (λ (q : ℕ). HasKind s q kinds.Free) (sym e) (room.free i less)))
    | outside away ↦ other-word j there away
  ]

  -- the object's words lie in the run's blocks
  object-block : (i : ℕ) → a ≤ i → i < a + size → (k ≤ block_at s.blocks i) × (block_at s.blocks i < k + run)
  object-block i from below = (omega arith, omega arith)

  away-from : (j i : ℕ) → (j < k) ⊎ (k + run ≤ j) → a ≤ i → i < a + size → block_at s.blocks i ≢ j
  away-from j i away from below e =
      let inner = object-block i from below in let low : k ≤ block_at s.blocks i = inner.0 in let high : block_at s.blocks i < k + run = inner.1 in
      elim away as (λ _. ⊥) [ inl less ↦ omega arith | inr past ↦ omega arith ]

  pub vacant : IsVacant s a n refs nums
  vacant = record {
    address = address;
    named = room.named;
    few_refs = room.few_refs;
    few_nums = room.few_nums;
    apart = λ x i holds in_x. elim (cases_lt i a) as (λ _. (i < a) ⊎ (a + size ≤ i)) [
      | inl less ↦ inl less
      | inr from ↦ elim (cases_lt i (a + size)) as (λ _. (i < a) ⊎ (a + size ≤ i)) [
        | inl below ↦ absurd (let inner = object-block i from below in let low : k ≤ block_at s.blocks i = inner.0 in let high : block_at s.blocks i < k + run = inner.1 in
            (room.clear (block_at s.blocks i - k) (omega arith)).empty x i holds in_x (omega arith))
        | inr past ↦ inr past
      ]
    ];
    fresh = room.fresh;
  }

  same : SameHeap s w1
  same = run-same s w1 k run inside makes

  pub one_more : Adds s w2 a n refs nums
  one_more = births.adds-from s w1 w2 a n refs nums same (births.adds between w2 a n refs nums writes address)

  same_lines : (j line : ℕ) → j < s.blocks → line < 256 → line_marked after j line ≡ line_marked s j line
  same_lines j line there small = births.lines-same between w2 a n refs nums writes address j line there small
      ∙ ap (λ word. nat_eq (bit_at word ((256 * j + line) % 64)) 1) (makes.others (first s.blocks LineWords + (256 * j + line) / 64) (inr (omega arith)))

  new-lies : Lies after a size
  new-lies = record {
    small = λ small. absurd (omega arith);
    large = λ more. record {
      address = address;
      start = omega arith;
      run = subst (λ (q : ℕ). IsRunOfBlocks after q run) (sym block-is) (record { head = head-kind; class = head-class; inside = inside; tails = tail-kind });
    };
  }

  in-run : (i : ℕ) → 0 < i → i < run → IsTrue (is_in_run after (k + i))
  in-run i some less =
      let j : ℕ = k + i in
      let at : get_or (range_with_len 0 j) k 0 ≡ k = get_or-range_with_len 0 j k 0 (omega arith) ∙ (omega arith) in
      let many : length (range_with_len 0 j) ≡ j = length-range_with_len 0 j in
      list_any_at (λ h. has_kind after h kinds.LargeHead && nat_lt j (h + class_at after h)) (range_with_len 0 j) k 0 (omega arith)
      (ap (λ h. has_kind after h kinds.LargeHead && nat_lt j (h + class_at after h)) at
      ∙ and_from (has_kind after k kinds.LargeHead) _ head-kind (ap (λ c. nat_lt j (k + c)) head-class ∙ lt-ltb j (k + run) (omega arith)))

  pub order-run : IsWellFormed after
  order-run = record {
    row = record { least = order.row.least; most = order.row.most; extent = writes.extent ∙ makes.extent ∙ order.row.extent; words = writes.words; base = order.row.base };
    objects = together after (births.objects-after s w2 a n refs nums one_more vacant (objects-of s order.objects))
        (births.places-after s w2 a n refs nums one_more vacant kept new-lies heads tails (places-of s order.objects));
  }
    where
      was-free : (j : ℕ) (kind : Kind) → 0 < kind_code kind → HasKind s j kinds.Free → (j < k) ⊎ (k + run ≤ j) → HasKind after j kind → ⊥
      was-free j kind some is away now = let there : j < s.blocks = kind-within s j kinds.Free is in
          let e : kind_code kind ≡ 0 = sym (kind-code after j kind now) ∙ ap (λ v. v % 256) (other-word j there away) ∙ kind-code s j kinds.Free is in omega arith

      heads : (j : ℕ) → HasKind s j kinds.Free → HasKind after j kinds.LargeHead → (block_start s.blocks j ≡ a) × (2048 < size)
      heads j is now = elim (place j) as (λ _. (block_start s.blocks j ≡ a) × (2048 < size)) [
        | head e ↦ (ap (block_start s.blocks) e, large)
        | tail i some less e ↦ absurd (let both = one-kind after (k + i) kinds.LargeHead kinds.LargeTail (subst (λ (q : ℕ). HasKind after q kinds.LargeHead) e now) (tail-kind i some less) in omega arith)
        | outside away ↦ absurd (was-free j kinds.LargeHead (omega arith) is away now)
      ]

      tails : (j : ℕ) → HasKind s j kinds.Free → HasKind after j kinds.LargeTail → IsTrue (is_in_run after j)
      tails j is now = elim (place j) as (λ _. IsTrue (is_in_run after j)) [
        | head e ↦ absurd (let both = one-kind after k kinds.LargeTail kinds.LargeHead (subst (λ (q : ℕ). HasKind after q kinds.LargeTail) e now) head-kind in omega arith)
        | tail i some less e ↦ subst (λ (q : ℕ). IsTrue (is_in_run after q)) (sym e) (in-run i some less)
        | outside away ↦ absurd (was-free j kinds.LargeTail (omega arith) is away now)
      ]

  unowned-code : (j v : ℕ) → block_word after j ≡ v → IsTrue (is_block_code v) → v / 65536 ≡ 0 → IsUnowned after j
  unowned-code j v is code nobody = record { code = subst (λ (x : ℕ). IsTrue (is_block_code x)) (sym is) code; owner = ap (λ x. x / 65536) is ∙ nobody }

  unowned-run : ((j : ℕ) → j < s.blocks → IsUnowned s j) → (j : ℕ) → j < s.blocks → IsUnowned after j
  unowned-run old j there = elim (place j) as (λ _. IsUnowned after j) [
    | head e ↦ subst (IsUnowned after) (sym e) (unowned-code k (6 + 256 * run) head-word
        (is_block_code-code_of (record { kind = kinds.LargeHead; class = run; owner = 0 }) (6 + 256 * run)
        (and_from (nat_le 1 run && nat_le run 15) _ (and_from (nat_le 1 run) _ (le-leb 1 run least) (le-leb run 15 most)) refl) (omega arith)) (omega arith))
    | tail i some less e ↦ subst (IsUnowned after) (sym e) (unowned-code (k + i) 7 (tail-word i some less) refl (omega arith))
    | outside away ↦ unowned-code j (block_word s j) (other-word j there away) (old j there).code (old j there).owner
  ]

  pub but_lines-run : IsLawfulButLines s → IsLawfulButLines after
  but_lines-run old = record {
    order = order-run;
    blocks = unowned-run old.blocks;
    free = λ j now. let was = before j kinds.Free (λ e. omega arith) (λ e. omega arith) now in
        births.clear-after s w2 a n refs nums one_more vacant j (λ i from below. away-from j i was.1 from below)
        (λ line small. same_lines j line (kind-within s j kinds.Free was.0) small) (old.free j was.0);
  }

  lines-run : (j : ℕ) → LineBitsAreExact s j → LineBitsAreExact after j
  lines-run j old = record { marked = λ line now. (right now).marked line now; touched = λ line now. (right now).touched line now }
    where
      right : HasKind after j kinds.Immix → LineBitsAreExact after j
      right now =
          let was = before j kinds.Immix (λ e. omega arith) (λ e. omega arith) now in
          let there : j < s.blocks = kind-within s j kinds.Immix was.0 in
          births.lines-after s w2 a n refs nums one_more vacant j (λ again. was.0) (λ line small set. same_lines j line there small ∙ set)
          (λ line small set. inl (sym (same_lines j line there small) ∙ set))
          (λ line small here. let word = touched-block_word s.blocks a size j line address.from (omega arith) small here in
          absurd (away-from j word.0 was.1 word.1.from word.1.below word.2)) old

  pub lawful-run : IsLawful s → IsLawful after
  lawful-run lawful = record { but_lines = but_lines-run lawful.but_lines; lines = λ j. lines-run j (lawful.lines j) }
