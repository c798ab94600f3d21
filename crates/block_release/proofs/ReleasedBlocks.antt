-- The blocks of a row are lawful once each was released.
use Rattle.std.proofs.Common.{◌≡◌, ◌≢◌, refl, sym, ◌∙◌, ap, subst, ℕ, ◌+◌, ◌/◌, ◌%◌, ◌<◌, ◌≤◌, inl, inr, arith, ◌&&◌, ◌||◌, IsTrue, nat_lt, List, Option}
use Rattle.std.specs.List.{range_with_len}
use Rattle.std.proofs.Math.Logic.{∥∥₁_map}
use Rattle.std.proofs.lemmas.Bool.{true≢false, and_parts, and_from, or_cases, or_left, or_right, eqb-true, lt-ltb}
use Rattle.std.proofs.lemmas.List.Folds.{list_any_at}
use Rattle.std.proofs.lemmas.List.FromFn.{get_or-range_with_len, length-range_with_len}
use Rattle.heap_layout.specs.Zones.{block_at, offset_at, block_start}
use Rattle.heap_layout.specs.declared.block.Kind.{Kind}
use Rattle.heap_layout.specs.declared.block.Kind.TheVariants as kinds
use Rattle.heap_layout.specs.Blocks.{kind_of_code, is_valid_for, is_valid_for_some, is_block_code}
use Rattle.object_model.specs.declared.collect.Collect.{Collect}
use Rattle.object_model.specs.Objects.{HeapState, block_word, has_kind, HasKind, class_at, is_start, is_pinned, is_unlogged, IsHeld, IsInExtent, size_at, blocks_for, cell_words}
use Rattle.object_model.specs.Lawful.{Lies, LiesInCell, LiesInBlock, LiesInRun, IsUnowned, FreeBlockIsClear, IsTouched, LineBitsAreExact, has_small, is_in_run}
use Rattle.object_model.specs.Ages.{Lives}
use Rattle.object_model.proofs.OneKind.{kind-code, kind-within, kind-from, one-kind, has_small-code, is_small_code}
use Rattle.object_model.proofs.Lines.{held-block_word}
use Rattle.object_model.proofs.ObjectParts.{ArePlacesRight}
use Rattle.object_model.proofs.Marks as marks
use Rattle.block_sweeps.specs.Sweeping.{IsOfSpan}
use Rattle.sessions.specs.Plans.{Rules}
use Rattle.plan_api.specs.Releasing.{is_kept_kind, is_kept_after}
use Rattle.block_sweeps.proofs.LargeRuns.{object, one-large, head-object, no-head-and-tail}
use Rattle.block_release.proofs.Spans.{begins-in}
use Rattle.block_release.proofs.Fates as fates
use Rattle.block_release.proofs.Fates.{IsAllReleased, WasFreed, IsInUse, IsInLargeUse, low-half}

-- a kind that allows an owner allows none
ownerless : (o : Option Kind) (class owner : ℕ) → IsTrue (is_valid_for_some o class owner) → IsTrue (is_valid_for_some o class 0)
ownerless o class owner valid = grind arith

low-code : (v : ℕ) → IsTrue (is_block_code v) → IsTrue (is_block_code (v % 65536))
low-code v code = let half = low-half v in rw (half.0, half.1, half.2) (ownerless (kind_of_code (v % 256)) (v / 256 % 256) (v / 65536) code)

-- the first block of a large run is not Kept
head-not-kept : (r : Rules) (c : Collect) (s : HeapState) (k : ℕ) → HasKind s k kinds.LargeHead → IsTrue (is_kept_after r c s k) → ⊥
head-not-kept r c s k head kept = elim (or_cases (has_kind s k kinds.Bump || has_kind s k kinds.Young || has_kind s k kinds.Mature) _ (and_parts (is_kept_kind s k) _ kept).0) as (λ _. ⊥) [
  | inl three ↦ elim (or_cases (has_kind s k kinds.Bump || has_kind s k kinds.Young) _ three) as (λ _. ⊥) [
    | inl two ↦ elim (or_cases (has_kind s k kinds.Bump) _ two) as (λ _. ⊥) [
      | inl bump ↦ (let e = one-kind s k kinds.Bump kinds.LargeHead bump head in omega arith)
      | inr young ↦ (let e = one-kind s k kinds.Young kinds.LargeHead young head in omega arith)
    ]
    | inr mature ↦ (let e = one-kind s k kinds.Mature kinds.LargeHead mature head in omega arith)
  ]
  | inr still ↦ (let e = one-kind s k kinds.Kept kinds.LargeHead still head in omega arith)
]

-- a tail of a large run has no owner
tail-owner : (v : ℕ) → v % 256 ≡ 7 → IsTrue (is_block_code v) → v / 65536 ≡ 0
tail-owner v tail code = let valid : IsTrue (is_valid_for kinds.LargeTail (v / 256 % 256) (v / 65536)) = subst (λ k. IsTrue (is_valid_for_some (kind_of_code k) (v / 256 % 256) (v / 65536))) tail code in
    eqb-true (v / 65536) 0 (and_parts _ _ valid).1

module _ {r : Rules} {c : Collect} {base : ℕ} {s : HeapState} {w : List ℕ} {number age : ℕ} (all : IsAllReleased r c base s w number age) where
  abbrev new : HeapState
  new = record { words = w; blocks = s.blocks; number = number; base = age }

  lives-of : (a : ℕ) → IsHeld new a → Lives base s a
  lives-of = fates.held-lives all

  size-same : (a : ℕ) → IsHeld new a → size_at new a ≡ size_at s a
  size-same = fates.size-same all

  inside-before : (a i : ℕ) → IsHeld new a → IsInExtent new a i → IsInExtent s a i
  inside-before = fates.inside-before all

  pub unowned : (j : ℕ) → j < s.blocks → IsUnowned new j
  unowned j there = elim (fates.fate all j there) as (λ _. IsUnowned new j) [
    | inl was ↦ of-word 0 was.freed.word refl refl
    | inr some ↦ elim some as (λ _. IsUnowned new j) [
      | inl used ↦ elim (fates.used-word all j used) as (λ _. IsUnowned new j) [
        | inl kept ↦ of-word 8 kept.1 refl refl
        | inr same ↦ of-word (block_word s j % 65536) same (low-code (block_word s j) (all.before.blocks j there).code) (low-half (block_word s j)).2
      ]
      | inr large ↦ (let code : IsTrue (is_block_code (block_word s j)) = (all.before.blocks j there).code in
          of-word (block_word s j) large.word code (tail-owner (block_word s j)
          (ap (λ v. v % 256) (sym large.word) ∙ kind-code new j kinds.LargeTail (fates.large-tail all j large)) code))
    ]
  ]
    where
      of-word : (v : ℕ) → block_word new j ≡ v → IsTrue (is_block_code v) → v / 65536 ≡ 0 → IsUnowned new j
      of-word v is code nobody = record { code = subst (λ n. IsTrue (is_block_code n)) (sym is) code; owner = ap (λ n. n / 65536) is ∙ nobody }

  head-kept : (h : ℕ) → HasKind s h kinds.LargeHead → IsInUse r c base s new h → HasKind new h kinds.LargeHead × (class_at new h ≡ class_at s h)
  head-kept h head used = elim (fates.used-word all h used) as (λ _. HasKind new h kinds.LargeHead × (class_at new h ≡ class_at s h)) [
    | inl kept ↦ absurd (head-not-kept r c s h head kept.0)
    | inr same ↦ (let half = low-half (block_word s h) in
        (kind-from new h kinds.LargeHead used.there (ap (λ v. v % 256) same ∙ half.0 ∙ kind-code s h kinds.LargeHead head), ap (λ v. v / 256 % 256) same ∙ half.1))
  ]

  heads : (k : ℕ) → HasKind new k kinds.LargeHead → IsHeld new (block_start s.blocks k) × (2048 < size_at new (block_start s.blocks k))
  heads k now =
      let d = fates.kind-in-use all k kinds.LargeHead (λ e. omega arith) (λ e. omega arith) (λ e. omega arith) now in
      let x : ℕ = block_start s.blocks k in
      let there : IsHeld new x = subst (IsHeld new) (one-large s all.before.blocks k d.0.object d.1 d.0.span d.0.lives.held) (fates.lives-held all d.0.object d.0.lives) in
      (there, subst (λ n. 2048 < n) (sym (size-same x there)) (head-object s all.before.blocks k d.1).1)

  tails : (k : ℕ) → HasKind new k kinds.LargeTail → IsTrue (is_in_run new k)
  tails k now =
      let large : IsInLargeUse r c base s new k = fates.tail-in-use all k now in
      let kept = head-kept large.first large.head large.used in
      let past : large.first < k = large.past in
      let at : 0 + large.first ≡ large.first = omega arith in
      list_any_at (λ h. has_kind new h kinds.LargeHead && nat_lt k (h + class_at new h)) (range_with_len 0 k) large.first 0
      (subst (λ n. large.first < n) (sym (length-range_with_len 0 k)) past)
      (ap (λ h. has_kind new h kinds.LargeHead && nat_lt k (h + class_at new h)) (get_or-range_with_len 0 k large.first 0 past ∙ at)
      ∙ and_from (has_kind new large.first kinds.LargeHead) _ kept.0 (ap (λ n. nat_lt k (large.first + n)) kept.1 ∙ lt-ltb k (large.first + class_at s large.first) large.below))

  -- where objects lie
  module _ (a : ℕ) (lives : Lives base s a) where
    small-lies : (size : ℕ) → LiesInBlock s a size → LiesInBlock new a size
    small-lies size old =
        let used : IsInUse r c base s new (block_at s.blocks a) = fates.used-at all a lives
        (λ tail. true≢false (sym old.kind ∙ has_small-code s (block_at s.blocks a) kinds.LargeTail tail)) in
        record {
          address = old.address;
          within = old.within;
          kind = elim (fates.used-word all (block_at s.blocks a) used) as (λ _. IsTrue (has_small new (block_at s.blocks a))) [
            | inl kept ↦ has_small-code new (block_at s.blocks a) kinds.Kept (kind-from new (block_at s.blocks a) kinds.Kept used.there (ap (λ v. v % 256) kept.1))
            | inr same ↦ ap (λ v. is_small_code (nat_lt (block_at s.blocks a) s.blocks) v) (ap (λ v. v % 256) same ∙ (low-half (block_word s (block_at s.blocks a))).0) ∙ old.kind
          ];
          cell = λ is. let was = fates.used-kind all (block_at s.blocks a) kinds.Cells (λ e. omega arith) used is in
              let cell : LiesInCell s a size = old.cell was.0 in record {
                start = subst (λ n. offset_at s.blocks a % cell_words n ≡ 0) (sym was.1) cell.start;
                room = subst (λ n. size ≤ cell_words n) (sym was.1) cell.room;
                within = subst (λ n. offset_at s.blocks a + cell_words n ≤ 4096) (sym was.1) cell.within;
              };
        }

    large-lies : (size : ℕ) → LiesInRun s a size → LiesInRun new a size
    large-lies size old =
        let head : HasKind s (block_at s.blocks a) kinds.LargeHead = old.run.head in
        let used : IsInUse r c base s new (block_at s.blocks a) = fates.used-at all a lives (no-head-and-tail s (block_at s.blocks a) head) in
        let kept = head-kept (block_at s.blocks a) head used in
        record {
          address = old.address;
          start = old.start;
          run = record {
            head = kept.0;
            class = kept.1 ∙ old.run.class;
            inside = old.run.inside;
            tails = λ j some less. (let tail : HasKind s (block_at s.blocks a + j) kinds.LargeTail = old.run.tails j some less in
                let class : class_at s (block_at s.blocks a) ≡ blocks_for size = old.run.class in
                let word : block_word new (block_at s.blocks a + j) ≡ block_word s (block_at s.blocks a + j) =
                fates.tail-word all (block_at s.blocks a) (block_at s.blocks a + j) head used (omega arith) (omega arith) in
                kind-from new (block_at s.blocks a + j) kinds.LargeTail (kind-within s (block_at s.blocks a + j) kinds.LargeTail tail)
                (ap (λ v. v % 256) word ∙ kind-code s (block_at s.blocks a + j) kinds.LargeTail tail));
          };
        }

    lies-after : (size : ℕ) → Lies s a size → Lies new a size
    lies-after size old = record { small = λ small. small-lies size (old.small small); large = λ large. large-lies size (old.large large) }

  lies : (a : ℕ) → IsHeld new a → Lies new a (size_at new a)
  lies a there = let lives : Lives base s a = lives-of a there in
      subst (Lies new a) (sym (size-same a there)) (lies-after a lives (size_at s a) (object s all.before.blocks a lives.held).1)

  pub places : ArePlacesRight new
  places = record { lies = lies; heads = heads; tails = tails }

  -- a Free block is clear
  pub clear : (k : ℕ) → FreeBlockIsClear new k
  clear k free = let was : WasFreed base s new k = fates.free-freed all k free in record {
    empty = empty was;
    lines = λ line few set. true≢false (sym set ∙ was.freed.lines line few);
    marks = λ a at set. elim (or_cases (is_start new a || is_pinned new a) (is_unlogged new a) set) as (λ _. ⊥) [
      | inl either ↦ elim (or_cases (is_start new a) (is_pinned new a) either) as (λ _. ⊥) [
        | inl start ↦ nothing was a at (marks.held new a start)
        | inr pin ↦ nothing was a at (fates.marked-held all a (or_left (is_pinned new a) (is_unlogged new a) pin))
      ]
      | inr unlog ↦ nothing was a at (fates.marked-held all a (or_right (is_pinned new a) (is_unlogged new a) unlog))
    ];
  }
    where
      empty : WasFreed base s new k → (a i : ℕ) → IsHeld new a → IsInExtent new a i → block_at s.blocks i ≢ k
      empty was a i there inside at =
          let lives : Lives base s a = lives-of a there in
          was.none a (record {
            address = there.address;
            block = begins-in all.before was.first.first a i was.first.plain lives.held (inside-before a i there inside) (subst (IsOfSpan s was.first.first) (sym at) was.first.of);
          }) lives

      nothing : WasFreed base s new k → (a : ℕ) → block_at s.blocks a ≡ k → IsHeld new a → ⊥
      nothing was a at there = empty was a a there (record { from = omega arith; below = omega arith }) at

  -- the line bits of an Immix block are those of touched lines
  pub lines : (k : ℕ) → LineBitsAreExact new k
  lines k = record {
    marked = λ line now few set. let d = is-immix now in
        ∥∥₁_map (((all.after.each k d.0.there d.0.there d.0.plain).touched d.0.object line d.0.span d.0.lives d.1 few).0 set)
        (λ t. t.touched);
    touched = λ line now few t. let d = is-immix now in
        ((all.after.each k d.0.there d.0.there d.0.plain).touched d.0.object line d.0.span d.0.lives d.1 few).1 ∣ record { touched = t; here = here d.0 d.1 line few t } ∣₁;
  }
    where
      is-immix : HasKind new k kinds.Immix → IsInUse r c base s new k × HasKind s k kinds.Immix
      is-immix now = fates.kind-in-use all k kinds.Immix (λ e. omega arith) (λ e. omega arith) (λ e. omega arith) now

      here : IsInUse r c base s new k → HasKind s k kinds.Immix → (line : ℕ) → line < 256 → (t : IsTouched new k line) → block_at s.blocks t.object ≡ k
      here used immix line few t = let word = held-block_word new k line few t in
          elim (begins-in all.before k t.object word.0 used.plain (lives-of t.object t.held).held (inside-before t.object word.0 t.held word.1) (inl word.2)) as (λ _. block_at s.blocks t.object ≡ k) [
            | inl e ↦ e
            | inr later ↦ absurd (let e = one-kind s k kinds.LargeHead kinds.Immix later.0 immix in omega arith)
          ]
