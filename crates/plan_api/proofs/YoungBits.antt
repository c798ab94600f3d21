-- Young objects are looked for among the objects whose unlog bit is clear.
use Rattle.std.proofs.Common.{◌≡◌, sym, ◌∙◌, ap, subst, ℕ, ◌+◌, ◌*◌, ◌/◌, ◌%◌, ◌^◌, ◌<◌, ◌⊎◌, inl, inr, arith, Bool, true, false, ◌&&◌, ◌||◌, true≢false, nat_eq, eq-eqb, List, [], ◌∷◌, ◌++◌, zero-add, refl, map-id}
use Rattle.std.specs.Prelude.{not}
use Rattle.std.specs.List.{range_with_len, list_any}
use Rattle.std.specs.Int.{bit_at}
use Rattle.std.proofs.lemmas.Bool.{cases_eq, cases_lt, and_parts, and_from, false_from_ne_true}
use Rattle.std.proofs.lemmas.Nat.Bits.{bit_at-zero}
use Rattle.std.proofs.lemmas.List.Folds.{list_any-append, list_any_none, list_any_at}
use Rattle.std.proofs.lemmas.List.FromFn.{get_or-range_with_len, length-range_with_len, map-range_with_len_more}
use Rattle.heap_layout.specs.Blocks.{kind_code}
use Rattle.heap_layout.specs.declared.block.Kind.{Kind}
use Rattle.heap_layout.specs.declared.block.Kind.TheVariants as kinds
use Rattle.heap_layout.specs.declared.layout.Layout.{Layout}
use Rattle.heap_layout.specs.Zones.{row_words, block_start, block_at}
use Rattle.side_meta.specs.BitWords.{has_bit, without_bit}
use Rattle.side_meta.proofs.BitWords.{without-same, without-other, without-fits}
use Rattle.object_model.specs.Objects.{HeapState, HasKind, IsHeld, shown, state_over, size_at, is_start, is_unlogged}
use Rattle.object_model.specs.Ages.{is_old}
use Rattle.object_model.specs.Lawful.{Lies}
use Rattle.object_model.proofs.Marks.{held}
use Rattle.object_model.proofs.OneKind.{one-kind, has_small-code, is_small_code}
use Rattle.write_barrier.specs.Listed.{address_of, lacks_unlog_bit}
use Rattle.plan_api.specs.Ages.{AreReadable, is_young, BeginsYoungIn, begins_young}

-- ---- a test over a range
pub any-found : (p : ℕ → Bool) (n w : ℕ) → w < n → p w ≡ true → list_any p (range_with_len 0 n) ≡ true
any-found p n w within is =
    list_any_at p (range_with_len 0 n) w 0 (omega (arith, within, length-range_with_len 0 n)) (ap p (get_or-range_with_len 0 n w 0 within ∙ zero-add w) ∙ is)

pub any-none : (p : ℕ → Bool) (n : ℕ) → ((w : ℕ) → w < n → p w ≡ false) → list_any p (range_with_len 0 n) ≡ false
any-none p n none = list_any_none p (range_with_len 0 n) (λ w d within.
    let small : w < n = omega (arith, within, length-range_with_len 0 n) in
    ap p (get_or-range_with_len 0 n w d small ∙ zero-add w) ∙ none w small)

or-true : (b : Bool) → (b || true) ≡ true
or-true true = refl
or-true false = refl

or-false : (b : Bool) → (b || false) ≡ b
or-false true = refl
or-false false = refl

any-next : (p : ℕ → Bool) (n : ℕ) → list_any p (range_with_len 0 (n + 1)) ≡ (list_any p (range_with_len 0 n) || p n)
any-next p n =
    ap (list_any p) (range-more 0 n n (zero-add n)) ∙ list_any-append p (range_with_len 0 n) (n ∷ []) ∙ ap (λ b. list_any p (range_with_len 0 n) || b) (or-false (p n))
  where
    range-more : (a n j : ℕ) → a + n ≡ j → range_with_len a (n + 1) ≡ range_with_len a n ++ j ∷ []
    range-more a n j is = sym (map-id (range_with_len a (n + 1))) ∙ map-range_with_len_more (λ k. k) a n j is ∙ ap (λ l. l ++ j ∷ []) (map-id (range_with_len a n))

pub any-with : (p : ℕ → Bool) (n : ℕ) → p n ≡ true → list_any p (range_with_len 0 (n + 1)) ≡ true
any-with p n is = any-next p n ∙ ap (λ b. list_any p (range_with_len 0 n) || b) is ∙ or-true (list_any p (range_with_len 0 n))

pub any-without : (p : ℕ → Bool) (n : ℕ) → p n ≡ false → list_any p (range_with_len 0 (n + 1)) ≡ list_any p (range_with_len 0 n)
any-without p n not = any-next p n ∙ ap (λ b. list_any p (range_with_len 0 n) || b) not ∙ or-false (list_any p (range_with_len 0 n))

-- ---- a word of start bits

-- the bits that are left are of objects with a clear unlog bit, and no young one is passed over
pub record YoungLeft (s : HeapState) (i rest : ℕ) : Type 0 where
  pub fits : rest < 2 ^ 64
  pub within : (j : ℕ) → j < 64 → has_bit rest j ≡ true → lacks_unlog_bit s i j ≡ true
  pub left : (j : ℕ) → j < 64 → is_young s (address_of s i j) ≡ true → has_bit rest j ≡ true

pub young-begins : (s : HeapState) (i rest : ℕ) → rest < 2 ^ 64 → ((j : ℕ) → j < 64 → has_bit rest j ≡ lacks_unlog_bit s i j) → YoungLeft s i rest
young-begins s i rest fits bits = record {
  fits = fits;
  within = λ j small set. sym (bits j small) ∙ set;
  left = λ j small young. bits j small ∙ (and_parts (lacks_unlog_bit s i j) _ young).0;
}

module _ (s : HeapState) (i rest : ℕ) (word : YoungLeft s i rest) where
  -- none is left
  pub young-none : rest ≡ 0 → BeginsYoungIn s i → ⊥
  young-none none young =
      true≢false (sym (word.left young.bit young.within young.young) ∙ ap (λ v. has_bit v young.bit) none ∙ ap (λ v. nat_eq v 1) (bit_at-zero young.bit))

  module _ (b : ℕ) (low : b < 64) (set : bit_at rest b ≡ 1) where
    pub next-lacks : lacks_unlog_bit s i b ≡ true
    next-lacks = word.within b low (eq-eqb (bit_at rest b) 1 set)

    -- its object is young
    pub young-found : is_old s (address_of s i b) ≡ false → BeginsYoungIn s i
    young-found young = record {
      bit = b;
      within = low;
      young = and_from (lacks_unlog_bit s i b) (not (is_old s (address_of s i b))) next-lacks (ap not young);
    }

    -- its object is old: its bit goes
    pub young-next : is_old s (address_of s i b) ≡ true → YoungLeft s i (without_bit rest b)
    young-next old = record {
      fits = without-fits rest b word.fits;
      within = λ j small is. elim (cases_eq j b) as (λ _. lacks_unlog_bit s i j ≡ true) [
        | inl same ↦ absurd (true≢false (sym is ∙ ap (has_bit (without_bit rest b)) same ∙ ap (λ v. nat_eq v 1) (without-same rest b low)))
        | inr other ↦ word.within j small (sym (ap (λ v. nat_eq v 1) (without-other rest b j low small other)) ∙ is)
      ];
      left = λ j small young. elim (cases_eq j b) as (λ _. has_bit (without_bit rest b) j ≡ true) [
        | inl same ↦ absurd (true≢false (sym (and_parts (lacks_unlog_bit s i j) _ young).1 ∙ ap (λ n. not (is_old s (address_of s i n))) same ∙ ap not old))
        | inr other ↦ ap (λ v. nat_eq v 1) (without-other rest b j low small other) ∙ word.left j small young
      ];
    }

-- ---- the objects of readable blocks
module _ (words : List ℕ) (l : Layout) (readable : AreReadable words l) where
  lies : (a : ℕ) → IsHeld (shown words l) a → Lies (shown words l) a (size_at (shown words l) a)
  lies a holds =
      let from = holds.address.from in
      let below = holds.address.below in
      let there : block_at l.blocks a < l.blocks = omega (arith, from, below) in
      ((readable (block_at l.blocks a) there).objects a holds refl).1

  -- the header of an object is in the row
  pub header-inside : (a : ℕ) → is_start (shown words l) a ≡ true → a + 2 < row_words l.blocks
  header-inside a start =
      let s : HeapState = shown words l in
      let holds : IsHeld s a = held s a start in
      let at = lies a holds in
      let from = holds.address.from in
      let below = holds.address.below in
      elim (cases_lt 2048 (size_at s a)) as (λ _. a + 2 < row_words l.blocks) [
        | inl large ↦ (let first = (at.large large).start in omega (arith, from, below, first))
        | inr small ↦ (let within = (at.small small).within in omega (arith, from, below, within))
      ]

  -- no object begins in a Free block or a tail
  none-held : (k : ℕ) → (HasKind (shown words l) k kinds.Free ⊎ HasKind (shown words l) k kinds.LargeTail) → (a : ℕ) → block_at l.blocks a ≡ k → is_start (shown words l) a ≡ true → ⊥
  none-held k is a at start =
      let s : HeapState = shown words l in
      let places = lies a (held s a start) in
      let other : (kind : Kind) → is_small_code true (kind_code kind) ≡ false → (kind_code kind ≡ 6 → ⊥) → HasKind s k kind → ⊥ = λ kind not_small not_head has.
      let here : HasKind s (block_at l.blocks a) kind = subst (λ n. HasKind s n kind) (sym at) has in
      elim (cases_lt 2048 (size_at s a)) as (λ _. ⊥) [
        | inl large ↦ not_head (one-kind s (block_at l.blocks a) kind kinds.LargeHead here (places.large large).run.head)
        | inr small ↦ true≢false (sym (places.small small).kind ∙ has_small-code s (block_at l.blocks a) kind here ∙ not_small)
      ] in
      elim is as (λ _. ⊥) [ inl free ↦ other kinds.Free refl (λ e. cc) free | inr tail ↦ other kinds.LargeTail refl (λ e. cc) tail ]

  pub none-there : (base k : ℕ) → (HasKind (shown words l) k kinds.Free ⊎ HasKind (shown words l) k kinds.LargeTail) → begins_young (state_over words l 0 base) k ≡ false
  none-there base k is =
      let s : HeapState = state_over words l 0 base in
      any-none (λ w. is_young s (block_start l.blocks k + w)) 4096 (λ w small.
      let at : block_at l.blocks (block_start l.blocks k + w) ≡ k = omega (arith, small) in
      false_from_ne_true _ (λ young.
      let lacks = and_parts (is_start s (block_start l.blocks k + w) && not (is_unlogged s (block_start l.blocks k + w))) _ young in
      none-held k is (block_start l.blocks k + w) at (and_parts (is_start s (block_start l.blocks k + w)) _ lacks.0).0))

-- ---- a block
module _ (s : HeapState) (k : ℕ) where
  pub young-in-block : (i : ℕ) → i < 64 → BeginsYoungIn s (64 * k + i) → begins_young s k ≡ true
  young-in-block i small young =
      let at : address_of s (64 * k + i) young.bit ≡ block_start s.blocks k + (64 * i + young.bit) = omega arith in
      let within = young.within in
      any-found (λ w. is_young s (block_start s.blocks k + w)) 4096 (64 * i + young.bit) (omega (arith, small, within)) (ap (is_young s) (sym at) ∙ young.young)

  pub none-in-block : ((i : ℕ) → i < 64 → BeginsYoungIn s (64 * k + i) → ⊥) → begins_young s k ≡ false
  none-in-block none =
      any-none (λ w. is_young s (block_start s.blocks k + w)) 4096 (λ w small.
      let at : address_of s (64 * k + w / 64) (w % 64) ≡ block_start s.blocks k + w = omega arith in
      false_from_ne_true _ (λ young. none (w / 64) (omega (arith, small)) (record { bit = w % 64; within = omega arith; young = ap (is_young s) at ∙ young })))
