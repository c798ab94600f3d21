-- What tests of a block's words show of its bits and objects.
use Rattle.std.proofs.Common.{◌≡◌, ◌≢◌, refl, sym, ap, ◌∙◌, subst, ℕ, ◌+◌, ◌*◌, ◌/◌, ◌%◌, ◌^◌, ◌<◌, ◌≤◌, ◌⊎◌, inl, inr, Bool, true, false, true≢false, ◌||◌, IsTrue, nat_eq, arith, w64}
use Rattle.std.specs.Prelude.{not}
use Rattle.std.specs.Int.{bit_at, trailing_zeros}
use Rattle.std.proofs.lemmas.Bool.{cases_Bool, cases_eq, eq-eqb}
use Rattle.std.proofs.lemmas.Nat.Bits.{bit_at-trailing_zeros}
use Rattle.heap_layout.specs.Zones.{first, LineWords}
use Rattle.object_model.specs.Objects.{HeapState, word_at, line_marked, is_start, is_pinned, is_unlogged, refs_at, nums_at, size_at, shape_code}
use Rattle.object_model.specs.Lawful.{HasObject}
use Rattle.object_model.specs.declared.shape.Shape.{Shape}
use Rattle.releasable_rows.specs.BlockTests.{word_in_block, HasNoLine, ObjectsGoOn, HoldsSmall}

-- a start bit, as it was read
pub start-found : (s : HeapState) (a : ℕ) (read : Bool) → read ≡ is_start s a → not read ≡ false → IsTrue (is_start s a)
start-found s a true is set = sym is
start-found s a false is set = absurd (true≢false set)

-- a word of line bits of a block without a marked line
pub no-line-word : (s : HeapState) (k n i : ℕ) → HasNoLine s k → n < 4 → i ≡ first s.blocks LineWords + 4 * k + n → word_at s i < 2 ^ 64 → word_at s i ≢ 0 → ⊥
no-line-word s k n i none few at fits some =
    let v : ℕ = word_at s i in
    let t : ℕ = trailing_zeros w64 v in
    let lowest = bit_at-trailing_zeros w64 v (omega arith) fits in
    let low : t < 64 = lowest.0 in
    let word : i ≡ first s.blocks LineWords + (256 * k + (64 * n + t)) / 64 = omega arith in
    let bit : t ≡ (256 * k + (64 * n + t)) % 64 = omega arith in
    let marked : IsTrue (line_marked s k (64 * n + t)) =
    sym (ap (λ j. nat_eq (bit_at (word_at s j) ((256 * k + (64 * n + t)) % 64)) 1) word) ∙ sym (ap (λ j. nat_eq (bit_at v j) 1) bit) ∙ eq-eqb _ 1 lowest.1 in
    none (64 * n + t) (omega arith) marked

-- a shape word that has no code
pub no-shape : (s : HeapState) (a : ℕ) → ((x : Shape) → x.refs ≤ 1024 → x.nums ≤ 60000 → shape_code x.refs x.nums ≢ word_at s (a + 1)) → HasObject s a → ⊥
no-shape s a none object = none (record { refs = refs_at s a; nums = nums_at s a }) object.refs object.nums (omega arith)

-- the objects of block k before offset `to` end at `end`: it is the end of one of them, or 0 if there is none
abbrev pub EndsLast : HeapState → ℕ → ℕ → ℕ → Type 0
EndsLast s k to end = (end ≡ 0) ⊎ ((o : ℕ) × (o < to) × IsTrue (is_start s (word_in_block s k o)) × (end ≡ o + size_at s (word_in_block s k o)))

-- an object at an offset
module _ (s : HeapState) (k o end a size : ℕ) (at : a ≡ word_in_block s k o) (start : IsTrue (is_start s a)) where
  start-here : IsTrue (is_start s (word_in_block s k o))
  start-here = subst (λ x. IsTrue (is_start s x)) at start

  size-here : size ≡ size_at s a → size ≡ size_at s (word_in_block s k o)
  size-here is = is ∙ ap (size_at s) at

  pub ends-at : HasObject s a → size ≡ size_at s a → end ≤ o → size ≤ 2048 → o + size ≤ 4096 → ObjectsGoOn s k o end (o + size)
  ends-at object is after small inside = record {
    object = λ _. record {
      object = subst (HasObject s) at object;
      small = (let e = size-here is in omega arith);
      after = after;
      ends = (let e = size-here is in omega arith);
    };
    none = λ wrong. absurd (true≢false (sym start-here ∙ wrong));
    inside = inside;
    marks = λ _. start-here;
  }

  pub no-object : (HasObject s a → ⊥) → (next : ℕ) → ObjectsGoOn s k o end next → ⊥
  no-object none next on = none (subst (HasObject s) (sym at) (on.object start-here).object)

  pub not-inside : size ≡ size_at s a → (2048 < size) ⊎ (4096 < o + size) → (next : ℕ) → ObjectsGoOn s k o end next → ⊥
  not-inside is out next on =
      let e = size-here is in
      let small : size_at s (word_in_block s k o) ≤ 2048 = (on.object start-here).small in
      let ends : next ≡ o + size_at s (word_in_block s k o) = (on.object start-here).ends in
      let inside : next ≤ 4096 = on.inside in
      elim out [
        | inl large ↦ omega arith
        | inr far ↦ omega arith
      ]

-- what holds below o and at o
up-to : (P : ℕ → Type 0) (o : ℕ) → ((p : ℕ) → p < o → P p) → P o → (p : ℕ) → p < o + 1 → P p
up-to P o before here p below = elim (cases_eq p o) as (λ _. P p) [
  | inl same ↦ subst P (sym same) here
  | inr other ↦ before p (omega arith)
]

-- one offset more
module _ (s : HeapState) (k o end next : ℕ) (holds : HoldsSmall s k o end) (last : EndsLast s k o end) (on : ObjectsGoOn s k o end next) where
  abbrev Start : ℕ → Type 0
  Start p = IsTrue (is_start s (word_in_block s k p))

  grows : end ≤ next
  grows = elim (cases_Bool (is_start s (word_in_block s k o))) as (λ _. end ≤ next) [
    | inl start ↦ (let after = (on.object start).after in let ends = (on.object start).ends in omega arith)
    | inr none ↦ (let same = on.none none in omega arith)
  ]

  pub small-more : HoldsSmall s k (o + 1) next
  small-more = record {
    object = up-to (λ p. Start p → HasObject s (word_in_block s k p)) o holds.object (λ start. (on.object start).object);
    small = up-to (λ p. Start p → size_at s (word_in_block s k p) ≤ 2048) o holds.small (λ start. (on.object start).small);
    ends = up-to (λ p. Start p → p + size_at s (word_in_block s k p) ≤ next) o
        (λ p below start. (let most = holds.ends p below start in let more = grows in omega arith))
        (λ start. (let is = (on.object start).ends in omega arith));
    apart = λ p q before below. up-to (λ x. p < x → Start p → Start x → p + size_at s (word_in_block s k p) ≤ x) o
        (λ x less earlier. holds.apart p x earlier less)
        (λ earlier first second. (let most = holds.ends p earlier first in let after = (on.object second).after in omega arith)) q below before;
    marks = up-to (λ p. IsTrue (is_pinned s (word_in_block s k p) || is_unlogged s (word_in_block s k p)) → Start p) o holds.marks on.marks;
    inside = on.inside;
  }

  pub last-more : EndsLast s k (o + 1) next
  last-more = elim (cases_Bool (is_start s (word_in_block s k o))) as (λ _. EndsLast s k (o + 1) next) [
    | inl start ↦ inr (o, omega arith, start, (on.object start).ends)
    | inr none ↦ elim last as (λ _. EndsLast s k (o + 1) next) [
      | inl zero ↦ inl (on.none none ∙ zero)
      | inr some ↦ inr (some.0, (let below : some.0 < o = some.1 in omega arith), some.2, on.none none ∙ some.3)
    ]
  ]

-- where no end is found
module _ (s : HeapState) (k o end : ℕ) (below : o < 4096) (holds : HoldsSmall s k o end) (last : EndsLast s k o end) (all : HoldsSmall s k 4096 4096) where
  past-last : IsTrue (is_start s (word_in_block s k o)) → end ≤ o
  past-last start = elim last as (λ _. end ≤ o) [
    | inl zero ↦ omega arith
    | inr some ↦ (let before : some.0 < o = some.1 in let apart = all.apart some.0 o before below some.2 start in let is = some.3 in omega arith)
  ]

  pub goes-on : (next : ℕ) × ObjectsGoOn s k o end next
  goes-on = elim (cases_Bool (is_start s (word_in_block s k o))) as (λ _. (next : ℕ) × ObjectsGoOn s k o end next) [
    | inl start ↦ (
      o + size_at s (word_in_block s k o),
      record {
        object = λ _. record { object = all.object o below start; small = all.small o below start; after = past-last start; ends = refl };
        none = λ wrong. absurd (true≢false (sym start ∙ wrong));
        inside = all.ends o below start;
        marks = λ _. start;
      },
    )
    | inr none ↦ (
      end,
      record {
        object = λ wrong. absurd (true≢false (sym wrong ∙ none));
        none = λ _. refl;
        inside = holds.inside;
        marks = all.marks o below;
      },
    )
  ]

pub small-all : (s : HeapState) (k to end : ℕ) → 4096 ≤ to → HoldsSmall s k to end → HoldsSmall s k 4096 4096
small-all s k to end all holds =
    let most = holds.inside in record {
      object = λ o below. holds.object o (omega arith);
      small = λ o below. holds.small o (omega arith);
      ends = λ o below start. (let ends = holds.ends o (omega arith) start in omega arith);
      apart = λ o p before below. holds.apart o p before (omega arith);
      marks = λ o below. holds.marks o (omega arith);
      inside = omega arith;
    }
