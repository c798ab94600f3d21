-- The object of a large run is the only one that is held in its span.
use Rattle.std.proofs.Common.{◌≡◌, ◌≢◌, ℕ, ◌+◌, ◌-◌, ◌/◌, ◌<◌, ◌≤◌, inl, inr, Bool, true, false, true≢false, ◌&&◌, IsTrue, nat_le, nat_eq, sym, ap, ◌∙◌, subst, arith}
use Rattle.std.proofs.lemmas.Bool.{cases_Bool, cases_lt, and_parts, and_left, and_from, or_left, or_right, eqb-true}
use Rattle.heap_layout.specs.Zones.{block_at, offset_at, block_start, first, BlockWords, IsAddress}
use Rattle.heap_layout.specs.Blocks.{kind_of_code, is_valid_for_some}
use Rattle.heap_layout.specs.declared.block.Kind.TheVariants as kinds
use Rattle.object_model.specs.Objects.{HeapState, HasKind, IsHeld, word_at, block_word, class_at, owner_at, size_at, blocks_for, is_start, is_pinned, is_unlogged}
use Rattle.object_model.specs.Lawful.{IsRunOfBlocks, has_small}
use Rattle.object_model.specs.Releasing.{IsReleasable, InSpan}
use Rattle.object_model.specs.Ages.{Lives, is_survivor}
use Rattle.object_model.proofs.ObjectReads.{place_of_address}
use Rattle.object_model.proofs.OneKind.{kind-within, kind-code, one-kind, has_small-code}

-- whether the object survived, as it was read at its address
pub head-survives : (s : HeapState) (k base at : ℕ) (result truth : Bool) → at ≡ block_start s.blocks k + 0 → result ≡ is_survivor s base at → result ≡ truth
    → is_survivor s base (block_start s.blocks k) ≡ truth
head-survives s k base at result truth place read is =
    let here : at ≡ block_start s.blocks k = place ∙ (omega arith) in
    sym (ap (is_survivor s base) here) ∙ sym read ∙ is

module _ (s : HeapState) (k : ℕ) (can : IsReleasable s k) (head : HasKind s k kinds.LargeHead) where
  abbrev object : ℕ
  object = block_start s.blocks k

  pub there : k < s.blocks
  there = kind-within s k kinds.LargeHead head

  address : IsAddress s.blocks object
  address = let inside : k < s.blocks = there in record { from = omega arith; below = omega arith }

  here : block_at s.blocks object ≡ k
  here = omega arith

  pub object-span : InSpan s k object
  object-span = record { address = address; block = inl here }

  pub run : IsRunOfBlocks s k (blocks_for (size_at s object))
  run = subst (λ j. IsRunOfBlocks s j (blocks_for (size_at s object))) here ((can.objects object object-span (can.head head).0).1.large (can.head head).1).run

  pub some-blocks : 0 < class_at s k
  some-blocks = let class : class_at s k ≡ blocks_for (size_at s object) = run.class in let large : 2048 < size_at s object = (can.head head).1 in omega arith

  pub last-inside : k + class_at s k ≤ s.blocks
  last-inside = let class : class_at s k ≡ blocks_for (size_at s object) = run.class in let inside : k + blocks_for (size_at s object) ≤ s.blocks = run.inside in omega arith

  -- a head has no owner
  class-is : block_word s k / 256 ≡ class_at s k
  class-is =
      let valid : IsTrue (nat_le 1 (class_at s k) && nat_le (class_at s k) 15 && nat_eq (owner_at s k) 0) =
      subst (λ n. IsTrue (is_valid_for_some (kind_of_code n) (class_at s k) (owner_at s k))) (kind-code s k kinds.LargeHead head) can.code in
      let owner : owner_at s k ≡ 0 = eqb-true (owner_at s k) 0 (and_parts (nat_le 1 (class_at s k) && nat_le (class_at s k) 15) _ valid).1 in
      omega arith

  pub class-read : (at v : ℕ) → at ≡ first s.blocks BlockWords + k → v ≡ word_at s at → v / 256 ≡ class_at s k
  class-read at v place read = ap (λ w. w / 256) (read ∙ ap (word_at s) place) ∙ class-is

  tail : (j : ℕ) → k < j → j < k + class_at s k → HasKind s j kinds.LargeTail
  tail j after below =
      let class : class_at s k ≡ blocks_for (size_at s object) = run.class in
      let at : k + (j - k) ≡ j = omega arith in
      subst (λ i. HasKind s i kinds.LargeTail) at (run.tails (j - k) (omega arith) (omega arith))

  not-small : (a : ℕ) → InSpan s k a → has_small s (block_at s.blocks a) ≡ false
  not-small a span = elim span.block as (λ _. has_small s (block_at s.blocks a) ≡ false) [
    | inl same ↦ ap (has_small s) same ∙ has_small-code s k kinds.LargeHead head
    | inr later ↦ has_small-code s (block_at s.blocks a) kinds.LargeTail (tail (block_at s.blocks a) later.1 later.2)
  ]

  in-head : (a : ℕ) → InSpan s k a → HasKind s (block_at s.blocks a) kinds.LargeHead → block_at s.blocks a ≡ k
  in-head a span begins = elim span.block as (λ _. block_at s.blocks a ≡ k) [
    | inl same ↦ same
    | inr later ↦ absurd (let e = one-kind s (block_at s.blocks a) kinds.LargeHead kinds.LargeTail begins (tail (block_at s.blocks a) later.1 later.2) in omega arith)
  ]

  pub only-object : (a : ℕ) → InSpan s k a → IsHeld s a → a ≡ object
  only-object a span held =
      let lies = (can.objects a span held).1 in
      elim (cases_lt 2048 (size_at s a)) as (λ _. a ≡ object) [
        | inl large ↦
            let block : block_at s.blocks a ≡ k = in-head a span (lies.large large).run.head in
            let start : offset_at s.blocks a ≡ 0 = (lies.large large).start in
            let place = place_of_address s.blocks a span.address in
            omega arith
        | inr small ↦ absurd (true≢false (sym (lies.small small).kind ∙ not-small a span))
      ]

  pub no-start : (a : ℕ) → InSpan s k a → a ≢ object → is_start s a ≡ false
  no-start a span other = elim (cases_Bool (is_start s a)) as (λ _. is_start s a ≡ false) [
    | inl set ↦ absurd (other (only-object a span (record { address = span.address; start = set })))
    | inr none ↦ none
  ]

  pub no-pin : (a : ℕ) → InSpan s k a → a ≢ object → is_pinned s a ≡ false
  no-pin a span other = elim (cases_Bool (is_pinned s a)) as (λ _. is_pinned s a ≡ false) [
    | inl set ↦ absurd (other (only-object a span (can.marks a span (or_left (is_pinned s a) (is_unlogged s a) set))))
    | inr none ↦ none
  ]

  pub no-unlog : (a : ℕ) → InSpan s k a → a ≢ object → is_unlogged s a ≡ false
  no-unlog a span other = elim (cases_Bool (is_unlogged s a)) as (λ _. is_unlogged s a ≡ false) [
    | inl set ↦ absurd (other (only-object a span (can.marks a span (or_right (is_pinned s a) (is_unlogged s a) set))))
    | inr none ↦ none
  ]

  pub pin-held : (a : ℕ) → InSpan s k a → is_pinned s a ≡ (is_pinned s a && is_start s a)
  pin-held a span = elim (cases_Bool (is_pinned s a)) as (λ _. is_pinned s a ≡ (is_pinned s a && is_start s a)) [
    | inl set ↦ set ∙ sym (and_from (is_pinned s a) (is_start s a) set (can.marks a span (or_left (is_pinned s a) (is_unlogged s a) set)).start)
    | inr none ↦ none ∙ sym (and_left (is_pinned s a) (is_start s a) none)
  ]

  pub unlog-held : (a : ℕ) → InSpan s k a → is_unlogged s a ≡ (is_unlogged s a && is_start s a)
  unlog-held a span = elim (cases_Bool (is_unlogged s a)) as (λ _. is_unlogged s a ≡ (is_unlogged s a && is_start s a)) [
    | inl set ↦ set ∙ sym (and_from (is_unlogged s a) (is_start s a) set (can.marks a span (or_right (is_pinned s a) (is_unlogged s a) set)).start)
    | inr none ↦ none ∙ sym (and_left (is_unlogged s a) (is_start s a) none)
  ]

  pub object-lives : (base : ℕ) → is_survivor s base object ≡ true → Lives base s object
  object-lives base survives = record { held = (can.head head).0; survives = survives }

  pub none-lives : (base : ℕ) → is_survivor s base object ≡ false → (a : ℕ) → InSpan s k a → Lives base s a → ⊥
  none-lives base dead a span lives = true≢false (sym lives.survives ∙ ap (is_survivor s base) (only-object a span lives.held) ∙ dead)
