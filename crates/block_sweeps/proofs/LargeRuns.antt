-- Large runs of a row whose blocks may all be released: the blocks and objects of their spans.
use Rattle.std.proofs.Common.{◌≡◌, ◌≢◌, sym, ◌∙◌, ap, subst, refl, ℕ, zero, suc, ◌+◌, ◌-◌, ◌<◌, ◌≤◌, ◌⊎◌, inl, inr, arith, true≢false, ◌&&◌}
use Rattle.std.proofs.lemmas.Bool.{cases_Bool, cases_eq, cases_lt, and_parts, and_from}
use Rattle.heap_layout.specs.Zones.{row_words, block_at, offset_at, block_start, IsAddress}
use Rattle.heap_layout.specs.declared.block.Kind.TheVariants as kinds
use Rattle.object_model.specs.Objects.{HeapState, has_kind, HasKind, class_at, is_start, IsHeld, size_at, blocks_for}
use Rattle.object_model.specs.Lawful.{HasObject, Lies, IsRunOfBlocks}
use Rattle.object_model.specs.Ages.{is_survivor, Lives}
use Rattle.object_model.specs.Releasing.{InSpan, IsReleasable}
use Rattle.object_model.proofs.OneKind.{kind-within, one-kind, has_small-code}
use Rattle.object_model.proofs.Marks as marks
use Rattle.block_sweeps.specs.Sweeping.{IsOfSpan, HasNoLiving}

-- a number below n has the property, or none has it
one-below : (P : ℕ → Type 0) → ((k : ℕ) → P k ⊎ (P k → ⊥)) → (n : ℕ) → ((k : ℕ) × (k < n) × P k) ⊎ ((k : ℕ) → k < n → P k → ⊥)
one-below P test zero = inr (λ k less is. absurd (omega arith))
one-below P test (suc n) = elim (one-below P test n) as (λ _. ((k : ℕ) × (k < suc n) × P k) ⊎ ((k : ℕ) → k < suc n → P k → ⊥)) [
  | inl some ↦ inl (some.0, (let less = some.1 in omega arith), some.2)
  | inr none ↦ elim (test n) as (λ _. ((k : ℕ) × (k < suc n) × P k) ⊎ ((k : ℕ) → k < suc n → P k → ⊥)) [
    | inl last ↦ inl (n, omega arith, last)
    | inr other ↦ inr (λ k less is. elim (cases_eq k n) as (λ _. ⊥) [
      | inl same ↦ other (subst P same is)
      | inr differ ↦ none k (omega arith) is
    ])
  ]
]

-- block j is, or is not, of the span of block k
span-or-not : (s : HeapState) (k j : ℕ) → IsOfSpan s k j ⊎ (IsOfSpan s k j → ⊥)
span-or-not s k j = elim (cases_eq j k) as (λ _. IsOfSpan s k j ⊎ (IsOfSpan s k j → ⊥)) [
  | inl own ↦ inl (inl own)
  | inr other ↦ elim (cases_lt k j) as (λ _. IsOfSpan s k j ⊎ (IsOfSpan s k j → ⊥)) [
    | inl later ↦ elim (cases_lt j (k + class_at s k)) as (λ _. IsOfSpan s k j ⊎ (IsOfSpan s k j → ⊥)) [
      | inl near ↦ elim (cases_Bool (has_kind s k kinds.LargeHead)) as (λ _. IsOfSpan s k j ⊎ (IsOfSpan s k j → ⊥)) [
        | inl head ↦ inl (inr (head, later, near))
        | inr small ↦ inr (λ span. elim span as (λ _. ⊥) [ inl own ↦ other own | inr run ↦ true≢false (sym run.0 ∙ small) ])
      ]
      | inr far ↦ inr (λ span. elim span as (λ _. ⊥) [ inl own ↦ other own | inr run ↦ (let near = run.2 in omega arith) ])
    ]
    | inr early ↦ inr (λ span. elim span as (λ _. ⊥) [ inl own ↦ other own | inr run ↦ (let later = run.1 in omega arith) ])
  ]
]

-- an object that lives begins in the span of block k, or none does
pub one-lives : (base : ℕ) (s : HeapState) (k : ℕ) → ((a : ℕ) × InSpan s k a × Lives base s a) ⊎ HasNoLiving base s (InSpan s k)
one-lives base s k = elim (one-below (λ a. InSpan s k a × Lives base s a) test (row_words s.blocks)) as (λ _. ((a : ℕ) × InSpan s k a × Lives base s a) ⊎ HasNoLiving base s (InSpan s k)) [
  | inl some ↦ inl (some.0, some.2.0, some.2.1)
  | inr none ↦ inr (λ a span lives. none a lives.held.address.below (span, lives))
]
  where
    test : (a : ℕ) → (InSpan s k a × Lives base s a) ⊎ (InSpan s k a × Lives base s a → ⊥)
    test a = elim (cases_Bool (is_start s a && is_survivor s base a)) as (λ _. (InSpan s k a × Lives base s a) ⊎ (InSpan s k a × Lives base s a → ⊥)) [
      | inl both ↦ (let parts = and_parts (is_start s a) (is_survivor s base a) both in
          let there : IsHeld s a = marks.held s a parts.0 in
          elim (span-or-not s k (block_at s.blocks a)) as (λ _. (InSpan s k a × Lives base s a) ⊎ (InSpan s k a × Lives base s a → ⊥)) [
            | inl of ↦ inl (record { address = there.address; block = of }, record { held = there; survives = parts.1 })
            | inr elsewhere ↦ inr (λ is. elsewhere is.0.block)
          ])
      | inr not_both ↦ inr (λ is. true≢false (sym (and_from (is_start s a) (is_survivor s base a) is.1.held.start is.1.survives) ∙ not_both))
    ]

-- block j is of the span of a block below n, or of none
abbrev pub IsOfSome : HeapState → ℕ → ℕ → Type 0
IsOfSome s n j = (k : ℕ) × (k < n) × IsOfSpan s k j

abbrev pub IsOfNone : HeapState → ℕ → ℕ → Type 0
IsOfNone s n j = (k : ℕ) → k < n → IsOfSpan s k j → ⊥

pub some-or-none : (s : HeapState) (n j : ℕ) → IsOfSome s n j ⊎ IsOfNone s n j
some-or-none s n j = one-below (λ k. IsOfSpan s k j) (λ k. span-or-not s k j) n

pub no-head-and-tail : (s : HeapState) (k : ℕ) → HasKind s k kinds.LargeHead → HasKind s k kinds.LargeTail → ⊥
no-head-and-tail s k head tail = let code = one-kind s k kinds.LargeHead kinds.LargeTail head tail in omega arith

pub run-tail : (s : HeapState) (h j n : ℕ) → IsRunOfBlocks s h n → h < j → j < h + n → HasKind s j kinds.LargeTail
run-tail s h j n run later near = let at : h + (j - h) ≡ j = omega arith in subst (λ i. HasKind s i kinds.LargeTail) at (run.tails (j - h) (omega arith) (omega arith))

module _ (s : HeapState) (ready : (k : ℕ) → k < s.blocks → IsReleasable s k) where
  pub object : (a : ℕ) → IsHeld s a → HasObject s a × Lies s a (size_at s a)
  object a held = let there : IsAddress s.blocks a = held.address in (ready (block_at s.blocks a) (omega arith)).objects a (record { address = held.address; block = inl refl }) held

  -- the object of a large run, and the run
  pub head-object : (h : ℕ) → HasKind s h kinds.LargeHead → IsHeld s (block_start s.blocks h) × (2048 < size_at s (block_start s.blocks h))
  head-object h head = (ready h (kind-within s h kinds.LargeHead head)).head head

  pub run-of : (h : ℕ) → HasKind s h kinds.LargeHead → IsRunOfBlocks s h (class_at s h)
  run-of h head =
      let large = head-object h head in
      let at : block_at s.blocks (block_start s.blocks h) ≡ h = omega arith in
      let size : ℕ = size_at s (block_start s.blocks h) in
      let run : IsRunOfBlocks s h (blocks_for size) = subst (λ k. IsRunOfBlocks s k (blocks_for size)) at ((object (block_start s.blocks h) large.0).1.large large.1).run in
      subst (IsRunOfBlocks s h) (sym run.class) run

  pub tail-of : (h j : ℕ) → HasKind s h kinds.LargeHead → h < j → j < h + class_at s h → HasKind s j kinds.LargeTail
  tail-of h j head later near = run-tail s h j (class_at s h) (run-of h head) later near

  pub span-tail : (k j : ℕ) → IsOfSpan s k j → j ≢ k → HasKind s j kinds.LargeTail
  span-tail k j span other = elim span as (λ _. HasKind s j kinds.LargeTail) [ inl own ↦ absurd (other own) | inr run ↦ tail-of k j run.0 run.1 run.2 ]

  pub span-within : (k j : ℕ) → k < s.blocks → IsOfSpan s k j → j < s.blocks
  span-within k j there span = elim span as (λ _. j < s.blocks) [ inl own ↦ subst (λ i. i < s.blocks) (sym own) there | inr run ↦ kind-within s j kinds.LargeTail (tail-of k j run.0 run.1 run.2) ]

  -- a block that is no tail shares no block of its span with the spans of earlier blocks
  pub spans-apart : (k n j : ℕ) → k < n → (HasKind s n kinds.LargeTail → ⊥) → IsOfSpan s k j → IsOfSpan s n j → ⊥
  spans-apart k n j less no_tail early late =
      let from : n ≤ j = (elim late as (λ _. n ≤ j) [ inl own ↦ omega arith | inr run ↦ (let after : n < j = run.1 in omega arith) ]) in
      elim early as (λ _. ⊥) [
        | inl own ↦ omega arith
        | inr run ↦ (let near : j < k + class_at s k = run.2 in no_tail (tail-of k n run.0 less (omega arith)))
      ]

  -- no object begins in a tail, and one alone in a run
  pub tail-empty : (j a : ℕ) → HasKind s j kinds.LargeTail → block_at s.blocks a ≡ j → IsHeld s a → ⊥
  tail-empty j a tail at held = elim (cases_lt 2048 (size_at s a)) as (λ _. ⊥) [
    | inl large ↦ no-head-and-tail s j (subst (λ k. HasKind s k kinds.LargeHead) at ((object a held).1.large large).run.head) tail
    | inr small ↦ (let kind = ((object a held).1.small small).kind in true≢false (sym kind ∙ has_small-code s (block_at s.blocks a) kinds.LargeTail (subst (λ k. HasKind s k kinds.LargeTail) (sym at) tail)))
  ]

  pub one-large : (h a : ℕ) → HasKind s h kinds.LargeHead → InSpan s h a → IsHeld s a → a ≡ block_start s.blocks h
  one-large h a head span held = elim span.block as (λ _. a ≡ block_start s.blocks h) [
    | inl own ↦ elim (cases_lt 2048 (size_at s a)) as (λ _. a ≡ block_start s.blocks h) [
      | inl large ↦ (let start : offset_at s.blocks a ≡ 0 = ((object a held).1.large large).start in
          let there : IsAddress s.blocks a = held.address in
          let at : block_at s.blocks a ≡ h = own in omega arith)
      | inr small ↦ absurd (let kind = ((object a held).1.small small).kind in true≢false (sym kind ∙ has_small-code s (block_at s.blocks a) kinds.LargeHead (subst (λ k. HasKind s k kinds.LargeHead) (sym own) head)))
    ]
    | inr run ↦ absurd (tail-empty (block_at s.blocks a) a (tail-of h (block_at s.blocks a) run.0 run.1 run.2) refl held)
  ]

  -- the object of a large run lives, or nothing does
  pub lives-or-not : (base h : ℕ) → HasKind s h kinds.LargeHead → Lives base s (block_start s.blocks h) ⊎ HasNoLiving base s (InSpan s h)
  lives-or-not base h head = elim (cases_Bool (is_survivor s base (block_start s.blocks h))) as (λ _. Lives base s (block_start s.blocks h) ⊎ HasNoLiving base s (InSpan s h)) [
    | inl survives ↦ inl (record { held = (head-object h head).0; survives = survives })
    | inr dead ↦ inr (λ a span lives. true≢false (sym lives.survives ∙ ap (is_survivor s base) (one-large h a head span lives.held) ∙ dead))
  ]
