-- The blocks of a heap after a finished trace and the release of all blocks.
use Rattle.std.proofs.Common.{◌≡◌, ◌≢◌, refl, sym, ◌∙◌, ap, subst, ℕ, ◌+◌, ◌/◌, ◌%◌, ◌<◌, ◌≤◌, ◌⊎◌, inl, inr, arith, true, false, IsTrue, List}
use Rattle.std.proofs.lemmas.Bool.{cases_eq, or_right, cond-true, cond-false}
use Rattle.heap_layout.specs.Zones.{block_at, block_start}
use Rattle.heap_layout.specs.declared.block.Kind.TheVariants as kinds
use Rattle.heap_layout.specs.Blocks.{kind_code}
use Rattle.object_model.specs.declared.collect.Collect.{Collect}
use Rattle.object_model.specs.Objects.{HeapState, with_words, block_word, has_kind, HasKind, owner_at, class_at, IsHeld, IsInExtent, size_at, blocks_for}
use Rattle.object_model.specs.Ages.{Lives}
use Rattle.object_model.proofs.OneKind.{kind-code, kind-within, kind-from, one-kind}
use Rattle.sessions.specs.Plans.{Rules, Plan, rules_of}
use Rattle.sessions.specs.Collecting.{is_evacuated, IsEmptied, BlockAfter}
use Rattle.plan_api.specs.Releasing.{is_kept_after, word_after}
use Rattle.plan_api.proofs.EvacuationLaws.{none-large, kept-if, not-kept, immix-kept, copies-not-kept}
use Rattle.trace_core.specs.Setups.{Setup, blocks, collection}
use Rattle.trace_core.specs.Machine.{Event, taken_word}
use Rattle.trace_core.specs.Traces.{IsTracing, IsFinished, machine_after, heap_after, stage_of}
use Rattle.trace_core.specs.Outcomes.{base_after_trace, image, FinishedRow}
use Rattle.trace_core.proofs.Rows.{row}
use Rattle.trace_core.proofs.Releasable.{copy-low}
use Rattle.collector.proofs.EvacuatedKinds.{evacuated-kind}
use Rattle.collector.proofs.Given.{IsSetupUnder, kind-given}
use Rattle.block_release.proofs.KeptBlocks.{after-same}
use Rattle.block_sweeps.proofs.LargeRuns.{tail-of, tail-empty, one-large, head-object, object}
use Rattle.block_release.proofs.Fates as fates
use Rattle.block_release.proofs.Fates.{IsAllReleased, IsInUse, IsInLargeUse}
use Rattle.block_release.proofs.ReleasedBlocks as released_blocks

-- in any row whose blocks were released, a block without words of held objects is Free
module _ {r : Rules} {c : Collect} {base : ℕ} {s : HeapState} {v : List ℕ} {number age : ℕ} (all : IsAllReleased r c base s v number age) where
  abbrev new : HeapState
  new = record { words = v; blocks = s.blocks; number = number; base = age }

  word-of : (x i : ℕ) → IsHeld new x → IsInExtent s x i → IsInExtent new x i
  word-of x i there inside = record { from = inside.from; below = subst (λ n. i < x + n) (sym (fates.size-same all x there)) inside.below }

  -- a block in use has the first word of an object
  used-full : (k : ℕ) → IsInUse r c base s new k → IsEmptied new k → ⊥
  used-full k used empty =
      let x : ℕ = used.object in
      let there : IsHeld new x = fates.lives-held all x used.lives in
      elim used.span.block as (λ _. ⊥) [
        | inl here ↦ empty x x there (record { from = omega arith; below = omega arith }) here
        | inr later ↦ tail-empty s all.before.blocks (block_at s.blocks x) x (tail-of s all.before.blocks k (block_at s.blocks x) later.0 later.1 later.2) refl used.lives.held
      ]

  -- a later block of a run in use has words of its object
  tail-full : (k : ℕ) → IsInLargeUse r c base s new k → IsEmptied new k → ⊥
  tail-full k large empty =
      let h : ℕ = large.first in
      let x : ℕ = block_start s.blocks h in
      let head = head-object s all.before.blocks h large.head in
      let at : block_at s.blocks x ≡ h = omega arith in
      let lives : Lives base s x = subst (Lives base s) (one-large s all.before.blocks h large.used.object large.head large.used.span large.used.lives.held) large.used.lives in
      let there : IsHeld new x = fates.lives-held all x lives in
      let class : class_at s h ≡ blocks_for (size_at s x) = subst (λ j. class_at s j ≡ blocks_for (size_at s x)) at ((object s all.before.blocks x head.0).1.large head.1).run.class in
      let past : h < k = large.past in
      let below : k < h + class_at s h = large.below in
      empty x (block_start s.blocks k) there (word-of x (block_start s.blocks k) there (record { from = omega arith; below = omega arith })) (omega arith)

  pub emptied-free : (k : ℕ) → k < s.blocks → IsEmptied new k → HasKind new k kinds.Free
  emptied-free k there empty = elim (fates.fate all k there) as (λ _. HasKind new k kinds.Free) [
    | inl was ↦ fates.freed-free all k there was
    | inr some ↦ elim some as (λ _. HasKind new k kinds.Free) [
      | inl used ↦ absurd (used-full k used empty)
      | inr large ↦ absurd (tail-full k large empty)
    ]
  ]

  -- what is not emptied is in use
  in-use : (k : ℕ) → k < s.blocks → (IsEmptied new k → ⊥) → IsInUse r c base s new k ⊎ IsInLargeUse r c base s new k
  in-use k there full = elim (fates.fate all k there) as (λ _. IsInUse r c base s new k ⊎ IsInLargeUse r c base s new k) [
    | inl was ↦ absurd (full (released_blocks.clear all k (fates.freed-free all k there was)).empty)
    | inr some ↦ some
  ]

module _ {q : Plan} {c : Collect} {p : Setup} {u : List ℕ} (under : IsSetupUnder q c p u) {es : List Event} (trace : IsTracing p es) (finished : IsFinished p (machine_after p es))
    {v : List ℕ} (all : IsAllReleased (rules_of q) c (base_after_trace p) (heap_after p es) v (collection p) (base_after_trace p)) where
  abbrev r : Rules
  r = rules_of q

  abbrev old : HeapState
  old = with_words p.before u

  abbrev after : HeapState
  after = heap_after p es

  abbrev now : HeapState
  now = record { words = v; blocks = blocks p; number = collection p; base = base_after_trace p }

  abbrev taken : ℕ → ℕ
  taken = (machine_after p es).taken

  left : FinishedRow p after (image (stage_of p es)) taken
  left = row p es trace finished

  -- a block that no worker took has its word, and no owner
  untaken-word : (k : ℕ) → k < blocks p → taken k ≡ 0 → block_word after k ≡ block_word old k
  untaken-word k there none = left.as_before k there none ∙ sym (under.like.blocks k there)

  untaken : (k : ℕ) → (HasKind old k kinds.Free → ⊥) → taken k ≡ 0
  untaken k used = elim (cases_eq (taken k) 0) as (λ _. taken k ≡ 0) [
    | inl none ↦ none
    | inr some ↦ (let differ : taken k ≢ 0 = some in absurd (used (kind-given under.like k kinds.Free ∙ left.was_free k (omega arith))))
  ]

  unowned : (k : ℕ) → k < blocks p → owner_at old k ≡ 0
  unowned k there = ap (λ w. w / 65536) (under.like.blocks k there) ∙ (trace.ready.lawful.blocks k there).owner

  large-before : (k : ℕ) → IsInLargeUse r c (base_after_trace p) after now k → HasKind after k kinds.LargeTail
  large-before k large = tail-of after all.before.blocks large.first k large.head large.past large.below

  -- a block that was Free and that no worker took stays Free
  pub still-free : (k : ℕ) → HasKind old k kinds.Free → taken k ≡ 0 → HasKind now k kinds.Free
  still-free k free none =
      let there : k < blocks p = kind-within old k kinds.Free free in
      let still : HasKind after k kinds.Free = kind-from after k kinds.Free there (ap (λ w. w % 256) (untaken-word k there none) ∙ kind-code old k kinds.Free free) in
      elim (fates.fate all k there) as (λ _. HasKind now k kinds.Free) [
        | inl was ↦ fates.freed-free all k there was
        | inr some ↦ elim some as (λ _. HasKind now k kinds.Free) [
          | inl used ↦ absurd (fates.used-not-free all k used still)
          | inr large ↦ absurd (let e = one-kind after k kinds.Free kinds.LargeTail still (large-before k large) in omega arith)
        ]
      ]

  used-word : (k : ℕ) → k < blocks p → taken k ≡ 0 → IsInUse r c (base_after_trace p) after now k → block_word now k ≡ word_after r c old k
  used-word k there none used = used.word ∙ after-same r old after k refl (untaken-word k there none) c

  -- a taken block has the kind that workers fill
  taken-kind : (k : ℕ) → HasKind old k kinds.Free → IsInUse r c (base_after_trace p) after now k ⊎ IsInLargeUse r c (base_after_trace p) after now k → HasKind now k r.copy
  taken-kind k free busy =
      let there : k < blocks p = kind-within old k kinds.Free free in
      elim (cases_eq (taken k) 0) as (λ _. HasKind now k r.copy) [
        | inl none ↦ (let still : HasKind after k kinds.Free = kind-from after k kinds.Free there (ap (λ w. w % 256) (untaken-word k there none) ∙ kind-code old k kinds.Free free) in
            elim busy as (λ _. HasKind now k r.copy) [
              | inl used ↦ absurd (fates.used-not-free all k used still)
              | inr large ↦ absurd (let e = one-kind after k kinds.Free kinds.LargeTail still (large-before k large) in omega arith)
            ])
        | inr some ↦ (let differ : taken k ≢ 0 = some in
            let word : block_word after k ≡ taken_word p (taken k) = left.of_worker k there (omega arith) in
            let low : kind_code p.copy ≤ 4 = copy-low p.copy trace.ready.kind in
            elim busy as (λ _. HasKind now k r.copy) [
              | inl used ↦ (let plain : word_after r c after k ≡ block_word after k % 65536 =
                  cond-false (is_kept_after r c after k) 8 (block_word after k % 65536) (copies-not-kept r c after k (omega arith)) in
                  let is : block_word now k ≡ word_after r c after k = used.word in
                  subst (HasKind now k) under.copy (kind-from now k p.copy there (omega arith)))
              | inr large ↦ absurd (let tail = kind-code after k kinds.LargeTail (large-before k large) in omega arith)
            ])
      ]

  -- an evacuated block without lines is Kept
  kept-kind : (k : ℕ) → IsTrue (is_evacuated r c old k) → (HasKind old k kinds.Immix → ⊥) → (HasKind old k kinds.Free → ⊥) → k < blocks p
      → IsInUse r c (base_after_trace p) after now k ⊎ IsInLargeUse r c (base_after_trace p) after now k → HasKind now k kinds.Kept
  kept-kind k from other some there busy =
      let none : taken k ≡ 0 = untaken k some in
      elim busy as (λ _. HasKind now k kinds.Kept) [
        | inl used ↦ (let is : is_kept_after r c old k ≡ true = kept-if r c old k (evacuated-kind old k q c from other) from (unowned k there) in
            kind-from now k kinds.Kept there (ap (λ w. w % 256) (used-word k there none used ∙ cond-true (is_kept_after r c old k) 8 (block_word old k % 65536) is)))
        | inr large ↦ absurd (none-large q c old k from (or_right (has_kind old k kinds.LargeHead) (has_kind old k kinds.LargeTail)
            (kind-from old k kinds.LargeTail there (ap (λ w. w % 256) (sym (untaken-word k there none)) ∙ kind-code after k kinds.LargeTail (large-before k large)))))
      ]

  -- the word of any other block is unchanged
  other-word : (k : ℕ) → (HasKind old k kinds.Free → ⊥) → (IsTrue (is_evacuated r c old k) → HasKind old k kinds.Immix) → k < blocks p
      → IsInUse r c (base_after_trace p) after now k ⊎ IsInLargeUse r c (base_after_trace p) after now k → block_word now k ≡ block_word old k
  other-word k some immix there busy =
      let none : taken k ≡ 0 = untaken k some in
      elim busy as (λ _. block_word now k ≡ block_word old k) [
        | inl used ↦ (let is : is_kept_after r c old k ≡ false = not-kept r c old k (λ kind from. immix-kept old k (immix from) kind) in
            let low : block_word old k / 65536 ≡ 0 = unowned k there in
            let same : block_word old k % 65536 ≡ block_word old k = omega arith in
            used-word k there none used ∙ cond-false (is_kept_after r c old k) 8 (block_word old k % 65536) is ∙ same)
        | inr large ↦ large.word ∙ untaken-word k there none
      ]

  pub block-after : (k : ℕ) → k < blocks p → BlockAfter r c old now k
  block-after k there = record {
    emptied = emptied-free all k there;
    taken = λ full free. taken-kind k free (in-use all k there full);
    kept = λ full from other some. kept-kind k from other some there (in-use all k there full);
    others = λ full some immix. other-word k some immix there (in-use all k there full);
  }
