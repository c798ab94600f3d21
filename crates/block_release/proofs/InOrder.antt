-- After a finished trace blocks are released in order.
use Rattle.std.proofs.Common.{◌≡◌, sym, subst, refl, ℕ, ◌<◌, inl, inr, arith, false, IsTrue, List}
use Rattle.heap_layout.specs.declared.block.Kind.TheVariants as kinds
use Rattle.heap_layout.specs.Blocks.{is_block_code}
use Rattle.object_model.specs.declared.collect.Collect.{Collect}
use Rattle.object_model.specs.Objects.{HeapState, block_word, HasKind, line_marked}
use Rattle.object_model.specs.Releasing.{IsReleasable}
use Rattle.object_model.proofs.OneKind.{kind-code}
use Rattle.block_sweeps.specs.Sweeping.{IsOfSpan}
use Rattle.sessions.specs.Plans.{Rules}
use Rattle.trace_core.specs.Setups.{Setup, blocks}
use Rattle.trace_core.specs.Machine.{Event}
use Rattle.trace_core.specs.Traces.{IsTracing, IsFinished, machine_after, heap_after}
use Rattle.trace_core.specs.Outcomes.{base_after_trace}
use Rattle.trace_core.proofs.Releasable.{releasable}
use Rattle.block_release.specs.Released.{ReleasesBelow, none, one_more, AreReleased}
use Rattle.block_release.proofs.Metadata.{SameReads}
use Rattle.block_sweeps.proofs.LargeRuns.{no-head-and-tail, IsOfNone, some-or-none, span-tail}
use Rattle.block_release.proofs.Bare.{bare-releasable}
use Rattle.block_release.proofs.Releasables.{releasable-after}
use Rattle.block_release.proofs.Steps.{IsReleasedBelow, own-span, tail-bare, tail-word, one-more}

module _ (r : Rules) (c : Collect) (base : ℕ) (s : HeapState) (ready : (k : ℕ) → k < s.blocks → IsReleasable s k) where
  pub released-below : (mid : HeapState) (n : ℕ) → ReleasesBelow r c base s mid n → IsReleasedBelow r c base s mid n
  released-below _ _ none = record {
    rest = record { blocks = refl; others = λ i beside. refl };
    extent = refl;
    fit = λ few. few;
    each = λ k less. absurd (omega arith);
    later = λ j within apart. record { word = refl; lines = λ line few. refl; starts = λ a at. refl; pins = λ a at. refl; unlogs = λ a at. refl };
  }
  released-below _ _ (one_more {mid} {new} {n} before there release) = one-more r c base s ready mid n there (released-below mid n before) new release

  -- the next block may be released
  module _ (mid : HeapState) (n : ℕ) (there : n < s.blocks) (below : IsReleasedBelow r c base s mid n) where
    apart-reads : IsOfNone s n n → (j : ℕ) → IsOfSpan s n j → SameReads s mid j
    apart-reads apart j of = elim of as (λ _. SameReads s mid j) [
      | inl own ↦ subst (SameReads s mid) (sym own) (below.later n there apart)
      | inr run ↦ own-span r c base s ready mid n there below (no-head-and-tail s n run.0) j of
    ]

    module _ (h : ℕ) (less : h < n) (of : IsOfSpan s h n) where
      tail : HasKind s n kinds.LargeTail
      tail = span-tail s ready h n of (λ same. omega arith)

      not-head : HasKind mid n kinds.LargeHead → ⊥
      not-head head = let code = kind-code mid n kinds.LargeHead head in
          elim (tail-word r c base s ready mid n there below tail h less of) as (λ _. ⊥) [
            | inl same ↦ (let code' = kind-code s n kinds.LargeTail tail in omega arith)
            | inr freed ↦ (let zero : block_word mid n ≡ 0 = freed.word in omega arith)
          ]

      valid : IsTrue (is_block_code (block_word mid n))
      valid = elim (tail-word r c base s ready mid n there below tail h less of) as (λ _. IsTrue (is_block_code (block_word mid n))) [
        | inl same ↦ subst (λ w. IsTrue (is_block_code w)) (sym same) (ready n there).code
        | inr freed ↦ subst (λ w. IsTrue (is_block_code w)) (sym freed.word) refl
      ]

      no-line : HasKind mid n kinds.Free → (line : ℕ) → line < 256 → line_marked mid n line ≡ false
      no-line free line few = let code = kind-code mid n kinds.Free free in
          elim (tail-word r c base s ready mid n there below tail h less of) as (λ _. line_marked mid n line ≡ false) [
            | inl same ↦ absurd (let code' = kind-code s n kinds.LargeTail tail in omega arith)
            | inr freed ↦ freed.lines line few
          ]

      tail-releasable : IsReleasable mid n
      tail-releasable = bare-releasable mid n (tail-bare r c base s ready mid n there below tail h less of) valid not-head no-line

    next-releasable : IsReleasable mid n
    next-releasable = elim (some-or-none s n n) as (λ _. IsReleasable mid n) [
      | inl some ↦ tail-releasable some.0 some.1 some.2
      | inr apart ↦ releasable-after s mid ready below.rest n (apart-reads apart) (ready n there)
    ]

pub next : (p : Setup) (es : List Event) (r : Rules) (c : Collect) (mid : HeapState) (n : ℕ) → IsTracing p es → IsFinished p (machine_after p es)
    → ReleasesBelow r c (base_after_trace p) (heap_after p es) mid n → n < blocks p → IsReleasable mid n
next p es r c mid n trace finished below there =
    let now : IsReleasedBelow r c (base_after_trace p) (heap_after p es) mid n = released-below r c (base_after_trace p) (heap_after p es) (releasable p es trace finished) mid n below in next-releasable r c (base_after_trace p) (heap_after p es) (releasable p es trace finished) mid n there now

pub released : (p : Setup) (es : List Event) (r : Rules) (c : Collect) (mid : HeapState) (n : ℕ) → IsTracing p es → IsFinished p (machine_after p es)
    → ReleasesBelow r c (base_after_trace p) (heap_after p es) mid n → AreReleased r c (base_after_trace p) (heap_after p es) mid n
released p es r c mid n trace finished below =
    let now : IsReleasedBelow r c (base_after_trace p) (heap_after p es) mid n = released-below r c (base_after_trace p) (heap_after p es) (releasable p es trace finished) mid n below in
    record { blocks = now.rest.blocks; extent = now.extent; each = now.each; others = now.rest.others; fit = now.fit }
