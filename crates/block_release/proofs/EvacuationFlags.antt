-- After a trace its flags show which blocks were evacuated.
use Rattle.std.proofs.Common.{◌≡◌, refl, sym, ◌∙◌, ap, subst, ℕ, ◌+◌, ◌*◌, ◌/◌, ◌%◌, ◌<◌, inl, inr, arith, Bool, IsTrue, List}
use Rattle.std.proofs.lemmas.Bool.{cases_eq}
use Rattle.heap_layout.specs.Blocks.{kind_code}
use Rattle.heap_layout.specs.declared.block.Kind.TheVariants as kinds
use Rattle.heap_layout.specs.declared.layout.Layout.{Layout}
use Rattle.object_model.specs.declared.collect.Collect.{Collect}
use Rattle.object_model.specs.Objects.{HeapState, state_over, block_word}
use Rattle.object_model.specs.Releasing.{IsReleasable}
use Rattle.object_model.proofs.OneKind.{kind-code, kind-from}
use Rattle.sessions.specs.Plans.{Rules}
use Rattle.sessions.specs.Collecting.{is_evacuated}
use Rattle.trace_core.specs.Setups.{Setup, blocks}
use Rattle.trace_core.specs.Machine.{Event}
use Rattle.trace_core.specs.Traces.{IsTracing, IsFinished, machine_after, heap_after, stage_of}
use Rattle.trace_core.specs.Outcomes.{base_after_trace, image, FinishedRow}
use Rattle.trace_core.specs.declared.run.TraceRun.{TraceRun}
use Rattle.trace_core.proofs.Rows.{row}
use Rattle.trace_core.proofs.Releasable.{releasable}
use Rattle.plan_api.specs.Evacuation.{listed}
use Rattle.plan_api.specs.Releasing.{is_kept_kind}
use Rattle.plan_api.proofs.EvacuationLaws.{flag-of, other-kind}
use Rattle.block_release.specs.Released.{ReleasesBelow, FlagShowsEvacuation}
use Rattle.block_release.specs.Knowing.{IsTracedUnder}
use Rattle.block_sweeps.proofs.LargeRuns.{some-or-none, span-tail}
use Rattle.block_release.proofs.KeptBlocks.{kept_kind-same, evacuated-same}
use Rattle.block_release.proofs.Steps.{IsReleasedBelow, tail-word}
use Rattle.block_release.proofs.InOrder.{released-below}

-- a block with the same word
pub flag-same : (r : Rules) (c : Collect) (s t : HeapState) (k : ℕ) → t.blocks ≡ s.blocks → block_word t k ≡ block_word s k → (flag : Bool)
    → FlagShowsEvacuation r c s k flag → FlagShowsEvacuation r c t k flag
flag-same r c s t k blocks word flag shows kept none =
    let was : IsTrue (is_kept_kind s k) = sym (kept_kind-same r s t k blocks word) ∙ kept in
    evacuated-same r s t k blocks word r.reserve c was ∙ shows was (ap (λ v. v / 65536) (sym word) ∙ none)

-- the word of a taken block has an owner
owner-in : (v w code : ℕ) → v ≡ code + 256 * 0 + 65536 * (16 + w) → v / 65536 ≡ 0 → ⊥
owner-in v w code is none = omega arith

module _ (r : Rules) (run : TraceRun) (p : Setup) (es : List Event) (under : IsTracedUnder r run p) (trace : IsTracing p es) (finished : IsFinished p (machine_after p es)) where
  abbrev after : HeapState
  after = heap_after p es

  abbrev taken : ℕ → ℕ
  taken = (machine_after p es).taken

  left : FinishedRow p after (image (stage_of p es)) taken
  left = row p es trace finished

  pub flag-shows : (k : ℕ) → k < blocks p → FlagShowsEvacuation r run.collect after k (listed run.from.items k)
  flag-shows k there kept none =
      let within : k < under.heap.blocks = subst (λ b. k < b) under.blocks there in
      let flag : listed run.from.items k ≡ is_evacuated r run.collect under.heap k
      = ap (λ l. listed l k) under.under.from ∙ flag-of (is_evacuated r run.collect under.heap) under.heap.blocks k within in
      elim (cases_eq (taken k) 0) as (λ _. is_evacuated r run.collect after k ≡ listed run.from.items k) [
        | inl nobody ↦ flag-same r run.collect under.heap after k (left.layout ∙ under.blocks) (left.as_before k there nobody ∙ under.words k within) (listed run.from.items k) (λ _ _. sym flag) kept none
        | inr some ↦ absurd (owner-in (block_word after k) (taken k) (kind_code p.copy) (left.of_worker k there (omega (arith, some))) none)
      ]

-- the flag of the next block to release shows the same as before the release of others
module _ (r : Rules) (c : Collect) (base : ℕ) (s : HeapState) (ready : (k : ℕ) → k < s.blocks → IsReleasable s k) (mid : HeapState) (n : ℕ) (there : n < s.blocks)
    (below : IsReleasedBelow r c base s mid n) where
  within : n < mid.blocks
  within = subst (λ b. n < b) (sym below.rest.blocks) there

  flag-still : (flag : Bool) → FlagShowsEvacuation r c s n flag → FlagShowsEvacuation r c mid n flag
  flag-still flag was = elim (some-or-none s n n) as (λ _. FlagShowsEvacuation r c mid n flag) [
    | inl some ↦
        let tail = span-tail s ready some.0 n some.2 (λ same. let less : some.0 < n = some.1 in omega arith) in
        (λ kept _. elim (tail-word r c base s ready mid n there below tail some.0 some.1 some.2) as (λ _. is_evacuated r c mid n ≡ flag) [
          | inl same ↦ absurd (other-kind mid n kinds.LargeTail refl refl refl refl (kind-from mid n kinds.LargeTail within (ap (λ v. v % 256) same ∙ kind-code s n kinds.LargeTail tail)) kept)
          | inr freed ↦ absurd (other-kind mid n kinds.Free refl refl refl refl (kind-from mid n kinds.Free within (ap (λ v. v % 256) freed.word)) kept)
        ])
    | inr apart ↦ flag-same r c s mid n below.rest.blocks (below.later n there apart).word flag was
  ]

pub flag-next : (r : Rules) (run : TraceRun) (p : Setup) (es : List Event) (mid : HeapState) (n : ℕ) → IsTracedUnder r run p → IsTracing p es → IsFinished p (machine_after p es)
    → ReleasesBelow r run.collect (base_after_trace p) (heap_after p es) mid n → n < blocks p → FlagShowsEvacuation r run.collect mid n (listed run.from.items n)
flag-next r run p es mid n under trace finished below there =
    let ready : (k : ℕ) → k < blocks p → IsReleasable (heap_after p es) k = releasable p es trace finished in
    flag-still r run.collect (base_after_trace p) (heap_after p es) ready mid n there (released-below r run.collect (base_after_trace p) (heap_after p es) ready mid n below)
    (listed run.from.items n) (flag-shows r run p es under trace finished n there)

-- the numbers of a heap are no part of it
pub flag-again : (r : Rules) (c : Collect) (words : List ℕ) (l : Layout) (number base number' base' k : ℕ) (flag : Bool)
    → FlagShowsEvacuation r c (state_over words l number base) k flag → FlagShowsEvacuation r c (state_over words l number' base') k flag
flag-again r c words l number base number' base' k = flag-same r c (state_over words l number base) (state_over words l number' base') k refl refl
