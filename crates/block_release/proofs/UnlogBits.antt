-- After a trace the unlog bits show what lives.
use Rattle.std.proofs.Common.{sym, ◌∙◌, ap, subst, ℕ, ◌<◌, inl, inr, arith, true≢false, List}
use Rattle.heap_layout.specs.Zones.{block_at, IsAddress}
use Rattle.heap_layout.specs.declared.layout.Layout.{Layout}
use Rattle.object_model.specs.declared.collect.Collect.{Collect}
use Rattle.object_model.specs.Objects.{HeapState, state_over}
use Rattle.object_model.specs.Releasing.{IsReleasable}
use Rattle.block_sweeps.specs.Sweeping.{InBlock}
use Rattle.sessions.specs.Plans.{Rules}
use Rattle.trace_core.specs.Setups.{Setup, blocks, held}
use Rattle.trace_core.specs.Machine.{Event}
use Rattle.trace_core.specs.Traces.{IsTracing, IsFinished, machine_after, heap_after}
use Rattle.trace_core.specs.Outcomes.{base_after_trace}
use Rattle.trace_core.proofs.Rows.{row}
use Rattle.trace_core.proofs.Releasable.{releasable}
use Rattle.block_release.specs.Released.{ReleasesBelow, UnlogBitsMarkSurvivors}
use Rattle.block_release.proofs.Metadata.{SameReads}
use Rattle.block_release.proofs.Alike.{SameRest, rest-back, reads-back, held-after, lives-after}
use Rattle.block_release.proofs.Bare.{IsBare}
use Rattle.block_sweeps.proofs.LargeRuns.{some-or-none, span-tail}
use Rattle.block_release.proofs.Steps.{IsReleasedBelow, tail-bare}
use Rattle.block_release.proofs.InOrder.{released-below}

pub marks : (p : Setup) (es : List Event) → IsTracing p es → IsFinished p (machine_after p es) → (k : ℕ) → UnlogBitsMarkSurvivors (base_after_trace p) (heap_after p es) k
marks p es trace finished k a here there = let both = (row p es trace finished).unlogs a in (both.1, both.0)

-- a block without objects
bare-marks : (base : ℕ) (s : HeapState) (k : ℕ) → IsBare s k → UnlogBitsMarkSurvivors base s k
bare-marks base s k bare a here held = absurd (true≢false (sym held.start ∙ bare.starts a here.block))

-- a block whose metadata reads the same
module _ (base : ℕ) (s t : HeapState) (rest : SameRest s t) (k : ℕ) (same : SameReads s t k) where
  back : SameReads t s k
  back = reads-back s t k rest.blocks same

  in-before : (a : ℕ) → InBlock t k a → InBlock s k a
  in-before a here = record { address = subst (λ b. IsAddress b a) rest.blocks here.address; block = ap (λ b. block_at b a) (sym rest.blocks) ∙ here.block }

  same-marks : UnlogBitsMarkSurvivors base s k → UnlogBitsMarkSurvivors base t k
  same-marks was a here held =
      let now = in-before a here in
      let shows = was a now (held-after t s (rest-back s t rest) k back a here.block held) in (
        (λ living. same.unlogs a now.block ∙ shows.0 (lives-after t s (rest-back s t rest) k back base a here.block living)),
        (λ set. lives-after s t rest k same base a now.block (shows.1 (sym (same.unlogs a now.block) ∙ set))),
      )

-- the unlog bits of the next block to release show the same as before the release of others
module _ (r : Rules) (c : Collect) (base : ℕ) (s : HeapState) (ready : (k : ℕ) → k < s.blocks → IsReleasable s k) (mid : HeapState) (n : ℕ) (there : n < s.blocks)
    (below : IsReleasedBelow r c base s mid n) where
  marks-still : UnlogBitsMarkSurvivors base s n → UnlogBitsMarkSurvivors base mid n
  marks-still was = elim (some-or-none s n n) as (λ _. UnlogBitsMarkSurvivors base mid n) [
    | inl some ↦ bare-marks base mid n (tail-bare r c base s ready mid n there below (span-tail s ready some.0 n some.2 (λ same. let less : some.0 < n = some.1 in omega arith)) some.0 some.1 some.2)
    | inr apart ↦ same-marks base s mid below.rest n (below.later n there apart) was
  ]

pub marks-next : (p : Setup) (es : List Event) (r : Rules) (c : Collect) (mid : HeapState) (n : ℕ) → IsTracing p es → IsFinished p (machine_after p es)
    → ReleasesBelow r c (base_after_trace p) (heap_after p es) mid n → n < blocks p → UnlogBitsMarkSurvivors (base_after_trace p) mid n
marks-next p es r c mid n trace finished below there =
    let ready : (k : ℕ) → k < blocks p → IsReleasable (heap_after p es) k = releasable p es trace finished in
    marks-still r c (base_after_trace p) (heap_after p es) ready mid n there (released-below r c (base_after_trace p) (heap_after p es) ready mid n below) (marks p es trace finished n)

-- the numbers of a heap are no part of it
pub marks-again : (age : ℕ) (words : List ℕ) (l : Layout) (number base number' base' k : ℕ) → UnlogBitsMarkSurvivors age (state_over words l number base) k → UnlogBitsMarkSurvivors age (state_over words l number' base') k
marks-again age words l number base number' base' k was a here held =
    let shows = was a (record { address = here.address; block = here.block }) (record { address = held.address; start = held.start }) in (
      (λ living. shows.0 (record { held = record { address = living.held.address; start = living.held.start }; survives = living.survives })),
      (λ set. record { held = held; survives = (shows.1 set).survives }),
    )
