use Rattle.std.proofs.Common.{◌≡◌, ◌↔◌, sym, ◌∙◌, subst, ℕ, IsTrue}
use Rattle.std.specs.Prelude.{MatchOption, is_some}
use Rattle.object_model.specs.Objects.{HeapState, state_over, blocks_for as blocks_for_size}
use Rattle.object_model.specs.Heaps.{heap_state}
use Rattle.sessions.specs.Grants.{BlockCounts, IsRunGrantable}
use Rattle.sessions.specs.Fitting.{MayGrantRun, IsFreeRun}
use Rattle.large_space.specs.FreeRuns.{IsFirstRun, HasNoRun}
use Rattle.plan_api.specs.Counting.{session_counts, session_reserve}
use Rattle.plan_api.proofs.BlockViews.{state-same}
use Rattle.plan_api.proofs.FreeRuns.{some-run}
use Rattle.plan_api.proofs.fit.has_run.Goals as goal

pub returns-then-is_run_grantable : goal.returns-then-is_run_grantable
returns-then-is_run_grantable c =
    let s : HeapState = heap_state c.args.heap.now in
    let words = c.words.result.now in
    let l = c.layout.result.now in
    let n : ℕ = blocks_for_size c.args.size in
    let count : c.blocks_for-count.result ≡ n = c.blocks_for-count.ensures in
    let same : s ≡ state_over words l s.number s.base = state-same s words l c.words.ensures c.layout.ensures in
    let searched = subst (λ (m : ℕ). MatchOption c.find_run.result (HasNoRun (state_over words l 0 0) m) (λ k. IsFirstRun (state_over words l 0 0) k m)) count c.find_run.ensures.run in
    let run = subst (λ (x : HeapState). IsTrue (is_some c.find_run.result) ↔ ((k : ℕ) × IsFreeRun x k n)) (sym same) (some-run words l s.number s.base n c.find_run.result searched) in
    let may : MayGrantRun (session_reserve c.args.reserve) s n =
    subst (λ (q : BlockCounts). IsRunGrantable (session_reserve c.args.reserve) q n) c.block_counts.ensures
    (subst (λ (m : ℕ). IsRunGrantable (session_reserve c.args.reserve) (session_counts c.block_counts.result) m) count (c.is_run_grantable.ensures.0 c.if-is_run_grantable.true)) in
    ((λ some. (may, run.0 (sym c.is_some.ensures ∙ some))), (λ both. c.is_some.ensures ∙ run.1 both.1))
