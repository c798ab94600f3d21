use Rattle.std.proofs.Common.{◌≡◌, subst, sym, ◌++◌, ◌∷◌, [], ℕ, List}
use Rattle.std.specs.Prelude.{slice_get, Some}
use Rattle.mm_runtime.specs.declared.progress.Progress.{Progress}
use Rattle.mm_runtime.specs.Managers.{traces_of, IsFresh}
use Rattle.mm_runtime.proofs.Begun as begun
use Rattle.mm_runtime.proofs.manager.all_progress.Goals as goal

pub loop-trace-preserved : goal.loop-trace-preserved
loop-trace-preserved c =
    let p = c.in_ok-new_progress.field-0 in
    let fresh = c.in_ok-new_progress.ensures in
    subst (λ (ps : List Progress). record { traces : traces_of ps ≡ c.loop-trace.yielded ++ c.in-Some.trace ∷ []; fresh : (k : ℕ) (p : Progress) → slice_get ps k ≡ Some p → IsFresh p.trace p })
    (sym c.in_ok-push.ensures.items)
    (record {
      traces = begun.traces-pushed c.loop-trace.progress.items c.loop-trace.yielded p c.in-Some.trace c.loop-trace.invariant.traces fresh.trace_is;
      fresh = begun.pushed (λ (q : Progress). IsFresh q.trace q) c.loop-trace.progress.items p c.loop-trace.invariant.fresh (begun.own-trace _ p fresh);
    })
