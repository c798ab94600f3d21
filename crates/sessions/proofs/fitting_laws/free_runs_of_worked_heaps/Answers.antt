use Rattle.std.proofs.Common.{refl, ◌≤◌, lit<, arith}
use Rattle.sessions.specs.WorkedFits.{mixed_heap, used_heap}
use Rattle.sessions.proofs.WorkedFits as worked
use Rattle.sessions.proofs.fitting_laws.free_runs_of_worked_heaps.Goals as goal

pub returns-clause-end : goal.returns-clause-end
returns-clause-end c = worked.free-run (used_heap 1) 1 3 (lit< tt) refl

pub returns-clause-before : goal.returns-clause-before
returns-clause-before c run = worked.wrong (run.free 0 (lit< tt))

pub returns-clause-beyond : goal.returns-clause-beyond
returns-clause-beyond c run = worked.wrong (run.free 3 (lit< tt))

pub returns-clause-one : goal.returns-clause-one
returns-clause-one c = worked.free-run mixed_heap 6 1 (lit< tt) refl

pub returns-clause-first : goal.returns-clause-first
returns-clause-first c run = worked.wrong (run.free 0 (lit< tt))

pub returns-clause-last : goal.returns-clause-last
returns-clause-last c run = worked.wrong (run.free 1 (lit< tt))

pub returns-clause-apart : goal.returns-clause-apart
returns-clause-apart c = worked.split-apart

pub returns-clause-past : goal.returns-clause-past
returns-clause-past c = (worked.free-run mixed_heap 8 0 (lit< tt) refl, λ run. let inside : 9 ≤ 8 = run.inside in omega arith)
