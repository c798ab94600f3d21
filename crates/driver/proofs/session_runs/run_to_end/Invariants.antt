use Rattle.std.proofs.Common.{◌≡◌}
use Rattle.sessions.specs.Sessions.{Setting, Moment}
use Rattle.mm_runtime.specs.Managers.{left, Closes, ClosesSome}
use Rattle.driver.proofs.session_runs.run_to_end.Given as goal

abbrev pub invariant-epochs : goal.invariant-epochs
invariant-epochs g l = ClosesSome g.P.Plan.rules l.manager
    × ((t : Setting) → t.rules ≡ g.P.Plan.rules → t.blocks ≡ l.fn.layout.blocks → t.workers ≡ l.fn.workers → t.traces ≡ l.fn.traces.items
    → (now : Moment) × Closes g.P.Plan.rules l.manager t now)

abbrev pub decreases-epochs : goal.decreases-epochs
decreases-epochs g l = left l.manager.progress.items
