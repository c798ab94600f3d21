use Rattle.std.proofs.Common.{rules}
use Rattle.sessions.specs.Sessions.{first_moment}
use Rattle.driver.proofs.session_runs.run_to_end.Goals as goal

pub epochs-init : goal.epochs-init
epochs-init g c = (c.in_ok-manager.ensures.ready, λ t are blocks one traces. (first_moment t, c.in_ok-manager.ensures.closes t are blocks one traces))

pub epochs-preserved : goal.epochs-preserved
epochs-preserved g c = (
  c.in_ok-next.ensures.ready,
  λ t are blocks one traces.
      let at = c.epochs.invariant.1 t are blocks one traces in
      let next = c.in_ok-next.ensures.epoch t at.0 at.1 in
      (next.0, next.2),
)

pub returns-then-eq-clause-whole : goal.returns-then-eq-clause-whole
returns-then-eq-clause-whole g c t are blocks one traces =
    let at = c.epochs.invariant.1 t are blocks one traces in
    let next = c.in_ok-next.ensures.epoch t at.0 at.1 in
    (next.0, c.in_ok-next.ensures.whole (search rules) t next.0 next.2, next.2)
