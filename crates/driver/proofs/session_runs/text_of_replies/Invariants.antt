use Rattle.std.proofs.Common.{◌≡◌}
use Rattle.sessions.specs.Sessions.{Setting, Moment}
use Rattle.mm_runtime.specs.Managers.{Closes}
use Rattle.driver.specs.Texts.{replies_part}
use Rattle.driver.proofs.session_runs.text_of_replies.Given as goal

abbrev pub invariant-loop-m : goal.invariant-loop-m
invariant-loop-m g l = (t : Setting) (last : Moment) → Closes g.P.Plan.rules l.manager t last → l.text.items ≡ replies_part l.m last
