use Rattle.std.proofs.Common.{sym, subst}
use Rattle.sessions.specs.Sessions.{Moment}
use Rattle.mm_runtime.specs.declared.progress.PartEnd.{PartEnd}
use Rattle.mm_runtime.specs.Managers.{StandsAt}
use Rattle.mm_runtime.specs.Stops.{ServesEnd}
use Rattle.mm_runtime.proofs.NeedsServed.{adds-reply}
use Rattle.mm_runtime.proofs.manager.Manager.serve_end.Goals as goal

pub place_or_collect-requires-clause-next : goal.place_or_collect-requires-clause-next
place_or_collect-requires-clause-next g c κs within = c.requires.next c.in-Need.need c.in-Need.is

pub returns-clause-serves : goal.returns-clause-serves
returns-clause-serves g c = λ t now stands.
    subst (λ (e : PartEnd). (x : Moment) × ServesEnd t c.args.number e now x × StandsAt g.P.Plan.rules c.in_ok-manager.manager t x) (sym c.in-Need.is) (c.in_ok-manager.ensures.serves t now stands)

pub returns-clause-replies : goal.returns-clause-replies
returns-clause-replies g c =
    adds-reply g.P.Plan.rules c.args.self c.in_ok-manager.manager c.args.number c.in-Need.need.refs c.in-Need.need.nums c.in_ok-manager._placed c.requires.least c.in_ok-manager.ensures.placed
