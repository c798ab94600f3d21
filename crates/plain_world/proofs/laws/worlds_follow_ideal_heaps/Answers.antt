use Rattle.std.proofs.Common.{sym, subst, map}
use Rattle.std.specs.List.{AllByRecursion}
use Rattle.ideal_heap.specs.Runs.{IsRun, heap_after_run}
use Rattle.object_model.specs.Objects.{state_of}
use Rattle.object_model.specs.Graphs.{Represents}
use Rattle.object_model.proofs.Representation as standing
use Rattle.sessions.specs.Sessions.{IsOfPart}
use Rattle.mutator_core.proofs.EpochEnds.{log-recorded}
use Rattle.mutator_core.specs.Logs.{heap_after, mutators_after, history_of}
use Rattle.heap_users.specs.Users.{mutator_state}
use Rattle.plain_row.proofs.EpochFacts as facts
use Rattle.plain_world.proofs.Closed.{mutators-same}
use Rattle.plain_world.proofs.laws.worlds_follow_ideal_heaps.Goals as goal

pub returns-clause-run : goal.returns-clause-run
returns-clause-run g c = λ p i part is.
    subst (IsRun i) is.history (facts.end p i is.log c.args.world.now.row is.at).run

pub returns-clause-represents : goal.returns-clause-represents
returns-clause-represents g c = λ p i part is.
    let w = c.args.world.now.row in
    subst (λ es. Represents (state_of w.row) (map mutator_state w.mutators.items) (heap_after_run i es)) is.history
    (subst (λ t. Represents t (map mutator_state w.mutators.items) (heap_after_run i (history_of p is.log))) (sym is.at.heap)
    (subst (λ ms. Represents (heap_after p is.log) ms (heap_after_run i (history_of p is.log))) (mutators-same p i is.log w is.at)
    (standing.represents (heap_after p is.log) (mutators_after p is.log) (heap_after_run i (history_of p is.log))
    (facts.end p i is.log w is.at).set (facts.moment p i is.log w is.at).models)))

pub returns-clause-part : goal.returns-clause-part
returns-clause-part g c = λ p i part is.
    subst (AllByRecursion IsOfPart) is.history (log-recorded p i is.log is.at.epoch).each
