use Rattle.std.proofs.Common.{refl, sym, true≢false, lit<}
use Rattle.trace_core.proofs.WorkedTraces.{cycle-ready}
use Rattle.trace_core.proofs.examples.setups_are_refused.Goals as goal

pub returns-clause-ready : goal.returns-clause-ready
returns-clause-ready c = cycle-ready

pub returns-clause-marked : goal.returns-clause-marked
returns-clause-marked c ready = true≢false (ready.unlogs 806)

pub returns-clause-forgotten : goal.returns-clause-forgotten
returns-clause-forgotten c ready = true≢false (sym (ready.remembers 810 0 refl (lit< tt) refl))

pub returns-clause-fixed : goal.returns-clause-fixed
returns-clause-fixed c ready = true≢false (ready.fixed refl 0)
