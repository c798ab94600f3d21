use Rattle.std.proofs.Common.{refl}
use Rattle.trace_core.proofs.WorkedTraces.{cycle-ready, cycle-events, cycle-finished, cycle-asked, cycle-alone}
use Rattle.trace_core.proofs.examples.cycle_moves.Goals as goal

pub returns-clause-stages : goal.returns-clause-stages
returns-clause-stages c = refl

pub returns-clause-first : goal.returns-clause-first
returns-clause-first c = refl

pub returns-clause-second : goal.returns-clause-second
returns-clause-second c = refl

pub returns-clause-left : goal.returns-clause-left
returns-clause-left c = refl

pub returns-clause-sides : goal.returns-clause-sides
returns-clause-sides c = refl

pub returns-clause-trace : goal.returns-clause-trace
returns-clause-trace c = record { ready = cycle-ready; events = cycle-events }

pub returns-clause-asked : goal.returns-clause-asked
returns-clause-asked c = refl

pub returns-clause-finished : goal.returns-clause-finished
returns-clause-finished c = cycle-finished

pub returns-clause-roots : goal.returns-clause-roots
returns-clause-roots c = cycle-asked

pub returns-clause-alone : goal.returns-clause-alone
returns-clause-alone c = cycle-alone

pub returns-clause-targets : goal.returns-clause-targets
returns-clause-targets c = refl
