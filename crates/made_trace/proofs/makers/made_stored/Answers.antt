use Rattle.made_trace.proofs.Making.{trace-valid}
use Rattle.stored_commands.proofs.Stretches.{trace-length}
use Rattle.made_trace.proofs.makers.made_stored.Goals as goal

pub returns-clause-valid : goal.returns-clause-valid
returns-clause-valid c = rw c.in_ok-trace.ensures (trace-valid c.args.n)

pub returns-clause-count : goal.returns-clause-count
returns-clause-count c = rw c.in_ok-trace.ensures (trace-length c.args.n)
