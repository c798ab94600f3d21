use Rattle.trace_core.specs.Machine.{ByRoot}
use Rattle.trace_table.specs.Seats.{setup_at}
use Rattle.trace_table.proofs.table.TraceTable.claim.Given as goal

abbrev pub ghosts-claim_for : goal.ghosts-claim_for
ghosts-claim_for a = record { setup = setup_at a.self.now; cause = ByRoot; object = a.x; target = a.x; index = 0; worker = 0 }
