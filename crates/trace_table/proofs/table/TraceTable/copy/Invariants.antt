use Rattle.trace_core.specs.Machine.{ByRoot}
use Rattle.trace_table.specs.Seats.{setup_at}
use Rattle.trace_table.proofs.table.TraceTable.copy.Given as goal

abbrev pub ghosts-token : goal.ghosts-token
ghosts-token a = record { setup = setup_at a.self.now; cause = ByRoot; object = a.won.object; target = a.won.target; index = 0; worker = 0 }
