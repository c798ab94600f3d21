use Rattle.trace_core.specs.Machine.{ByRoot}
use Rattle.trace_table.specs.Seats.{setup_at}
use Rattle.trace_table.proofs.table.TraceTable.ask.Given as goal

abbrev pub ghosts-ask_known : goal.ghosts-ask_known
ghosts-ask_known a = record { setup = setup_at a.self.now; cause = ByRoot; object = a.x; target = a.target; index = 0; worker = 0 }
