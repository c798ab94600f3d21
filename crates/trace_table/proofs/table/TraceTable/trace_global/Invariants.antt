use Rattle.trace_core.specs.Machine.{ByRoot}
use Rattle.trace_table.specs.Seats.{setup_at}
use Rattle.trace_table.proofs.table.TraceTable.trace_global.Given as goal

abbrev pub ghosts-settle_global : goal.ghosts-settle_global
ghosts-settle_global a = record { setup = setup_at a.self.now; cause = ByRoot; object = 0; target = 0; index = a.global; worker = 0 }
