use Rattle.trace_core.specs.Machine.{ByGlobal}
use Rattle.trace_table.specs.Seats.{setup_at}
use Rattle.trace_table.proofs.table.TraceTable.settle_global.Given as goal

abbrev pub ghosts-follow_global : goal.ghosts-follow_global
ghosts-follow_global g a = record { setup = setup_at a.self.now; cause = ByGlobal a.global; object = a.r; target = a.r; index = 0; worker = 0 }
