use Rattle.trace_core.specs.Machine.{ByField}
use Rattle.trace_table.specs.Seats.{setup_at}
use Rattle.trace_table.proofs.table.TraceTable.scan_field.Given as goal

abbrev pub ghosts-follow_field : goal.ghosts-follow_field
ghosts-follow_field g a = record { setup = setup_at a.self.now; cause = ByField a.y a.k; object = a.r; target = a.r; index = 0; worker = 0 }
