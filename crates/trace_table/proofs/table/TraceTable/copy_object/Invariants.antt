use Rattle.std.proofs.Common.{◌+◌}
use Rattle.trace_core.specs.Machine.{ByRoot}
use Rattle.trace_core.specs.Setups.{size}
use Rattle.trace_table.specs.Seats.{setup_at}
use Rattle.trace_table.proofs.table.TraceTable.copy_object.Given as goal

abbrev pub ghosts-copy_in_place : goal.ghosts-copy_in_place
ghosts-copy_in_place a = record { setup = setup_at a.self.now; cause = ByRoot; object = a.won.now.object; target = a.won.now.object; index = size (setup_at a.self.now) a.won.now.object; worker = 0 }

abbrev pub ghosts-set_unlog : goal.ghosts-set_unlog
ghosts-set_unlog a = record { setup = setup_at a.self.now; cause = ByRoot; object = a.won.now.object; target = a.won.now.target; index = size (setup_at a.self.now) a.won.now.object; worker = 0 }

abbrev pub ghosts-set_start : goal.ghosts-set_start
ghosts-set_start a = record { setup = setup_at a.self.now; cause = ByRoot; object = a.won.now.object; target = a.won.now.target; index = size (setup_at a.self.now) a.won.now.object + 1; worker = 0 }
