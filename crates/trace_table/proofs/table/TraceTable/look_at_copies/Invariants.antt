use Rattle.trace_core.specs.Machine.{ByRoot}
use Rattle.trace_words.specs.Rule.{setup_in}
use Rattle.trace_table.proofs.table.TraceTable.look_at_copies.Given as goal

abbrev pub ghosts-look_at_copies : goal.ghosts-look_at_copies
ghosts-look_at_copies a = record { setup = setup_in a.row.now.key; cause = ByRoot; object = 0; target = 0; index = 0; worker = 0 }
