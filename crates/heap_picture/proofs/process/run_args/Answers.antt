use Rattle.std.proofs.Common.{refl}
use Rattle.heap_picture.proofs.Ends.{starved, starved_ran}
use Rattle.heap_picture.proofs.process.run_args.Goals as goal

pub returns-in_default-clause-ran : goal.returns-in_default-clause-ran
returns-in_default-clause-ran g c = rw c.in-Ok.is (starved _)

pub returns-in_default-clause-showed : goal.returns-in_default-clause-showed
returns-in_default-clause-showed g c = rw c.in-Ok.is (starved_ran _ _ _ _ _ _ _ refl c.write_memory_fault.ensures)
