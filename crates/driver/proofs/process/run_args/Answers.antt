use Rattle.driver.proofs.Ends.{starved, starved-reported}
use Rattle.driver.proofs.process.run_args.Goals as goal

pub returns-in_default-clause-ran : goal.returns-in_default-clause-ran
returns-in_default-clause-ran g c = rw c.in-Ok.is (starved _ _ _ _ _)

pub returns-in_default-clause-causes : goal.returns-in_default-clause-causes
returns-in_default-clause-causes g c = rw c.in-Ok.is (starved-reported _ _ _ _ c.write_memory_fault.ensures)
