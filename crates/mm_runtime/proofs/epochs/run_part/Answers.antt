use Rattle.mm_runtime.specs.Managers.{next_in_trace}
use Rattle.mm_runtime.proofs.PartsRun.{end-cause, end-raised}
use Rattle.mm_runtime.proofs.epochs.run_part.Goals as goal

pub returns-clause-cause : goal.returns-clause-cause
returns-clause-cause g c = end-cause g.P.Plan.rules c.run_part_at.new.part.seat (next_in_trace c.run_part_at.new.part.progress) c.run_part_at.new.part.end c.run_part_at.ensures.part.ended

pub returns-clause-raised : goal.returns-clause-raised
returns-clause-raised g c = end-raised g.P.Plan.rules c.run_part_at.new.part.seat (next_in_trace c.run_part_at.new.part.progress) c.run_part_at.new.part.end c.run_part_at.ensures.part.ended
