use Rattle.mm_runtime.specs.Managers.{next_in_trace}
use Rattle.mm_runtime.proofs.PartsRun.{end-cause, end-fresh, end-raised}
use Rattle.mm_runtime.proofs.seat_part.Part.end.Goals as goal

pub returns-clause-fresh : goal.returns-clause-fresh
returns-clause-fresh c rules ended = end-fresh rules c.args.self.now.seat (next_in_trace c.args.self.now.progress) c.args.self.now.end ended

pub returns-clause-cause : goal.returns-clause-cause
returns-clause-cause c rules ended = end-cause rules c.args.self.now.seat (next_in_trace c.args.self.now.progress) c.args.self.now.end ended

pub returns-clause-raised : goal.returns-clause-raised
returns-clause-raised c rules ended = end-raised rules c.args.self.now.seat (next_in_trace c.args.self.now.progress) c.args.self.now.end ended
