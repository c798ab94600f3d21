use Rattle.trace_core.proofs.Idle.{finishes}
use Rattle.plain_tracer.proofs.LastBlocks.{traced}
use Rattle.plain_tracer.proofs.plain_trace.PlainTrace.close.Goals as goal

pub returns-clause-traced : goal.returns-clause-traced
returns-clause-traced c = λ p es v tracks. traced p es c.args.self v tracks

pub returns-clause-finished : goal.returns-clause-finished
returns-clause-finished c = λ p es v tracks idle. finishes p es tracks.trace v tracks.holds idle
