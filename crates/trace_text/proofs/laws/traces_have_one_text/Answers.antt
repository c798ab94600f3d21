use Rattle.trace_text.proofs.WholeTraces.{trace_again, trace_alone}
use Rattle.trace_text.proofs.laws.traces_have_one_text.Goals as goal

pub returns-clause-again : goal.returns-clause-again
returns-clause-again c = trace_again

pub returns-clause-alone : goal.returns-clause-alone
returns-clause-alone c = λ front cs e. trace_alone front cs e
