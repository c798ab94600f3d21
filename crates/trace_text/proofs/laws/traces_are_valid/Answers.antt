use Rattle.trace_text.proofs.ValidLemmas.{trace_good}
use Rattle.trace_text.proofs.laws.traces_are_valid.Goals as goal

pub returns : goal.returns
returns c = λ bytes cs e. trace_good bytes cs e
