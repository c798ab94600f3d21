use Rattle.trace_text.proofs.ReaderLemmas.{ends}
use Rattle.trace_text.proofs.ValidLemmas.{read_valid, read_few}
use Rattle.trace_text.proofs.trace_reader.TraceReader.finish.Goals as goal

pub returns-clause-text : goal.returns-clause-text
returns-clause-text c = λ text had. ends c.args.self text c.finish.result c.read.new.self had (rw (← c.deref.ensures.value) c.in_ok-read.ensures) c.finish.ensures

pub returns-clause-valid : goal.returns-clause-valid
returns-clause-valid c = λ text had. read_valid text c.finish.result (returns-clause-text c text had)

pub returns-clause-few : goal.returns-clause-few
returns-clause-few c = λ text had. read_few text c.finish.result (returns-clause-text c text had)
