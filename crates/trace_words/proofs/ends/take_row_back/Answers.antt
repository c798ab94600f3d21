use Rattle.trace_words.proofs.TraceEnds.{closes}
use Rattle.trace_words.specs.Rule.{setup_in}
use Rattle.trace_words.proofs.ends.take_row_back.Goals as goal

pub returns-clause-trace : goal.returns-clause-trace
returns-clause-trace c = closes (setup_in c.args.row.words.key) _ _ _ _ c.into_row.ensures.words.1
