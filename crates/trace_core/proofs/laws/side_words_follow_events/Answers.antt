use Rattle.trace_core.proofs.Law.{sound}
use Rattle.trace_core.proofs.Clauses.{untaken-word, taken-block-word, stop-word}
use Rattle.trace_core.proofs.LineBits.{line-from, line-stays}
use Rattle.trace_core.proofs.laws.side_words_follow_events.Goals as goal

pub returns-clause-block : goal.returns-clause-block
returns-clause-block c = untaken-word

pub returns-clause-taken : goal.returns-clause-taken
returns-clause-taken c = taken-block-word

pub returns-clause-worker : goal.returns-clause-worker
returns-clause-worker c p es trace = (sound p es trace).sides.blocks.worker

pub returns-clause-stop : goal.returns-clause-stop
returns-clause-stop c = stop-word

pub returns-clause-line : goal.returns-clause-line
returns-clause-line c = line-from

pub returns-clause-lines : goal.returns-clause-lines
returns-clause-lines c p es trace = (sound p es trace).sides.lines.kept

pub returns-clause-stays : goal.returns-clause-stays
returns-clause-stays c = line-stays
