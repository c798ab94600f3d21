use Rattle.std.proofs.Common.{refl}
use Rattle.trace_core.proofs.examples.collector_word_is_copied_last.Goals as goal

pub returns : goal.returns
returns c = refl
