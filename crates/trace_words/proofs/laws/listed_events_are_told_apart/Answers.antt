use Rattle.trace_words.proofs.OneShare.{told-apart}
use Rattle.trace_words.proofs.laws.listed_events_are_told_apart.Goals as goal

pub returns : goal.returns
returns c = told-apart
