use Rattle.trace_words.proofs.OneShare.{one-claim}
use Rattle.trace_words.proofs.laws.each_object_is_claimed_once.Goals as goal

pub returns : goal.returns
returns c = λ p s keeps x. one-claim p s keeps x
