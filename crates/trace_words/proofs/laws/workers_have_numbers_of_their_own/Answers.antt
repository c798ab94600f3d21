use Rattle.trace_words.proofs.OneShare.{one-number}
use Rattle.trace_words.proofs.laws.workers_have_numbers_of_their_own.Goals as goal

pub returns : goal.returns
returns c = λ p s keeps i j v w at there some-number same. one-number p s keeps i j v w at there some-number same
