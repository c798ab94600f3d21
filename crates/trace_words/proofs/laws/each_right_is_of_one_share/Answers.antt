use Rattle.trace_words.proofs.OneShare.{one-copies, one-scans, none-scans, one-sets, has-once}
use Rattle.trace_words.proofs.laws.each_right_is_of_one_share.Goals as goal

pub returns-clause-copies : goal.returns-clause-copies
returns-clause-copies c = λ p s keeps i j v w at there x k l has too. one-copies p s keeps i j v w at there x k l has too

pub returns-clause-scans : goal.returns-clause-scans
returns-clause-scans c = λ p s keeps i j v w at there x k l has too. one-scans p s keeps i j v w at there x k l has too

pub returns-clause-apart : goal.returns-clause-apart
returns-clause-apart c = λ p s keeps i j v w at there x k l has. none-scans p s keeps i j v w at there x k l has

pub returns-clause-globals : goal.returns-clause-globals
returns-clause-globals c = λ p s keeps i j v w at there g has too. one-sets p s keeps i j v w at there g has too

pub returns-clause-once : goal.returns-clause-once
returns-clause-once c = λ p s keeps j v at x k g. has-once p s keeps j v at x k g
