use Rattle.outside.proofs.Pieces.{Stays}
use Rattle.outside.proofs.answers.read_once.Given as goal

-- the calls so far changed nothing
abbrev pub invariant-loop-turn : goal.invariant-loop-turn
invariant-loop-turn g l = Stays (g.R.Read.remaining l.fn.from) (g.R.Read.remaining l.from)
