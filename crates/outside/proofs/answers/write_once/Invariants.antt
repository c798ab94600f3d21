use Rattle.outside.proofs.Pieces.{Stays}
use Rattle.outside.proofs.answers.write_once.Given as goal

-- the calls so far changed nothing
abbrev pub invariant-loop-turn : goal.invariant-loop-turn
invariant-loop-turn g l = Stays (g.W.Write.contents l.fn.to) (g.W.Write.contents l.to)
