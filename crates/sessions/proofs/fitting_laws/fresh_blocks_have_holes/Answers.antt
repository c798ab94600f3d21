use Rattle.std.proofs.Common.{◌+◌, arith}
use Rattle.sessions.proofs.EmptyHeapFits.{is-free}
use Rattle.sessions.specs.Plans.{rules_of}
use Rattle.sessions.proofs.HoleKinds.{clear-hole, plan-holed}
use Rattle.sessions.proofs.HoleRooms.{taken-hole}
use Rattle.sessions.proofs.fitting_laws.fresh_blocks_have_holes.Goals as goal

pub returns-clause-hole : goal.returns-clause-hole
returns-clause-hole c p s k size kind class clear small = clear-hole (rules_of p).fill s k size (plan-holed p) kind class clear small

pub returns-clause-taken : goal.returns-clause-taken
returns-clause-taken c p s k size right free small = taken-hole (rules_of p).fill s k size (plan-holed p) right free small

pub returns-clause-run : goal.returns-clause-run
returns-clause-run c b k n inside = record { inside = inside; free = λ j less. is-free b (k + j) (omega arith) }
