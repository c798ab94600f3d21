use Rattle.trace_words.proofs.WorkedSteps.{begins, seats, takes, claims, moves, copies, gives, scans, last, globals, whole, done}
use Rattle.trace_words.proofs.examples.share_makes_a_whole_trace.Goals as goal

pub returns-clause-begins : goal.returns-clause-begins
returns-clause-begins c = begins

pub returns-clause-seats : goal.returns-clause-seats
returns-clause-seats c = seats

pub returns-clause-takes : goal.returns-clause-takes
returns-clause-takes c = takes

pub returns-clause-claims : goal.returns-clause-claims
returns-clause-claims c = claims

pub returns-clause-moves : goal.returns-clause-moves
returns-clause-moves c = moves

pub returns-clause-copies : goal.returns-clause-copies
returns-clause-copies c = copies

pub returns-clause-gives : goal.returns-clause-gives
returns-clause-gives c = gives

pub returns-clause-scans : goal.returns-clause-scans
returns-clause-scans c = scans

pub returns-clause-last : goal.returns-clause-last
returns-clause-last c = last

pub returns-clause-globals : goal.returns-clause-globals
returns-clause-globals c = globals

pub returns-clause-whole : goal.returns-clause-whole
returns-clause-whole c = whole

pub returns-clause-done : goal.returns-clause-done
returns-clause-done c = done
