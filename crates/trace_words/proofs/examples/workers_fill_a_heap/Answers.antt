use Rattle.trace_words.proofs.CrowdedSteps.{begins, claims, moves, leaves, left, lacks, stays, copies, asks, marks, all-blocks, all-lines, whole}
use Rattle.trace_words.proofs.examples.workers_fill_a_heap.Goals as goal

pub returns-clause-begins : goal.returns-clause-begins
returns-clause-begins c = begins

pub returns-clause-claims : goal.returns-clause-claims
returns-clause-claims c = claims

pub returns-clause-moves : goal.returns-clause-moves
returns-clause-moves c = moves

pub returns-clause-leaves : goal.returns-clause-leaves
returns-clause-leaves c = leaves

pub returns-clause-left : goal.returns-clause-left
returns-clause-left c = left

pub returns-clause-lacks : goal.returns-clause-lacks
returns-clause-lacks c = lacks

pub returns-clause-stays : goal.returns-clause-stays
returns-clause-stays c = stays

pub returns-clause-copies : goal.returns-clause-copies
returns-clause-copies c = copies

pub returns-clause-asks : goal.returns-clause-asks
returns-clause-asks c = asks

pub returns-clause-marks : goal.returns-clause-marks
returns-clause-marks c = marks

pub returns-clause-blocks : goal.returns-clause-blocks
returns-clause-blocks c = all-blocks

pub returns-clause-lines : goal.returns-clause-lines
returns-clause-lines c = all-lines

pub returns-clause-whole : goal.returns-clause-whole
returns-clause-whole c = whole
