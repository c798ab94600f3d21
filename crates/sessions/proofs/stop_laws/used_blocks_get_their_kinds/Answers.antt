use Rattle.sessions.proofs.PlacedObjects as placed
use Rattle.sessions.proofs.stop_laws.used_blocks_get_their_kinds.Goals as goal

pub returns-clause-cells : goal.returns-clause-cells
returns-clause-cells c = placed.cells-word

pub returns-clause-young : goal.returns-clause-young
returns-clause-young c = placed.young-word

pub returns-clause-in_use : goal.returns-clause-in_use
returns-clause-in_use c = placed.used-stays

pub returns-clause-others : goal.returns-clause-others
returns-clause-others c = placed.used-others

pub returns-clause-run : goal.returns-clause-run
returns-clause-run c = placed.run-words

pub returns-clause-beside : goal.returns-clause-beside
returns-clause-beside c = placed.run-neighbours

pub returns-clause-globals : goal.returns-clause-globals
returns-clause-globals c = placed.changes-globals

pub returns-clause-words : goal.returns-clause-words
returns-clause-words c = placed.changes-neighbours
