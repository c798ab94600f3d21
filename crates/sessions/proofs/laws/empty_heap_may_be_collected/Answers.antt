use Rattle.sessions.proofs.CountedCollections.{collected-empty}
use Rattle.sessions.proofs.laws.empty_heap_may_be_collected.Goals as goal

pub returns : goal.returns
returns c p b workers n collects = collected-empty b n p workers collects
