use Rattle.session_counts.proofs.FilledBlocks.{session-filled}
use Rattle.session_counts.proofs.OtherObjects.{other-sizes}
use Rattle.session_counts.proofs.laws.held_objects_fill_their_blocks.Goals as goal

pub returns : goal.returns
returns c t now xs lawful session each distinct = other-sizes now.heap lawful.order xs each distinct (session-filled t now session)
