use Rattle.session_counts.proofs.HeldRoom.{held-fit}
use Rattle.session_counts.proofs.OtherObjects.{size-in}
use Rattle.session_counts.proofs.laws.held_objects_fit.Goals as goal

pub returns : goal.returns
returns c s lawful = held-fit s lawful (λ a held. (size-in s lawful.order a held).least)
