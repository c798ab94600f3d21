use Rattle.racing_world.proofs.WorldLaws.{store-follows}
use Rattle.racing_world.proofs.laws.stores_follow_the_barrier.Goals as goal

pub returns : goal.returns
returns c = store-follows
