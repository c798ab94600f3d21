use Rattle.racing_world.proofs.WorldLaws.{one-history}
use Rattle.racing_world.proofs.laws.seats_see_one_history.Goals as goal

pub returns : goal.returns
returns c rules g s one a b k l vs ws v w here this there that = one-history rules g one.log v w (one.agree a vs here k v this) (one.agree b ws there l w that)
