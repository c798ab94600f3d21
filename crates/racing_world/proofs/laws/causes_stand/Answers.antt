use Rattle.racing_world.proofs.CausesStay.{cause-stays}
use Rattle.racing_world.proofs.laws.causes_stand.Goals as goal

pub returns : goal.returns
returns g c w old new call enters holds regions size cause is = cause-stays g.P.Plan.rules w old new call enters holds regions size cause is
