use Rattle.plain_world.proofs.StoreLogs.{logs-object, sets-none, clears-one}
use Rattle.plain_world.proofs.laws.stores_log_old_objects.Goals as goal

pub returns-clause-logs : goal.returns-clause-logs
returns-clause-logs g c = λ rules new place s i v reply. logs-object rules c.args.world.now new place s i v reply

pub returns-clause-sets : goal.returns-clause-sets
returns-clause-sets g c = λ rules new place s i v reply x store. sets-none rules c.args.world.now new place s i v reply store x

pub returns-clause-clears : goal.returns-clause-clears
returns-clause-clears g c = λ rules new place s i v reply x store. clears-one rules c.args.world.now new place s i v reply store x
