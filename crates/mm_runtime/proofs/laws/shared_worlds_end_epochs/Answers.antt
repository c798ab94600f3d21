use Rattle.mm_runtime.proofs.SharedWorlds.{ends-epoch}
use Rattle.mm_runtime.proofs.laws.shared_worlds_end_epochs.Goals as goal

pub returns : goal.returns
returns g c = λ rules t now seats new stands began calls ends nursery full workers. ends-epoch rules c.args.old.now new c.args.world.now t now seats stands began calls ends nursery full workers
