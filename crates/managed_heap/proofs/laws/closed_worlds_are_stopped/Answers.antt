use Rattle.managed_heap.proofs.EpochLaws as epochs
use Rattle.managed_heap.proofs.laws.closed_worlds_are_stopped.Goals as goal

pub returns-clause-stands : goal.returns-clause-stands
returns-clause-stands g c = λ rules old t now part stands ends. epochs.stands-after rules old c.args.heap.now t now part stands ends

pub returns-clause-stopped : goal.returns-clause-stopped
returns-clause-stopped g c = λ rules old t now part stands ends order notes flags. epochs.is-stopped rules old c.args.heap.now t now part stands ends order notes flags
