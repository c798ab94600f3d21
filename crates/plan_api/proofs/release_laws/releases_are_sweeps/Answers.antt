use Rattle.plan_api.proofs.ReleasedBlocks as blocks
use Rattle.plan_api.proofs.release_laws.releases_are_sweeps.Goals as goal

pub returns-clause-small : goal.returns-clause-small
returns-clause-small c = λ r collect l base k old mid marked new there not-head not-tail sweep immix plain unlog.
    blocks.small l r collect base k old mid marked new there not-head sweep immix plain unlog not-tail

pub returns-clause-empty : goal.returns-clause-empty
returns-clause-empty c = λ r collect l base after k old new there. blocks.empty l r collect base after k old new

pub returns-clause-free : goal.returns-clause-free
returns-clause-free c = λ r collect l. blocks.free l r collect

pub returns-clause-tail : goal.returns-clause-tail
returns-clause-tail c = λ r collect l base k old is. blocks.tail l r collect base k old is

pub returns-clause-freed_run : goal.returns-clause-freed_run
returns-clause-freed_run c = λ r collect l. blocks.freed-run l r collect

pub returns-clause-living_run : goal.returns-clause-living_run
returns-clause-living_run c = λ r collect l. blocks.living-run l r collect
