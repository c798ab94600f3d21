use Rattle.mutator_core.proofs.Beginnings.{log-ends}
use Rattle.mutator_core.proofs.Regions.{block-owner, unowned-lines, one-owner, listed-owned, owner-lists}
use Rattle.mutator_core.specs.Logs.{machine_after}
use Rattle.mutator_core.proofs.laws.blocks_have_one_owner.Goals as goal

pub returns-clause-owner : goal.returns-clause-owner
returns-clause-owner c p i log is = block-owner p is.ready (machine_after p log) (log-ends p i log is.ready is.represents is.steps).moment.epoch

pub returns-clause-lines : goal.returns-clause-lines
returns-clause-lines c p i log is = unowned-lines p is.ready (machine_after p log) (log-ends p i log is.ready is.represents is.steps).moment.epoch

pub returns-clause-apart : goal.returns-clause-apart
returns-clause-apart c p i log is = one-owner p is.ready (machine_after p log) (log-ends p i log is.ready is.represents is.steps).moment.epoch

pub returns-clause-listed : goal.returns-clause-listed
returns-clause-listed c p i log is = listed-owned p is.ready (machine_after p log) (log-ends p i log is.ready is.represents is.steps).moment.epoch

pub returns-clause-all : goal.returns-clause-all
returns-clause-all c p i log is = owner-lists p is.ready (machine_after p log) (log-ends p i log is.ready is.represents is.steps).moment.epoch
