use Rattle.block_release.proofs.InOrder.{next, released}
use Rattle.block_release.proofs.laws.blocks_are_released_in_order.Goals as goal

pub returns-clause-next : goal.returns-clause-next
returns-clause-next c = next

pub returns-clause-released : goal.returns-clause-released
returns-clause-released c = released
