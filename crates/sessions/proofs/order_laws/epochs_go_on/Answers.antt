use Rattle.sessions.proofs.GrowingHistories as growing
use Rattle.sessions.proofs.order_laws.epochs_go_on.Goals as goal

pub returns : goal.returns
returns c t before now epoch = growing.epoch-grows t before now epoch
