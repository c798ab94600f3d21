use Rattle.sessions.proofs.Orders as orders
use Rattle.sessions.proofs.order_laws.epochs_keep_the_order.Goals as goal

pub returns-clause-order : goal.returns-clause-order
returns-clause-order c t before stop collected served now ends = orders.epoch-order t before stop collected served now ends

pub returns-clause-whole : goal.returns-clause-whole
returns-clause-whole c t now = orders.session-whole t now
