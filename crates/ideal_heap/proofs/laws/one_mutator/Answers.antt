use Rattle.ideal_heap.proofs.OrderLemmas as orders
use Rattle.ideal_heap.proofs.laws.one_mutator.Goals as goal

pub returns-clause-replies : goal.returns-clause-replies
returns-clause-replies c = orders.alone-of

pub returns-clause-prefix : goal.returns-clause-prefix
returns-clause-prefix c = orders.prefix_of_one

pub returns-clause-order : goal.returns-clause-order
returns-clause-order c = orders.order_of_one
