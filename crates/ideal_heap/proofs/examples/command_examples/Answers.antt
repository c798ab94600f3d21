use Rattle.std.proofs.Common.{◌<◌, arith}
use Rattle.ideal_heap.proofs.examples.command_examples.Goals as goal

pub returns-clause-write : goal.returns-clause-write
returns-clause-write c valid = (let e : 18446744073709551616 < 18446744073709551616 = valid.2 in omega arith)

pub returns-clause-add : goal.returns-clause-add
returns-clause-add c valid = (let e : 18446744073709551616 < 18446744073709551616 = valid.2 in omega arith)

pub returns-clause-was : goal.returns-clause-was
returns-clause-was c valid = (let e : 18446744073709551616 < 18446744073709551616 = valid.2 in omega arith)

pub returns-clause-next : goal.returns-clause-next
returns-clause-next c valid = (let e : 18446744073709551616 < 18446744073709551616 = valid.3 in omega arith)
