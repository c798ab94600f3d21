use Rattle.std.proofs.Common.{◌+◌, refl}
use Rattle.ideal_heap.specs.declared.command.Command.TheVariants as command
use Rattle.embedding_example.proofs.Lists as lists
use Rattle.embedding_example.proofs.Steps as steps
use Rattle.embedding_example.proofs.pop.Goals as goal

pub returns-in-Num-clause-does : goal.returns-in-Num-clause-does
returns-in-Num-clause-does g c =
    let first = steps.access g.P.Plan.rules c.args.heap.now c.read-first.new.self c.args.m (command.Read c.args.s 0) c.read-first.result c.read-first.ensures refl c.requires.ready in
    let rest = steps.access g.P.Plan.rules c.read-first.new.self c.get.new.self c.args.m (command.Get c.args.s c.args.s 0) c.get.result c.get.ensures refl first.ready in
    record { ready = rest.ready; goes = λ i stands. rest.goes _ (first.goes i stands) }

pub returns-in-Num-clause-first : goal.returns-in-Num-clause-first
returns-in-Num-clause-first g c = λ i xs stands list.
    lists.first-some i (c.args.m + 1) c.args.s c.in-Num.number xs c.read-first.result list
    (steps.replies g.P.Plan.rules c.args.heap.now c.read-first.new.self c.args.m (command.Read c.args.s 0) c.read-first.result c.read-first.ensures refl i stands) c.in-Num.is

pub returns-in_default-clause-does : goal.returns-in_default-clause-does
returns-in_default-clause-does g c =
    let first = steps.access g.P.Plan.rules c.args.heap.now c.read-first.new.self c.args.m (command.Read c.args.s 0) c.read-first.result c.read-first.ensures refl c.requires.ready in
    let rest = steps.access g.P.Plan.rules c.read-first.new.self c.get.new.self c.args.m (command.Get c.args.s c.args.s 0) c.get.result c.get.ensures refl first.ready in
    record { ready = rest.ready; goes = λ i stands. rest.goes _ (first.goes i stands) }

pub returns-in_default-clause-first : goal.returns-in_default-clause-first
returns-in_default-clause-first g c = λ i xs stands list.
    lists.first-none i (c.args.m + 1) c.args.s xs c.read-first.result list
    (steps.replies g.P.Plan.rules c.args.heap.now c.read-first.new.self c.args.m (command.Read c.args.s 0) c.read-first.result c.read-first.ensures refl i stands) c.in_default.not-Num
