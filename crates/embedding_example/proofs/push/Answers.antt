use Rattle.std.proofs.Common.{refl}
use Rattle.ideal_heap.specs.declared.command.Command.TheVariants as command
use Rattle.embedding_example.specs.declared.TheConstants.{BUILDER, NEW}
use Rattle.embedding_example.proofs.Steps as steps
use Rattle.embedding_example.proofs.push.Goals as goal

pub returns : goal.returns
returns g c =
    let made = c.in_ok-allocate.ensures in
    let linked = steps.access g.P.Plan.rules c.allocate.new.heap c.put.new.self BUILDER (command.Put NEW 0 c.args.s) c.put.result c.put.ensures refl made.ready in
    let filled = steps.access g.P.Plan.rules c.put.new.self c.write.new.self BUILDER (command.Write NEW 0 c.args.n) c.write.result c.write.ensures refl linked.ready in
    let moved = steps.access g.P.Plan.rules c.write.new.self c.move_register.new.self BUILDER (command.Move c.args.s NEW) c.move_register.result c.move_register.ensures refl filled.ready in
    record {
      ready = moved.ready;
      goes = λ i stands. moved.goes _ (filled.goes _ (linked.goes _ (made.goes i stands)));
    }
