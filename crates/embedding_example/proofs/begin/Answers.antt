use Rattle.std.proofs.Common.{refl}
use Rattle.ideal_heap.specs.declared.command.Command.TheVariants as command
use Rattle.embedding_example.specs.declared.TheConstants.{BUILDER, ARRAY, LAST_INDEX, LAST_NUMBER}
use Rattle.embedding_example.proofs.Steps as steps
use Rattle.embedding_example.proofs.Loops as loops
use Rattle.embedding_example.proofs.begin.Goals as goal

pub returns : goal.returns
returns g c =
    let made = c.in_ok-allocate.ensures in
    let written = steps.access g.P.Plan.rules c.allocate.new.heap c.write.new.self BUILDER (command.Write ARRAY LAST_INDEX LAST_NUMBER) c.write.result c.write.ensures refl made.ready in
    loops.begins g.P.Plan.rules c.in_ok-heap.heap c.allocate.new.heap c.write.new.self c.in_ok-heap.ensures.entries made written
