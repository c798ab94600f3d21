use Rattle.std.proofs.Common.{refl}
use Rattle.ideal_heap.specs.declared.command.Command.TheVariants as command
use Rattle.embedding_example.specs.declared.TheConstants.{BUILDER, ADDER, LIST, REVERSED}
use Rattle.embedding_example.proofs.Steps as steps
use Rattle.embedding_example.proofs.Loops as loops
use Rattle.embedding_example.proofs.hand_over.Goals as goal

pub returns-clause-list : goal.returns-clause-list
returns-clause-list g c = λ xs ys knows.
    let shares = steps.access g.P.Plan.rules c.args.heap.now c.share.new.self BUILDER (command.Share 0 REVERSED) c.share.result c.share.ensures refl c.requires.ready in
    let loads = steps.access g.P.Plan.rules c.share.new.self c.load.new.self ADDER (command.Load LIST 0) c.load.result c.load.ensures refl shares.ready in
    loops.handed g.P.Plan.rules c.args.heap.now c.share.new.self c.load.new.self xs ys shares loads knows
