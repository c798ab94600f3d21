use Rattle.std.proofs.Common.{◌≡◌, refl}
use Rattle.ideal_heap.specs.declared.command.Command.TheVariants as command
use Rattle.ideal_heap.specs.declared.reply.Reply.TheVariants as reply
use Rattle.embedding_example.specs.declared.TheConstants.{BUILDER, ARRAY, LAST_INDEX, LAST_NUMBER}
use Rattle.embedding_example.proofs.Steps as steps
use Rattle.embedding_example.proofs.Loops as loops
use Rattle.embedding_example.proofs.last_number.Goals as goal

pub returns-in-Num-clause-number : goal.returns-in-Num-clause-number
returns-in-Num-clause-number g c = λ xs ys knows.
    let reads = steps.access g.P.Plan.rules c.args.heap.now c.read.new.self BUILDER (command.Read ARRAY LAST_INDEX) (reply.Num c.in-Num.number) c.in-Num.ensures refl c.requires.ready in
    let last : reply.Num c.in-Num.number ≡ reply.Num LAST_NUMBER = loops.last-is g.P.Plan.rules c.args.heap.now c.read.new.self xs ys (reply.Num c.in-Num.number) knows c.in-Num.ensures in
    ((cc), loops.after-read g.P.Plan.rules c.args.heap.now c.read.new.self xs ys knows reads)

pub returns-in_default-clause-ready : goal.returns-in_default-clause-ready
returns-in_default-clause-ready g c =
    let reads = steps.access g.P.Plan.rules c.args.heap.now c.read.new.self BUILDER (command.Read ARRAY LAST_INDEX) c.read.result c.read.ensures refl c.requires.ready in
    reads.ready

pub returns-in_default-clause-number : goal.returns-in_default-clause-number
returns-in_default-clause-number g c = λ xs ys knows.
    absurd (c.in_default.not-Num LAST_NUMBER (loops.last-is g.P.Plan.rules c.args.heap.now c.read.new.self xs ys c.read.result knows c.read.ensures))
