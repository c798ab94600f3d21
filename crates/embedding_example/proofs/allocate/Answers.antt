use Rattle.std.proofs.Common.{◌<◌, arith}
use Rattle.embedding_example.specs.declared.TheConstants.{BUILDER}
use Rattle.embedding_example.proofs.Steps as steps
use Rattle.embedding_example.proofs.allocate.Goals as goal

pub may_allocate-requires-clause-place : goal.may_allocate-requires-clause-place
may_allocate-requires-clause-place g c = let two : BUILDER < 2 = omega arith in steps.has-place g.P.Plan.rules c.args.heap.now BUILDER c.requires.ready two

pub new_or_collect-requires-clause-place : goal.new_or_collect-requires-clause-place
new_or_collect-requires-clause-place g c κs within = let two : BUILDER < 2 = omega arith in steps.has-place g.P.Plan.rules c.args.heap.now BUILDER c.requires.ready two

pub returns-2 : goal.returns-2
returns-2 g c =
    steps.made g.P.Plan.rules c.args.heap.now c.new_or_collect.new.self BUILDER c.args.d c.args.refs c.args.nums c.in-Ok.field-0 c.requires.ready c.in-Ok.ensures.made
