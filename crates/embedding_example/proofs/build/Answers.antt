use Rattle.embedding_example.proofs.Loops as loops
use Rattle.embedding_example.proofs.build.Goals as goal

pub push-requires-clause-ready : goal.push-requires-clause-ready
push-requires-clause-ready g c κs within = c.loop-number.invariant.ready

pub allocate-requires-clause-ready : goal.allocate-requires-clause-ready
allocate-requires-clause-ready g c κs within = c.in_ok-push.ensures.ready

pub loop-number-preserved : goal.loop-number-preserved
loop-number-preserved g c =
    loops.build-more g.P.Plan.rules c.loop-number.heap c.push.new.heap c.allocate.new.heap c.loop-number.number c.loop-number.invariant c.in_ok-push.ensures c.in_ok-allocate.ensures
