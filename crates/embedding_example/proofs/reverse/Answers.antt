use Rattle.std.proofs.Common.{◌≤◌, arith}
use Rattle.embedding_example.proofs.Loops as loops
use Rattle.embedding_example.proofs.reverse.Goals as goal

pub loop-init : goal.loop-init
loop-init g c = record { ready = c.requires.ready; turns = λ xs few knows. loops.turn-begins g.P.Plan.rules c.args.heap.now xs c.args.count few knows }

pub pop-requires-clause-ready : goal.pop-requires-clause-ready
pop-requires-clause-ready g c = c.loop.invariant.ready

pub push-requires-clause-ready : goal.push-requires-clause-ready
push-requires-clause-ready g c κs within = c.in-Some.ensures.does.ready

pub loop-preserved : goal.loop-preserved
loop-preserved g c = record {
  ready = c.in_ok-push.ensures.ready;
  turns = λ xs few knows. loops.turn-more g.P.Plan.rules c.loop.heap c.pop.new.heap c.push.new.heap xs c.in-Some.number c.loop.counter c.args.count (c.loop.invariant.turns xs few knows)
      c.in-Some.ensures.first c.in-Some.ensures.does c.in_ok-push.ensures;
}

pub returns-in_default-clause-reversed : goal.returns-in_default-clause-reversed
returns-in_default-clause-reversed g c = λ xs few knows.
    loops.turn-stops g.P.Plan.rules c.loop.heap c.pop.new.heap xs c.pop.result c.loop.counter c.args.count (c.loop.invariant.turns xs few knows) c.in_default.not-Some c.pop.ensures.first c.pop.ensures.does

pub returns-clause-reversed : goal.returns-clause-reversed
returns-clause-reversed g c = λ xs few knows.
    let all : c.args.count ≤ c.loop.counter = omega arith in
    loops.turn-ends g.P.Plan.rules c.loop.heap xs c.loop.counter c.args.count (c.loop.invariant.turns xs few knows) all
