use Rattle.std.proofs.Common.{◌+◌, ◌≤◌, arith}
use Rattle.embedding_example.proofs.Loops as loops
use Rattle.embedding_example.proofs.sum.Goals as goal

pub loop-init : goal.loop-init
loop-init g c = record { ready = c.requires.ready; adds = λ xs few holds. loops.sum-begins g.P.Plan.rules c.args.heap.now (c.args.m + 1) c.args.s xs c.args.count few holds }

pub pop-requires-clause-ready : goal.pop-requires-clause-ready
pop-requires-clause-ready g c = c.loop.invariant.ready

pub loop-preserved : goal.loop-preserved
loop-preserved g c = record {
  ready = c.in-Some.ensures.does.ready;
  adds = λ xs few holds. loops.sum-more g.P.Plan.rules c.loop.heap c.pop.new.heap c.args.m c.args.s xs c.in-Some.number c.loop.total c.loop.counter c.args.count
      (c.loop.invariant.adds xs few holds) c.in-Some.ensures.first c.in-Some.ensures.does;
}

pub returns-in_default : goal.returns-in_default
returns-in_default g c = λ xs few holds.
    loops.sum-stops g.P.Plan.rules c.loop.heap (c.args.m + 1) c.args.s xs c.pop.result c.loop.total c.loop.counter c.args.count (c.loop.invariant.adds xs few holds) c.in_default.not-Some c.pop.ensures.first

pub returns : goal.returns
returns g c = λ xs few holds.
    let all : c.args.count ≤ c.loop.counter = omega arith in
    loops.sum-ends g.P.Plan.rules c.loop.heap (c.args.m + 1) c.args.s xs c.loop.total c.loop.counter c.args.count (c.loop.invariant.adds xs few holds) all
