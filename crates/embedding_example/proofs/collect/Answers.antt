use Rattle.embedding_example.proofs.Steps as steps
use Rattle.std.proofs.Common.{◌<◌, ◌∙◌, arith}
use Rattle.embedding_example.specs.Lists.{HoldsLists}
use Rattle.embedding_example.specs.declared.TheConstants.{BUILDER}
use Rattle.embedding_example.proofs.collect.Goals as goal

pub may_allocate-requires-clause-usable : goal.may_allocate-requires-clause-usable
may_allocate-requires-clause-usable g c = c.requires.ready.usable

pub may_allocate-requires-clause-place : goal.may_allocate-requires-clause-place
may_allocate-requires-clause-place g c = let two : BUILDER < 2 = omega arith in steps.has-place g.P.Plan.rules c.args.heap.now BUILDER c.requires.ready two

pub returns-2-clause-kept : goal.returns-2-clause-kept
returns-2-clause-kept g c = λ xs ys knows. record {
  ready = record { usable = c.in_ok-collect.ensures.made.usable; two = c.in_ok-collect.ensures.made.places ∙ c.requires.ready.two };
  holds = steps.kept g.P.Plan.rules c.args.heap.now c.collect.new.self (HoldsLists xs ys) c.in_ok-collect.ensures.made.history knows.holds;
}
