use Rattle.std.proofs.Common.{arith, ℕ, ◌<◌, List, get_or}
use Rattle.mutator_calls.specs.declared.need.Mutator.{Mutator}
use Rattle.heap_users.proofs.UserLists.{nobody, get-read, each-more}
use Rattle.trace_tests.proofs.LargeObjects.{below-length}
use Rattle.trace_tests.proofs.ages.is_new_birth.Goals as goal

pub loop-mutator-preserved : goal.loop-mutator-preserved
loop-mutator-preserved c =
    let ms : List Mutator = c.args.mutators.now in
    let k : ℕ = c.loop-mutator.mutator-index in
    each-more (λ u. u.births < c.args.birth) ms k (get_or ms k nobody) c.loop-mutator.invariant (get-read ms k nobody c.loop-mutator-test.true) (omega arith)

pub returns : goal.returns
returns c _ k u is = c.loop-mutator.invariant k u (let below = below-length c.args.mutators.now k u is in omega arith) is
