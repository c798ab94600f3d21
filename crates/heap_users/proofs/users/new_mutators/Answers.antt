use Rattle.std.proofs.Common.{◌≡◌, refl, sym, ◌∙◌, subst, ℕ, ◌≤◌, arith, List, map}
use Rattle.std.specs.List.{range_with_len}
use Rattle.object_model.specs.Objects.{empty_heap}
use Rattle.object_model.specs.Graphs.{MutatorState, new_mutator}
use Rattle.heap_users.specs.Users.{mutator_state}
use Rattle.heap_users.specs.Beginnings.{MayUse}
use Rattle.heap_users.proofs.NewUsers.{new-may-use, new-more, new-length}
use Rattle.heap_users.proofs.users.new_mutators.Goals as goal

pub loop-index-preserved : goal.loop-index-preserved
loop-index-preserved c = new-more c.loop-index.mutators.items c.push.new.self.items _ c.loop-index.index c.in_ok-push.ensures.items refl c.loop-index.invariant

pub returns-clause-states : goal.returns-clause-states
returns-clause-states c =
    let all : c.loop-index.index ≡ c.args.count = omega arith in
    subst (λ (n : ℕ). map mutator_state c.loop-index.mutators.items ≡ map new_mutator (range_with_len 1 n)) all c.loop-index.invariant

pub returns-clause-users : goal.returns-clause-users
returns-clause-users c = λ b least most.
    subst (λ (ms : List MutatorState). MayUse (empty_heap b) ms) (sym c.loop-index.invariant) (new-may-use b c.loop-index.index (let few : c.args.count ≤ 16 = c.requires.most in omega arith))

pub returns-clause-places : goal.returns-clause-places
returns-clause-places c =
    let many = new-length c.loop-index.mutators.items c.loop-index.index c.loop-index.invariant in
    let all : c.loop-index.index ≡ c.args.count = omega arith in
    many ∙ all
