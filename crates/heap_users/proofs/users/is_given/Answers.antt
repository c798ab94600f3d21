use Rattle.std.proofs.Common.{◌≡◌, ◌≤◌, refl, arith, ℕ, List, get_or, false, true}
use Rattle.mutator_calls.specs.declared.need.Mutator.{Mutator}
use Rattle.heap_users.proofs.UserLists.{nobody, get-read, any-at, each-more, none-any}
use Rattle.heap_users.proofs.users.is_given.Goals as goal
use Rattle.heap_users.proofs.users.is_given.Goals.{else-name-mutator-via-then-name-mutator+else-name-mutator-2, else-name-mutator-via-else-name-mutator}

pub returns-then-name-mutator-2 : goal.returns-then-name-mutator-2
returns-then-name-mutator-2 c =
    let ms : List Mutator = c.args.mutators.now in
    let k : ℕ = c.loop-mutator.mutator-index in (
      λ _. any-at (λ m. (c.args.name.mutator ≡ m.number) × (c.args.name.birth ≤ m.births)) ms k (get_or ms k nobody)
          (get-read ms k nobody c.loop-mutator-test.true) (c.if-name-mutator.true, c.if-name-mutator-2.true),
      λ _. refl,
    )

pub loop-mutator-preserved : goal.loop-mutator-preserved
loop-mutator-preserved c =
    let ms : List Mutator = c.args.mutators.now in
    let k : ℕ = c.loop-mutator.mutator-index in
    let x : Mutator = get_or ms k nobody in
    each-more (λ m. (c.args.name.mutator ≡ m.number) × (c.args.name.birth ≤ m.births) → ⊥) ms k x c.loop-mutator.invariant (get-read ms k nobody c.loop-mutator-test.true)
    (λ is. elim c.else-name-mutator.branch [
      | else-name-mutator-via-then-name-mutator+else-name-mutator-2 w ↦ (let most : c.args.name.birth ≤ x.births = is.1 in omega arith)
      | else-name-mutator-via-else-name-mutator w ↦ w.if-name-mutator.false is.0
    ])

pub returns : goal.returns
returns c = (
  λ is. absurd (let wrong : false ≡ true = is in cc),
  λ any. absurd (none-any (λ m. (c.args.name.mutator ≡ m.number) × (c.args.name.birth ≤ m.births)) c.args.mutators.now c.loop-mutator.mutator-index (omega arith) c.loop-mutator.invariant any),
)
