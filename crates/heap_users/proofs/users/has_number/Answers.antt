use Rattle.std.proofs.Common.{◌≡◌, refl, arith, ℕ, List, get_or, false, true}
use Rattle.mutator_calls.specs.declared.need.Mutator.{Mutator}
use Rattle.heap_users.proofs.UserLists.{nobody, get-read, any-at, each-more, none-any}
use Rattle.heap_users.proofs.users.has_number.Goals as goal

pub returns-then-mutator-number : goal.returns-then-mutator-number
returns-then-mutator-number c =
    let ms : List Mutator = c.args.mutators.now in
    let k : ℕ = c.loop-mutator.mutator-index in
    (λ _. any-at (λ m. m.number ≡ c.args.number) ms k (get_or ms k nobody) (get-read ms k nobody c.loop-mutator-test.true) c.if-mutator-number.true, λ _. refl)

pub loop-mutator-preserved : goal.loop-mutator-preserved
loop-mutator-preserved c =
    let ms : List Mutator = c.args.mutators.now in
    let k : ℕ = c.loop-mutator.mutator-index in
    each-more (λ m. m.number ≡ c.args.number → ⊥) ms k (get_or ms k nobody) c.loop-mutator.invariant (get-read ms k nobody c.loop-mutator-test.true) c.if-mutator-number.false

pub returns : goal.returns
returns c = (
  λ is. absurd (let wrong : false ≡ true = is in cc),
  λ any. absurd (none-any (λ m. m.number ≡ c.args.number) c.args.mutators.now c.loop-mutator.mutator-index (omega arith) c.loop-mutator.invariant any),
)
