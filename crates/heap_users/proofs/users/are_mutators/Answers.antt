use Rattle.std.proofs.Common.{◌≡◌, refl, sym, ◌∙◌, arith, ℕ, List, get_or, false, true}
use Rattle.mutator_calls.specs.declared.need.Mutator.{Mutator}
use Rattle.object_model.specs.Graphs.{IsMutatorState}
use Rattle.heap_users.specs.Users.{mutator_state}
use Rattle.heap_users.proofs.UserLists.{nobody, get-read, each-more, each-all, all-each, new-more, new-different, taken-same}
use Rattle.heap_users.proofs.users.are_mutators.Goals as goal
use Rattle.heap_users.proofs.users.are_mutators.Goals.{then-not-is_mutator-via-then-not-is_mutator, then-not-is_mutator-via-else-not-is_mutator+then-has_number}

pub returns-then-not-is_mutator : goal.returns-then-not-is_mutator
returns-then-not-is_mutator c =
    let ms : List Mutator = c.args.mutators.now in
    let k : ℕ = c.loop-i.i in
    let x : Mutator = get_or ms k nobody in (
      λ is. absurd (let wrong : false ≡ true = is in cc),
      λ are. elim c.then-not-is_mutator.branch [
        | then-not-is_mutator-via-then-not-is_mutator w ↦ (
            let one : IsMutatorState (mutator_state x) = all-each IsMutatorState ms k x are.each (get-read ms k nobody c.loop-i-test.true) in
            sym w.if-not-is_mutator.true ∙ c.is_mutator.ensures.1 one)
        | then-not-is_mutator-via-else-not-is_mutator+then-has_number w ↦
            absurd (taken-same ms k x (get-read ms k nobody c.loop-i-test.true) (w.if-has_number.ensures.0 refl) are.differ)
      ],
    )

pub loop-i-preserved : goal.loop-i-preserved
loop-i-preserved c =
    let ms : List Mutator = c.args.mutators.now in
    let k : ℕ = c.loop-i.i in
    let x : Mutator = get_or ms k nobody in (
      each-more IsMutatorState ms k x c.loop-i.invariant.0 (get-read ms k nobody c.loop-i-test.true) (c.is_mutator.ensures.0 c.if-not-is_mutator.false),
      new-more ms k x c.loop-i.invariant.1 (get-read ms k nobody c.loop-i-test.true)
          (λ taken. let wrong : false ≡ true = c.if-has_number.ensures.1 taken in cc),
    )

pub returns : goal.returns
returns c = (
  λ _. record {
    each = each-all IsMutatorState c.args.mutators.now c.loop-i.i (omega arith) c.loop-i.invariant.0;
    differ = new-different c.args.mutators.now c.loop-i.i (omega arith) c.loop-i.invariant.1;
  },
  λ _. refl,
)
