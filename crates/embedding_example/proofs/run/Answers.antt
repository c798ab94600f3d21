use Rattle.std.proofs.Common.{ℕ, ◌%◌, ◌^◌, ap, ◌∙◌, List, []}
use mathlib.Core.List.{reverse}
use Rattle.embedding_example.specs.Lists.{numbers_down_from}
use Rattle.embedding_example.proofs.Numbers as numbers
use Rattle.embedding_example.proofs.run.Goals as goal

pub returns-clause-sum : goal.returns-clause-sum
returns-clause-sum g c =
    let xs : List ℕ = numbers_down_from c.args.count in
    let turned = c.in_ok-reverse.ensures.reversed xs (numbers.few-down c.args.count) c.in_ok-build.ensures in
    let kept = c.in_ok-collect.ensures.kept [] (reverse xs) turned in
    let read = c.last_number-last.ensures.number [] (reverse xs) kept in
    let handed = c.hand_over.ensures.list [] (reverse xs) read.1 in
    c.sum-sum.ensures (reverse xs) (numbers.few-turned c.args.count) handed ∙ ap (λ (n : ℕ). n % 2 ^ 64) (numbers.sum-turned c.args.count)

pub returns-clause-last : goal.returns-clause-last
returns-clause-last g c =
    let xs : List ℕ = numbers_down_from c.args.count in
    let turned = c.in_ok-reverse.ensures.reversed xs (numbers.few-down c.args.count) c.in_ok-build.ensures in
    let kept = c.in_ok-collect.ensures.kept [] (reverse xs) turned in
    (c.last_number-last.ensures.number [] (reverse xs) kept).0
