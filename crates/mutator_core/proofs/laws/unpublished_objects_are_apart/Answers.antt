use Rattle.std.proofs.Common.{sym, ◌∙◌, ap, inl, inr, arith}
use Rattle.object_model.specs.Objects.{owner_at}
use Rattle.mutator_core.specs.Logs.{machine_after, heap_after}
use Rattle.mutator_core.proofs.Beginnings.{log-ends}
use Rattle.mutator_core.proofs.Regions.{unpublished-clear, unpublished-owner, unpublished-apart, listed-owned}
use Rattle.mutator_core.proofs.laws.unpublished_objects_are_apart.Goals as goal

pub returns-clause-clear : goal.returns-clause-clear
returns-clause-clear c p i log is m x w word holds inside =
    elim (unpublished-clear p is.ready (machine_after p log) (log-ends p i log is.ready is.represents is.steps).moment.epoch m x w word.some holds inside) as (λ _. ⊥) [
      | inl before ↦ (let from = word.inside.from in omega arith)
      | inr beyond ↦ (let below = word.inside.below in omega arith)
    ]

pub returns-clause-apart : goal.returns-clause-apart
returns-clause-apart c p i log is m n w word other =
    unpublished-apart p is.ready (machine_after p log) (log-ends p i log is.ready is.represents is.steps).moment.epoch m n w word.some other.some word.inside.from word.inside.below other.inside.from other.inside.below

pub returns-clause-owner : goal.returns-clause-owner
returns-clause-owner c p i log is m w word =
    unpublished-owner p is.ready (machine_after p log) (log-ends p i log is.ready is.represents is.steps).moment.epoch m w word.some word.inside.from word.inside.below

pub returns-clause-alone : goal.returns-clause-alone
returns-clause-alone c p i log is m n w o word listed here =
    let epoch = (log-ends p i log is.ready is.represents is.steps).moment.epoch in
    sym (unpublished-owner p is.ready (machine_after p log) epoch m w word.some word.inside.from word.inside.below)
    ∙ ap (owner_at (heap_after p log)) (sym here) ∙ (listed-owned p is.ready (machine_after p log) epoch n o listed).owner
