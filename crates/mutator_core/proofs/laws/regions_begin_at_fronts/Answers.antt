use Rattle.std.proofs.Common.{subst, ◌<◌, inl, inr, arith, [], ◌∷◌}
use Rattle.object_model.specs.Objects.{size_of}
use Rattle.mutator_core.specs.declared.state.Event.{Event}
use Rattle.mutator_core.specs.Machine.{first_machine}
use Rattle.mutator_core.specs.Guards.{MayStep, MayInitialize, BeginsRegion}
use Rattle.mutator_core.specs.Logs.{local_after_log}
use Rattle.mutator_core.proofs.Regions.{log-rest}
use Rattle.mutator_core.proofs.laws.regions_begin_at_fronts.Goals as goal

pub returns : goal.returns
returns c p i log x a refs nums is first =
    let may : MayInitialize p (local_after_log p log x.mutator) a refs nums 0 = subst (λ (y : Event). MayStep p (local_after_log p log x.mutator) y) first (log-rest p (first_machine p) log (x ∷ []) is.steps).1 in
    elim may.1 as (λ _. BeginsRegion p (local_after_log p log x.mutator).made a (size_of refs nums)) [
      | inl begin ↦ begin.1.region
      | inr more ↦ absurd (let some : 0 < 0 = more.0 in omega arith)
    ]
