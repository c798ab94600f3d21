use Rattle.object_model.specs.Graphs.{IsReachable, roots_of}
use Rattle.object_model.proofs.Representation as standing
use Rattle.object_model.proofs.step_laws.heaps_represent_on_sets.Goals as goal

pub returns : goal.returns
returns c s ms h =
    (λ both. standing.models s ms h both.0 both.1, λ model. (model.order, standing.represents s ms h (IsReachable s (roots_of ms)) model))
