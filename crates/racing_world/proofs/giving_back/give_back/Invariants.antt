use Rattle.object_model.specs.Objects.{state_of}
use Rattle.racing_world.proofs.GivenBack.{IsGivenBelow}
use Rattle.racing_world.proofs.giving_back.give_back.Given as goal

abbrev pub invariant-loop-block : goal.invariant-loop-block
invariant-loop-block g l = IsGivenBelow (state_of l.fn.row) (state_of l.row) l.block
