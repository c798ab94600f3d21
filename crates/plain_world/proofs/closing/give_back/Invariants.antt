use Rattle.object_model.specs.Objects.{state_of}
use Rattle.block_regions.proofs.GivingBack.{IsGivingBack}
use Rattle.plain_world.proofs.closing.give_back.Given as goal

abbrev pub invariant-loop-block : goal.invariant-loop-block
invariant-loop-block g l = IsGivingBack g.P.Plan.rules.fill (state_of l.fn.row) (state_of l.row) l.fn.notes.items l.notes.items l.owned l.block-index
