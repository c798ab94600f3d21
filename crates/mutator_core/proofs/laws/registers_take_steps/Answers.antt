use Rattle.object_model.proofs.StepClauses.{answered}
use Rattle.object_model.proofs.RegisterSteps as registers
use Rattle.mutator_core.proofs.laws.registers_take_steps.Goals as goal

pub returns-clause-move_register : goal.returns-clause-move_register
returns-clause-move_register c s m d e low small = answered (registers.move-register s m d e low small)

pub returns-clause-drop_register : goal.returns-clause-drop_register
returns-clause-drop_register c s m e small = answered (registers.drop-register s m e small)

pub returns-clause-load_nil : goal.returns-clause-load_nil
returns-clause-load_nil c s m d g low few nil = answered (registers.load-nil s m d g low few nil)

pub returns-clause-load : goal.returns-clause-load
returns-clause-load c s m d g low few some = answered (registers.load-ref s m d g low few some)

pub returns-clause-share : goal.returns-clause-share
returns-clause-share c s m g e few small = answered (registers.share-global s m g e few small)
