use Rattle.object_model.proofs.StepClauses.{answered}
use Rattle.object_model.proofs.StepCases as cases
use Rattle.object_model.proofs.NumberSteps as numbers
use Rattle.mutator_core.proofs.laws.reads_take_steps.Goals as goal

pub returns-clause-get_nil : goal.returns-clause-get_nil
returns-clause-get_nil c s m d e i low small some less nil = answered (cases.get-nil s m d e i low small some less nil)

pub returns-clause-get : goal.returns-clause-get
returns-clause-get c s m d e i low small some less there = answered (cases.get-ref s m d e i low small some less there)

pub returns-clause-read : goal.returns-clause-read
returns-clause-read c s m e j small some less = answered (cases.read-number s m e j small some less)

pub returns-clause-swap_no : goal.returns-clause-swap_no
returns-clause-swap_no c s m e j was next small some less other = answered (numbers.swap-no s m e j was next small some less other)
