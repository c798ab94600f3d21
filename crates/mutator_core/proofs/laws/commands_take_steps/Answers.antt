use Rattle.object_model.proofs.StepClauses.{answered}
use Rattle.object_model.proofs.NumberSteps as numbers
use Rattle.object_model.proofs.FieldSteps as fields
use Rattle.object_model.proofs.PinSteps as pins
use Rattle.object_model.proofs.LawfulStores as stores
use Rattle.mutator_core.proofs.laws.commands_take_steps.Goals as goal

pub returns-clause-write : goal.returns-clause-write
returns-clause-write c s m e j v order held small some less fits = answered (numbers.write-number s m e j v order held small some less fits)

pub returns-clause-put : goal.returns-clause-put
returns-clause-put c s m e i q order held small low some less = answered (fields.put-field s m e i q order held small low some less)

pub returns-clause-add : goal.returns-clause-add
returns-clause-add c s m e j n order held small some less = answered (numbers.add-number s m e j n order held small some less)

pub returns-clause-swap : goal.returns-clause-swap
returns-clause-swap c s m e j was next order held small some less same fits =
    answered (numbers.swap-yes s m e j was next order held small some less same fits)

pub returns-clause-pin : goal.returns-clause-pin
returns-clause-pin c s new m e small some sets = answered (pins.pin-object s new m e small some sets)

pub returns-clause-unpin : goal.returns-clause-unpin
returns-clause-unpin c s new m e small some sets = answered (pins.unpin-object s new m e small some sets)

pub returns-clause-log : goal.returns-clause-log
returns-clause-log c s words a clears = stores.keeps s words a clears
