use Rattle.object_model.proofs.LawfulStores as stores
use Rattle.object_model.proofs.heap_laws.stores_keep_heaps_lawful.Goals as goal

pub returns-clause-number : goal.returns-clause-number
returns-clause-number c = stores.number

pub returns-clause-reference : goal.returns-clause-reference
returns-clause-reference c = stores.reference

pub returns-clause-global : goal.returns-clause-global
returns-clause-global c = stores.global

pub returns-clause-pin : goal.returns-clause-pin
returns-clause-pin c = stores.pin

pub returns-clause-log : goal.returns-clause-log
returns-clause-log c = stores.log
