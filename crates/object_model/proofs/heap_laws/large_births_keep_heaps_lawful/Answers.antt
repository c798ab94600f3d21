use Rattle.object_model.proofs.BornHeaps as born
use Rattle.object_model.proofs.heap_laws.large_births_keep_heaps_lawful.Goals as goal

pub returns-clause-order : goal.returns-clause-order
returns-clause-order c s new k refs nums n order room writes = born.order-large s writes.between new k refs nums n order room writes.run writes.object

pub returns-clause-but_lines : goal.returns-clause-but_lines
returns-clause-but_lines c s new k refs nums n old room writes = born.but_lines-large s writes.between new k refs nums n old.order room writes.run writes.object old

pub returns-clause-lawful : goal.returns-clause-lawful
returns-clause-lawful c s new k refs nums n old room writes = born.lawful-large s writes.between new k refs nums n old.but_lines.order room writes.run writes.object old

pub returns-clause-represents : goal.returns-clause-represents
returns-clause-represents c s new ms h m d k refs nums order represents known few room writes =
    born.represents-large s writes.between new ms h m d k refs nums order represents known few room writes.run writes.object
