use Rattle.object_model.proofs.BornHeaps as born
use Rattle.object_model.proofs.heap_laws.births_keep_heaps_lawful.Goals as goal

pub returns-clause-order : goal.returns-clause-order
returns-clause-order c s new a refs nums n order room writes = born.order-small s new a refs nums n order room writes

pub returns-clause-but_lines : goal.returns-clause-but_lines
returns-clause-but_lines c s new a refs nums n old room writes = born.but_lines-small s new a refs nums n old.order room writes old

pub returns-clause-lawful : goal.returns-clause-lawful
returns-clause-lawful c s new a refs nums n old room no_lines writes = born.lawful-small s new a refs nums n old.but_lines.order room writes no_lines old

pub returns-clause-marked : goal.returns-clause-marked
returns-clause-marked c = born.lawful-marked

pub returns-clause-marked_before : goal.returns-clause-marked_before
returns-clause-marked_before c = born.lawful-marked_before

pub returns-clause-represents : goal.returns-clause-represents
returns-clause-represents c = born.represents-small
