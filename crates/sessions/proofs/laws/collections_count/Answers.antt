use Rattle.std.proofs.Common.{ap}
use Rattle.object_model.specs.Objects.{HeapState}
use Rattle.sessions.proofs.CountedCollections.{counts-one}
use Rattle.sessions.proofs.laws.collections_count.Goals as goal

pub returns-clause-one : goal.returns-clause-one
returns-clause-one c = counts-one

pub returns-clause-nogc : goal.returns-clause-nogc
returns-clause-nogc c workers kind old new roots after counts =
    (counts.full, ap (λ (s : HeapState). s.words) counts.heap, ap (λ (s : HeapState). s.base) counts.heap, counts.registers)
