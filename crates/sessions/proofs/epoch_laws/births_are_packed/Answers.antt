use Rattle.std.proofs.Common.{refl, inl, inr}
use Rattle.sessions.proofs.BirthPlaces as places
use Rattle.sessions.proofs.epoch_laws.births_are_packed.Goals as goal

pub returns-clause-tail : goal.returns-clause-tail
returns-clause-tail c rules old part new a birth = places.packed-tail rules.fill old new a birth.packed

pub returns-clause-free : goal.returns-clause-free
returns-clause-free c rules old part new a birth = places.packed-free rules.fill old new a birth.packed

pub returns-clause-lines : goal.returns-clause-lines
returns-clause-lines c rules old part new a birth = places.packed-lines rules.fill old new a birth.packed

pub returns-clause-cells : goal.returns-clause-cells
returns-clause-cells c old new a = inl refl

pub returns-clause-hole : goal.returns-clause-hole
returns-clause-hole c fill old new a hole = inr (inl hole)

pub returns-clause-start : goal.returns-clause-start
returns-clause-start c fill old new a free start = inr (inr (inl (free, start)))

pub returns-clause-next : goal.returns-clause-next
returns-clause-next c fill old new a x holds block end = inr (inr (inr (x, holds, block, end)))
