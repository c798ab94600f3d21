use Rattle.std.proofs.Common.{refl}
use Rattle.sessions.proofs.CollectionsOfPlans.{left-in-place, old-in-place}
use Rattle.sessions.proofs.WrongCollections.{one-worker, young-in-place, old-in-full}
use Rattle.sessions.proofs.collecting_laws.objects_left_in_place.Goals as goal

pub returns-clause-two_workers : goal.returns-clause-two_workers
returns-clause-two_workers c = left-in-place

pub returns-clause-one_worker : goal.returns-clause-one_worker
returns-clause-one_worker c = one-worker

pub returns-clause-nursery : goal.returns-clause-nursery
returns-clause-nursery c = young-in-place

pub returns-clause-old : goal.returns-clause-old
returns-clause-old c = old-in-place

pub returns-clause-full : goal.returns-clause-full
returns-clause-full c = old-in-full

pub returns-clause-free : goal.returns-clause-free
returns-clause-free c = refl
