use Rattle.std.proofs.Common.{refl}
use Rattle.sessions.proofs.StopSteps as steps
use Rattle.sessions.proofs.stop_laws.stops_make_collections.Goals as goal

pub returns-clause-full : goal.returns-clause-full
returns-clause-full c = steps.full-counts

pub returns-clause-nursery : goal.returns-clause-nursery
returns-clause-nursery c = steps.nursery-counts

pub returns-clause-next : goal.returns-clause-next
returns-clause-next c = steps.collection-next

pub returns-clause-births : goal.returns-clause-births
returns-clause-births c = steps.collection-births

pub returns-clause-job : goal.returns-clause-job
returns-clause-job c = steps.collection-job

pub returns-clause-nobody : goal.returns-clause-nobody
returns-clause-nobody c = steps.gc-nobody

pub returns-clause-for_all : goal.returns-clause-for_all
returns-clause-for_all c = steps.gc-for_all

pub returns-clause-replies : goal.returns-clause-replies
returns-clause-replies c = steps.replies-keep

pub returns-clause-done : goal.returns-clause-done
returns-clause-done c = refl
