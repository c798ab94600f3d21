use Rattle.std.proofs.Common.{refl}
use Rattle.sessions.proofs.GcSessions.{last, whole}
use Rattle.sessions.proofs.stop_laws.a_gc_makes_one_full_collection.Goals as goal

pub returns : goal.returns
returns c p collects = (last p collects, whole p collects, refl, refl, refl)
