use Rattle.std.proofs.Common.{sym, subst, map}
use Rattle.std.proofs.lemmas.Result.{IfOk-weaker}
use Rattle.object_model.specs.Heaps.{heap_state}
use Rattle.heap_users.specs.Users.{mutator_state}
use Rattle.racing_world.proofs.Begun as begun
use Rattle.racing_tests.specs.Beginnings.{BeginsIdeal}
use Rattle.racing_tests.proofs.worlds.opened.Goals as goal

pub returns-clause-ideal : goal.returns-clause-ideal
returns-clause-ideal g c = IfOk-weaker c.begin.result _ _
    (λ r epoch. subst BeginsIdeal (sym epoch) (begun.represents (heap_state c.args.heap) (map mutator_state c.args.mutators.items) c.args.heap.lawful c.requires.users)) c.begin.ensures.epoch
