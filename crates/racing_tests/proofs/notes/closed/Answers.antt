use Rattle.std.proofs.lemmas.Result.{IfOk-weaker}
use Rattle.plain_world.proofs.Closed.{may-use}
use Rattle.racing_tests.proofs.notes.closed.Goals as goal

pub returns-clause-users : goal.returns-clause-users
returns-clause-users g c =
    let some = c.requires.ideal in
    IfOk-weaker c.close_with.result _ _ (λ r ends. may-use _ _ _ (ends.stopped some.0 some.1).represents) c.close_with.ensures.ends

pub returns-clause-remembers : goal.returns-clause-remembers
returns-clause-remembers g c =
    let some = c.requires.ideal in
    IfOk-weaker c.close_with.result _ _ (λ r ends. (ends.stopped some.0 some.1).remembers) c.close_with.ensures.ends
