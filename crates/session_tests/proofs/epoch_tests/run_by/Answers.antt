use Rattle.std.proofs.lemmas.List.Elements.{All-map}
use Rattle.driver.specs.Prelude.{IsRunnableTrace}
use Rattle.session_tests.proofs.epoch_tests.run_by.Goals as goal

pub begin-requires-clause-runnable : goal.begin-requires-clause-runnable
begin-requires-clause-runnable g c = All-map IsRunnableTrace (λ v. v.items) c.args.traces.items c.check_runnable.ensures
