-- The parts that were run are those of the epoch.
use Rattle.session_tests.proofs.epoch_tests.epoch_on_threads.Goals as goal

pub run_parts-requires-clause-ready : goal.run_parts-requires-clause-ready
run_parts-requires-clause-ready g c κs within = (c.args.manager, c.requires.ready, c.in_ok-epoch.ensures.epoch)

pub close_epoch-requires-clause-ready : goal.close_epoch-requires-clause-ready
close_epoch-requires-clause-ready g c κs within = (c.args.manager, c.requires.ready, c.run_parts.ensures.epoch c.args.manager c.in_ok-epoch.ensures.epoch)

pub returns-clause-left : goal.returns-clause-left
returns-clause-left g c more = c.in_ok-manager.ensures.left c.args.manager c.requires.ready (c.run_parts.ensures.epoch c.args.manager c.in_ok-epoch.ensures.epoch) more
