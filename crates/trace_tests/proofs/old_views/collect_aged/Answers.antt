use Rattle.trace_tests.proofs.old_views.collect_aged.Goals as goal

pub collect_counted-requires-clause-offered : goal.collect_counted-requires-clause-offered
collect_counted-requires-clause-offered g c κs within = c.check_offered.ensures g.P.Plan.rules c.requires.young c.args.aged.remembers

pub remembering-aged-requires : goal.remembering-aged-requires
remembering-aged-requires g c = record { remembers = c.in_ok-made.ensures c.requires.collects c.requires.young }
