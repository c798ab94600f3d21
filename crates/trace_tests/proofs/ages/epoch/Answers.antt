use Rattle.trace_tests.proofs.ages.epoch.Goals as goal

pub begin-requires-clause-remembers : goal.begin-requires-clause-remembers
begin-requires-clause-remembers g c = λ young. c.args.aged.remembers
