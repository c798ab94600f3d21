use Rattle.trace_tests.proofs.racing.race_registers.Goals as goal

pub race_register-requires-clause-root : goal.race_register-requires-clause-root
race_register-requires-clause-root c = c.requires.roots c.loop-register.register-index c.loop-register-test.true
