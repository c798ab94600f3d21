use Rattle.mutator_rule.proofs.racing_row.RacingRow.set.Given as goal

abbrev pub ghosts-set_as : goal.ghosts-set_as
ghosts-set_as g a = record { event = a._event.now }
