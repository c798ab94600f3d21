use Rattle.mutator_rule.proofs.racing_row.RacingRow.clear.Given as goal

abbrev pub ghosts-clear_as : goal.ghosts-clear_as
ghosts-clear_as g a = record { event = a._event.now }
